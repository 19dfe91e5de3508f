-- The same command on both sizes: the same number, emptied, address, links and byte, states that embed again, and the same counts (00; 02,
-- M-100, M-106).
use mathlib.Core.Path.{◌≡◌, refl, sym, subst, ap, ◌∙◌}
use mathlib.Core.Bool.{Bool, true, false, not, ◌&&◌, cond}
use mathlib.Core.List.{List, [], ◌∷◌, ◌++◌}
use Prim.Native.Nat.{ℕ, ◌≤◌, ◌<◌}
use native.Mathlib.Decide.{ℕ_discrete}
use native.Mathlib.Omega.{arith}
use lib.Dec.{T, ltb→lt}
use lib.ListN.{length, get_or, set, get_or-eq_default}
use Rattle.lend.specs.declared.Place.{Place}
use Rattle.lend.specs.declared.Slot.{Slot}
use Rattle.lend.specs.declared.Count.{Count}
use Rattle.lend.specs.Sizes.{Sizes, slot_count, key, memory_bytes}
use Rattle.lend.specs.Slots.{slot_at, held}
use Rattle.lend.specs.Tables.{Tables, State, table_of}
use Rattle.lend.specs.Summary.{no_count, count_at}
use Rattle.lend.specs.Sound.{Sound}
use Rattle.lend.specs.Emptied.{emptied}
use Rattle.lend.specs.Withdraw.{unmapped, flushed}
use Rattle.lend.specs.Lending.{mapped, granted}
use Rattle.lend.specs.Translate.{address_page, physical, links_to, hit, entry_of, with_entry, looked}
use Rattle.lend.specs.Calls.{Call, Create, Delete, Unmap, Flush, Map, Grant, Translate, Load, Store, number, board_after, memory_after, report, Outcome, accept, refuse, step}
use Rattle.lend_basics.proofs.Bools.{and_l, and_r, or_l, or_r}
use Rattle.lend_laws.proofs.Accepted.{accepted, refused, report_number, delete_fine}
use Rattle.lend_laws.proofs.Emptied.{looked_slots, emptied_counts}
use Rattle.lend_laws.proofs.Spaces.{out_of_pool}
use Rattle.lend_lending.proofs.Map.{key_in, mapped_sound}
use Rattle.lend_lending.proofs.Grant.{GrantFine, grant_fine, lent_by, parent_lendable}
use Rattle.lend_lending.proofs.Insert.{page_in, translate_fine, load_fine, store_fine}
use Rattle.lend_lending.proofs.Always.{step_sound}
use Rattle.lend_models.specs.Embedding.{Fits, wide_slots, wide_live, wide_summary}
use Rattle.lend_models.specs.Agreement.{in_limits, all_in_limits, is_page, is_address, takes_memory, any_memory, more_bytes, Embeds, Agree, AllAgree}
use Rattle.lend_models.proofs.Wide.{widen, key_widened, wide_at, wide_page, length_wide}
use Rattle.lend_models.proofs.WidePages.{two_spaces}
use Rattle.lend_models.proofs.WideSlots.{rest_same, wide_unmapped, wide_flushed, wide_wiped, wide_mapped, wide_granted, wide_live_set}
use Rattle.lend_models.proofs.Counts.{count_wide}
use Rattle.lend_models.proofs.WideSummary.{wide_count, same_summary}
use Rattle.lend_models.proofs.WideMemory.{physical_in, byte_same, store_same}
use Rattle.lend_models.proofs.SameNumber.{grown, frame_same, links_same, number_same, limit_space, limit_page, limit_address}

-- ── the pages that a call empties ────────────────────────────────────────
-- a page that is held is not empty
held_once : (b : Bool) → (b && not b) ≡ false
held_once true = refl
held_once false = refl

-- a change of the slots empties as many pages at both sizes
pub emptied_same : (z w : Sizes) → Fits z w → 1 ≤ z.pages → (b c : List Slot) → length b ≡ slot_count z
    → emptied (wide_slots z w b) (wide_slots z w c) ≡ emptied b c
unfolding emptied
emptied_same z w fits some_page b c long =
    rw (length_wide z w fits some_page b, long)
    (count_wide z w fits some_page (λ k. held (slot_at b k) && not (held (slot_at c k)))
    (λ k. held (slot_at (wide_slots z w b) k) && not (held (slot_at (wide_slots z w c) k)))
    (λ k l. rw (wide_at z w fits some_page b k l, wide_at z w fits some_page c k l))
    (λ k l n. rw (rest_same z w fits some_page b c k n) (held_once (held (slot_at (wide_slots z w c) k)))))

-- ── an accepted call ─────────────────────────────────────────────────────
-- a look at a page leaves the live spaces
pub looked_live : (z : Sizes) (b : Tables) (space address : ℕ) → (looked z b space address).live ≡ b.live
unfolding looked
looked_live z b space address = go (hit b space address)
  where
    go : (t : Bool) → (cond t b (with_entry b (entry_of z b space (address_page address)))).live ≡ b.live
    go true = refl
    go false = refl

module _ (z w : Sizes) (fits : Fits z w) (some_page : 1 ≤ z.pages) (rest : List ℕ) (st : State) (sound : Sound z st.board) (places : List Place) (next : ℕ) where
  -- the state at the larger sizes
  large : State
  large = grown z w rest st places next

  -- there are spaces 0 and 1
  two : 2 ≤ z.spaces
  two = two_spaces z w fits some_page st.board.live st.board.slots sound.shape.live_long sound.shape.slots_long sound.pages

  -- an address is translated alike
  pub physical_same : (s a : ℕ) → a < memory_bytes z → physical w (grown z w rest st places next).board s a ≡ physical z st.board s a
  unfolding physical
  physical_same s a h =
      rw (frame_same z w fits some_page st.board.live st.board.slots sound.shape.live_long sound.shape.slots_long sound.pages s (address_page a) (page_in z a h))

  -- the slots after an accepted grant are the same
  grant_slots : (s p u v r : ℕ) → T (is_page z s p && is_page z u v) → GrantFine z st.board s p u v r
      → granted w (key w s p) (key w u v) r (wide_slots z w st.board.slots) ≡ wide_slots z w (granted z (key z s p) (key z u v) r st.board.slots)
  grant_slots s p u v r h g =
      let l = lent_by z st.board.live (table_of st.board) sound.pages (key z s p) (out_of_pool z s p g.giver_out) g.lendable.giver_held in
      ap (λ (k : ℕ). granted w k (key w u v) r (wide_slots z w st.board.slots)) (sym (key_widened z w fits some_page s p (limit_page z s p hs)))
      ∙ (ap (λ (k : ℕ). granted w (widen z w (key z s p)) k r (wide_slots z w st.board.slots)) (sym (key_widened z w fits some_page u v (limit_page z u v hu)))
      ∙ sym (wide_granted z w fits some_page st.board.live st.board.slots sound.shape.live_long sound.shape.slots_long sound.pages
      (key z s p) (key z u v) r l.0 l.1 (key_in z s p (limit_space z s p hs) (limit_page z s p hs)) (key_in z u v (limit_space z u v hu) (limit_page z u v hu)) l.2
      (mapped_sound z st.board.live st.board.slots sound.shape.live_long sound.shape.slots_long sound.pages l.0 l.1 u v r
      (parent_lendable z st.board.live (table_of st.board) sound.shape.live_long sound.pages s p u v r g.lendable l.0 l.1 l.2))))
    where
      hs : T (is_page z s p)
      hs = and_l (is_page z s p) (is_page z u v) h

      hu : T (is_page z u v)
      hu = and_r (is_page z s p) (is_page z u v) h

  -- the slots after an accepted call are the same
  slots_after : (c : Call) → T (in_limits z c) → number z st c ≡ 0 → (board_after w large.board c).slots ≡ wide_slots z w (board_after z st.board c).slots
  unfolding board_after large
  slots_after (Create s) h e = refl
  slots_after (Delete s) h e =
      sym (wide_wiped z w fits some_page st.board.live st.board.slots sound.shape.live_long sound.shape.slots_long sound.pages s (omega (arith, (delete_fine z st s e).others)))
  slots_after (Unmap s p d) h e =
      ap (λ (k : ℕ). unmapped w k d (wide_slots z w st.board.slots)) (sym (key_widened z w fits some_page s p (limit_page z s p h)))
      ∙ sym (wide_unmapped z w fits some_page st.board.live st.board.slots sound.shape.live_long sound.shape.slots_long sound.pages (key z s p) d)
  slots_after (Flush s p d) h e =
      ap (λ (k : ℕ). flushed w k d (wide_slots z w st.board.slots)) (sym (key_widened z w fits some_page s p (limit_page z s p h)))
      ∙ sym (wide_flushed z w fits some_page st.board.live st.board.slots sound.shape.live_long sound.shape.slots_long sound.pages (key z s p) d
      (key_in z s p (limit_space z s p h) (limit_page z s p h)))
  slots_after (Map s p u v r) h e =
      let hu = and_r (is_page z s p) (is_page z u v) h in
      ap (λ (k : ℕ). mapped w s p k r (wide_slots z w st.board.slots)) (sym (key_widened z w fits some_page u v (limit_page z u v hu)))
      ∙ sym (wide_mapped z w fits some_page st.board.live st.board.slots sound.shape.live_long sound.shape.slots_long sound.pages s p (key z u v) r
      (key_in z u v (limit_space z u v hu) (limit_page z u v hu)))
  slots_after (Grant s p u v r) h e = grant_slots s p u v r h (grant_fine z st s p u v r e)
  slots_after (Translate s a r) h e = looked_slots w large.board s a ∙ ap (wide_slots z w) (sym (looked_slots z st.board s a))
  slots_after (Load s a) h e = looked_slots w large.board s a ∙ ap (wide_slots z w) (sym (looked_slots z st.board s a))
  slots_after (Store s a byte) h e = looked_slots w large.board s a ∙ ap (wide_slots z w) (sym (looked_slots z st.board s a))

  -- so are the live spaces
  live_after : (c : Call) → T (in_limits z c) → (board_after w large.board c).live ≡ wide_live z w (board_after z st.board c).live
  unfolding board_after large
  live_after (Create s) h = sym (wide_live_set z w fits two st.board.live sound.shape.live_long s true (ltb→lt s z.spaces h))
  live_after (Delete s) h = sym (wide_live_set z w fits two st.board.live sound.shape.live_long s false (ltb→lt s z.spaces h))
  live_after (Unmap s p r) h = refl
  live_after (Flush s p r) h = refl
  live_after (Map s p u v r) h = refl
  live_after (Grant s p u v r) h = refl
  live_after (Translate s a r) h = looked_live w large.board s a ∙ ap (wide_live z w) (sym (looked_live z st.board s a))
  live_after (Load s a) h = looked_live w large.board s a ∙ ap (wide_live z w) (sym (looked_live z st.board s a))
  live_after (Store s a byte) h = looked_live w large.board s a ∙ ap (wide_live z w) (sym (looked_live z st.board s a))

  -- the same byte is written
  store_after : (s a byte : ℕ) → T (is_address z s a) → number z st (Store s a byte) ≡ 0
      → set (st.memory ++ rest) (physical w large.board s a) byte ≡ set st.memory (physical z st.board s a) byte ++ rest
  unfolding large
  store_after s a byte h e =
      let r = store_fine z st s a byte e in
      rw (physical_same s a (limit_address z s a h))
      (store_same st.memory rest (memory_bytes z) (physical z st.board s a) byte r.1 (physical_in z st.board sound s a r.0.is_held))

  -- and memory is the same
  memory_after_law : (c : Call) → T (in_limits z c) → number z st c ≡ 0 → memory_after w large c ≡ memory_after z st c ++ rest
  unfolding memory_after large
  memory_after_law (Create s) h e = refl
  memory_after_law (Delete s) h e = refl
  memory_after_law (Unmap s p r) h e = refl
  memory_after_law (Flush s p r) h e = refl
  memory_after_law (Map s p u v r) h e = refl
  memory_after_law (Grant s p u v r) h e = refl
  memory_after_law (Translate s a r) h e = refl
  memory_after_law (Load s a) h e = refl
  memory_after_law (Store s a byte) h e = store_after s a byte h e

  -- the address that is reported is the same
  address_after : (c : Call) → T (in_limits z c) → (report w large c).address ≡ (report z st c).address
  unfolding report large
  address_after (Create s) h = refl
  address_after (Delete s) h = refl
  address_after (Unmap s p r) h = refl
  address_after (Flush s p r) h = refl
  address_after (Map s p u v r) h = refl
  address_after (Grant s p u v r) h = refl
  address_after (Translate s a r) h = physical_same s a (limit_address z s a h)
  address_after (Load s a) h = refl
  address_after (Store s a byte) h = refl

  -- so are the links to the frame
  links_after : (c : Call) → T (in_limits z c) → number z st c ≡ 0 → (report w large c).links ≡ (report z st c).links
  unfolding report large links_to
  links_after (Create s) h e = refl
  links_after (Delete s) h e = refl
  links_after (Unmap s p r) h e = refl
  links_after (Flush s p r) h e = refl
  links_after (Map s p u v r) h e = refl
  links_after (Grant s p u v r) h e = refl
  links_after (Translate s a r) h e =
      links_same z w fits some_page st.board.live st.board.slots sound.shape.live_long sound.shape.slots_long sound.pages s (address_page a)
      (page_in z a (limit_address z s a h)) (translate_fine z st s a r e).is_held
  links_after (Load s a) h e = refl
  links_after (Store s a byte) h e = refl

  -- the same byte is read
  load_after : (s a : ℕ) → T (is_address z s a) → number z st (Load s a) ≡ 0
      → get_or (st.memory ++ rest) (physical w large.board s a) 0 ≡ get_or st.memory (physical z st.board s a) 0
  unfolding large
  load_after s a h e =
      let r = load_fine z st s a e in
      rw (physical_same s a (limit_address z s a h))
      (byte_same st.memory rest (memory_bytes z) (physical z st.board s a) r.1 (physical_in z st.board sound s a r.0.is_held))

  -- so the byte that is reported is the same
  byte_after : (c : Call) → T (in_limits z c) → number z st c ≡ 0 → (report w large c).byte ≡ (report z st c).byte
  unfolding report large
  byte_after (Create s) h e = refl
  byte_after (Delete s) h e = refl
  byte_after (Unmap s p r) h e = refl
  byte_after (Flush s p r) h e = refl
  byte_after (Map s p u v r) h e = refl
  byte_after (Grant s p u v r) h e = refl
  byte_after (Translate s a r) h e = refl
  byte_after (Load s a) h e = load_after s a h e
  byte_after (Store s a byte) h e = refl

  -- ── a step ─────────────────────────────────────────────────────────────
  module _ (sound_large : Sound w (grown z w rest st places next).board) (c : Call) (h : T (in_limits z c))
      (more : T (takes_memory c) → length rest ≡ more_bytes z w) where
    -- the call gives the same number
    same_given : number w large c ≡ number z st c
    unfolding large
    same_given = number_same z w fits some_page rest st sound places next sound_large c h more

    -- what holds of both outcomes of an accepted call and of a refused one holds of the two steps
    either : (P : Outcome → Outcome → Type 0) → (number z st c ≡ 0 → P (accept z st c) (accept w large c))
        → P (refuse st (number z st c)) (refuse large (number w large c)) → P (step z st c) (step w large c)
    either P done not_done = go (ℕ_discrete (number z st c) 0)
      where
        go : Dec (number z st c ≡ 0) → P (step z st c) (step w large c)
        go (yes e) = rw (accepted z st c e, accepted w large c (same_given ∙ e)) (done e)
        go (no n) = rw (refused z st c n, refused w large c (λ e. n (sym same_given ∙ e))) not_done

    -- the states after the call embed again
    embeds_after : Embeds z w rest (step z st c).state (step w large c).state
    unfolding large
    embeds_after =
        either (λ (x y : Outcome). Embeds z w rest x.state y.state)
        (λ e. record { slots_same = slots_after c h e; live_same = live_after c h; memory_same = memory_after_law c h e })
        (record { slots_same = refl; live_same = refl; memory_same = refl })

    -- it empties as many pages
    emptied_after : (step w large c).reply.emptied ≡ (step z st c).reply.emptied
    unfolding large
    emptied_after =
        emptied_counts w large c
        ∙ (ap (emptied (wide_slots z w st.board.slots)) embeds_after.slots_same
        ∙ (emptied_same z w fits some_page st.board.slots (step z st c).state.board.slots sound.shape.slots_long
        ∙ sym (emptied_counts z st c)))

    -- it leaves the same counts
    summary_after : (step w large c).state.board.summary ≡ wide_summary w (step z st c).state.board.summary
    unfolding large
    summary_after =
        same_summary z w fits some_page (step z st c).state.board (step w large c).state.board (step_sound z some_page st sound c)
        (step_sound w (wide_page z w fits some_page) large sound_large c) embeds_after.slots_same

    -- the two steps agree
    agree_grown : Agree z w rest (step z st c) (step w (grown z w rest st places next) c)
    unfolding large
    agree_grown = record {
      same_number = either (λ (x y : Outcome). y.reply.number ≡ x.reply.number) (λ e. report_number w large c ∙ sym (report_number z st c)) same_given;
      same_emptied = emptied_after;
      same_address = either (λ (x y : Outcome). y.reply.address ≡ x.reply.address) (λ e. address_after c h) refl;
      same_links = either (λ (x y : Outcome). y.reply.links ≡ x.reply.links) (λ e. links_after c h e) refl;
      same_byte = either (λ (x y : Outcome). y.reply.byte ≡ x.reply.byte) (λ e. byte_after c h e) refl;
      embeds_again = embeds_after;
      same_summary = summary_after;
    }

-- ── the theorems ─────────────────────────────────────────────────────────
-- a state that embeds another is that state grown, with a cache of its own
embeds_is : (z w : Sizes) → Fits z w → 1 ≤ z.pages → (rest : List ℕ) (small large : State) → Sound z small.board → Sound w large.board
    → Embeds z w rest small large → large ≡ grown z w rest small large.board.places large.board.next
embeds_is z w fits some_page rest small large sound sound_large e = λ i. record {
  board = record {
    slots = e.slots_same i;
    live = e.live_same i;
    places = large.board.places;
    next = large.board.next;
    summary = same_summary z w fits some_page small.board large.board sound sound_large e.slots_same i;
  };
  memory = e.memory_same i;
}

-- M-100: a call within the limits of the smaller sizes gives the same on both, and leaves states that embed again
pub same_command : (z w : Sizes) → Fits z w → 1 ≤ z.pages → (rest : List ℕ) (small large : State) → Sound z small.board → Sound w large.board
    → Embeds z w rest small large → (c : Call) → T (in_limits z c) → (T (takes_memory c) → length rest ≡ more_bytes z w)
    → Agree z w rest (step z small c) (step w large c)
same_command z w fits some_page rest small large sound sound_large embeds c h more =
    subst (λ (x : State). Sound w x.board → Agree z w rest (step z small c) (step w x c)) (sym (embeds_is z w fits some_page rest small large sound sound_large embeds))
    (λ s. agree_grown z w fits some_page rest small sound large.board.places large.board.next s c h more) sound_large

-- M-106: after it the frames that both models have, have the same counts, and the larger model's other frames have none
pub same_counts_law : (z w : Sizes) → Fits z w → 1 ≤ z.pages → (rest : List ℕ) (small large : State) → Sound z small.board → Sound w large.board
    → Embeds z w rest small large → (c : Call) → T (in_limits z c) → (T (takes_memory c) → length rest ≡ more_bytes z w)
    → ((i : ℕ) → i < z.pages → count_at (step w large c).state.board.summary i ≡ count_at (step z small c).state.board.summary i)
    × ((i : ℕ) → z.pages ≤ i → count_at (step w large c).state.board.summary i ≡ no_count)
same_counts_law z w fits some_page rest small large sound sound_large embeds c h more =
    (λ i l. at i, λ i l. at i ∙ get_or-eq_default counts no_count {n = i} (omega (arith, long)))
  where
    counts : List Count
    counts = (step z small c).state.board.summary

    long : length counts ≡ z.pages
    long = (step_sound z some_page small sound c).shape.summary_long

    at : (i : ℕ) → count_at (step w large c).state.board.summary i ≡ count_at counts i
    at i =
        ap (λ (s : List Count). count_at s i) (same_command z w fits some_page rest small large sound sound_large embeds c h more).same_summary
        ∙ wide_count w counts (omega (arith, fits.pages_fit, long)) i

-- and so does every list of such calls
pub same_commands : (z w : Sizes) → Fits z w → 1 ≤ z.pages → (rest : List ℕ) (small large : State) → Sound z small.board → Sound w large.board
    → Embeds z w rest small large → (cs : List Call) → T (all_in_limits z cs) → (T (any_memory cs) → length rest ≡ more_bytes z w)
    → AllAgree z w rest small large cs
unfolding AllAgree
same_commands z w fits some_page rest small large sound sound_large embeds [] h more = embeds
same_commands z w fits some_page rest small large sound sound_large embeds (c ∷ cs) h more =
    let a =
    same_command z w fits some_page rest small large sound sound_large embeds c (and_l (in_limits z c) (all_in_limits z cs) h)
    (λ t. more (or_l (takes_memory c) (any_memory cs) t)) in (
      a,
      same_commands z w fits some_page rest (step z small c).state (step w large c).state (step_sound z some_page small sound c)
          (step_sound w (wide_page z w fits some_page) large sound_large c) a.embeds_again cs (and_r (in_limits z c) (all_in_limits z cs) h)
          (λ t. more (or_r (takes_memory c) (any_memory cs) t)),
    )
