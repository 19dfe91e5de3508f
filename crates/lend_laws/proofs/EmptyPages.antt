-- unmap and flush of an empty page: where the numbers are in order the call is done, and it changes nothing and empties no page.
use mathlib.Core.Path.{◌≡◌, refl, sym, ap, ◌∙◌}
use mathlib.Core.Bool.{Bool, true, false, not, ◌||◌, cond}
use mathlib.Core.List.{List, [], ◌∷◌}
use Prim.Native.Nat.{ℕ, ◌≤◌, ◌<◌}
use native.Mathlib.Decide.{ℕ_discrete}
use native.Mathlib.Omega.{arith}
use lib.Dec.{T, eqb, ltb, leb, leb→le, ltb→lt, T_not}
use lib.ListN.{length}
use lib.Seq.{ext_get_or}
use borrow.Author.Tests.{ne_eqb}
use Rattle.lend.specs.declared.Link.{Link}
use Rattle.lend.specs.declared.Link.TheVariants.{Nothing, Frame, Page}
use Rattle.lend.specs.declared.Place.{Place}
use Rattle.lend.specs.declared.Slot.{Slot}
use Rattle.lend.specs.Sizes.{Sizes, key}
use Rattle.lend.specs.Rights.{within}
use Rattle.lend.specs.Slots.{Table, empty_slot, cut, slot_at, held}
use Rattle.lend.specs.Tables.{Tables, State, table_of, alive}
use Rattle.lend.specs.Line.{is_on_line, below}
use Rattle.lend.specs.Cache.{page_named, dropped_where, lost_right}
use Rattle.lend.specs.Sound.{SoundPages, Sound}
use Rattle.lend.specs.SoundTest.{sound_test}
use Rattle.lend.specs.Withdraw.{unmapped, flushed}
use Rattle.lend.specs.Emptied.{emptied}
use Rattle.lend.specs.Numbers.{Case, ◌when◌, first_number, no_space, not_live, no_page, bad_rights}
use Rattle.lend.specs.Calls.{Call, Unmap, Flush, cases, number, with_slots, no_taker, board_after, memory_after, Reply, Outcome, plain_reply, report, step}
use Rattle.lend_basics.proofs.Bools.{is_true, is_false}
use Rattle.lend_basics.proofs.Rights.{within_refl}
use Rattle.lend_sound.proofs.Lines.{on_line_held, below_top}
use Rattle.lend_sound.proofs.SoundTest.{sound_test_law}
use Rattle.lend_laws.proofs.Withdraw.{cut_empty, rights_small, not_held, cut_zero}
use Rattle.lend_laws.proofs.Flush.{length_unmapped, length_flushed, unmapped_at, flushed_at}
use Rattle.lend_laws.proofs.Accepted.{accepted, refused, PageFine}
use Rattle.lend_laws.proofs.Emptied.{emptied_none, emptied_counts}

-- ── an empty page on a sound table ───────────────────────────────────────
module _ (z : Sizes) (live : List Bool) (f : Table) (len : length live ≡ z.spaces) (sound : SoundPages z live f)
    (y : ℕ) (empty : T (not (held (f y)))) where
  -- an empty page is on no held page's line
  pub off_lines : (k : ℕ) → T (held (f k)) → is_on_line z f k y ≡ false
  off_lines k h = is_false (is_on_line z f k y) (λ o. T_not (held (f y)) empty (on_line_held z live f len sound k y h o))

  -- so no page is below it
  nothing_below : (k : ℕ) → below z f k y ≡ false
  nothing_below k = go (f k).link refl
    where
      go : (l : Link) → (f k).link ≡ l → below z f k y ≡ false
      go Nothing e = below_top z live f len sound k y (rw e)
      go (Frame i) e = below_top z live f len sound k y (rw e)
      go (Page s p) e = rw (off_lines k (rw e tt))

  -- and taking rights from each page with the empty page on its line takes none
  nothing_cut : (d k : ℕ) → cut (cond (is_on_line z f k y) d 0) (f k) ≡ f k
  nothing_cut d k = go (held (f k)) refl
    where
      go : (b : Bool) → held (f k) ≡ b → cut (cond (is_on_line z f k y) d 0) (f k) ≡ f k
      go true e = rw (off_lines k (rw e tt)) (cut_zero z live f sound k)
      go false e = rw (not_held z live f sound k (rw e tt)) (cut_empty (cond (is_on_line z f k y) d 0))

module _ (z : Sizes) (live : List Bool) (b : List Slot) (len : length live ≡ z.spaces) (sound : SoundPages z live (slot_at b))
    (y : ℕ) (empty : T (not (held (slot_at b y)))) where
  -- an unmap of an empty page leaves the slots as they were
  pub unmapped_same : (d : ℕ) → unmapped z y d b ≡ b
  unmapped_same d = ext_get_or empty_slot (unmapped z y d b) b (length_unmapped z y d b) (λ k l. same k)
    where
      same : (k : ℕ) → slot_at (unmapped z y d b) k ≡ slot_at b k
      same k =
          unmapped_at z live b len sound y d k
          ∙ rw (nothing_below z live (slot_at b) len sound y empty k) (cut_zero z live (slot_at b) sound k)

  -- so does a flush
  pub flushed_same : (d : ℕ) → flushed z y d b ≡ b
  flushed_same d =
      ext_get_or empty_slot (flushed z y d b) b (length_flushed z y d b)
      (λ k l. flushed_at z live b len sound y d k ∙ nothing_cut z live (slot_at b) len sound y empty d k)

-- ── a board whose slots stay ─────────────────────────────────────────────
-- where no page passes the test, every place stays
none_dropped : (z : Sizes) (t : ℕ → Bool) (c : List Place) → ((k : ℕ) → t k ≡ false) → dropped_where z t c ≡ c
none_dropped z t [] h = refl
none_dropped z t (q ∷ c) h = rw (h (page_named z q)) (ap (λ (l : List Place). q ∷ l) (none_dropped z t c h))

-- where a sound table stays, no page has lost a right
same_not_lost : (z : Sizes) (live : List Bool) (f : Table) → SoundPages z live f → (k : ℕ) → lost_right f f k ≡ false
unfolding lost_right
same_not_lost z live f sound k =
    rw (is_true (within (f k).rights (f k).rights) (within_refl (f k).rights (rights_small z live f sound k)))

-- so a sound board that gets the slots it has is the same board, its cache too
pub board_same : (z : Sizes) (b : Tables) → Sound z b → (new : List Slot) → new ≡ b.slots → with_slots z b new no_taker ≡ b
board_same z b sound new e = ap (λ (n : List Slot). with_slots z b n no_taker) e ∙ own
  where
    kept : dropped_where z (λ k. lost_right (table_of b) (table_of b) k || no_taker k) b.places ≡ b.places
    kept = none_dropped z (λ k. lost_right (table_of b) (table_of b) k || no_taker k) b.places
        (λ k. rw (same_not_lost z b.live (table_of b) sound.pages k))

    own : with_slots z b b.slots no_taker ≡ b
    own = λ i. record { slots = b.slots; live = b.live; places = kept i; next = b.next; summary = sym sound.summary i }

-- ── the call is done ─────────────────────────────────────────────────────
-- a number in range is not past the last one
not_past : (m n : ℕ) → n < m → leb m n ≡ false
not_past m n l = is_false (leb m n) (λ t. let g = leb→le m n t in omega arith)

-- rights from 1 to 7 are not refused
not_bad : (d : ℕ) → 1 ≤ d → d < 8 → bad_rights d ≡ false
not_bad d l h = rw (ne_eqb d 0 (λ e. omega arith)) (is_false (ltb 7 d) (λ t. let g = ltb→lt 7 d t in omega arith))

module _ (z : Sizes) (st : State) (sound : Sound z st.board) (s p d : ℕ) (fine : PageFine z st.board s p d) where
  -- none of the cases 1 and 3 to 6 holds, so only the others decide
  only_others : (cs : List Case) → first_number cs ≡ 0
      → first_number ((1 when not (sound_test z st.board)) ∷ (3 when no_space z s) ∷ (4 when not_live st.board s)
      ∷ (5 when no_page z p) ∷ (6 when bad_rights d) ∷ cs) ≡ 0
  only_others cs e =
      rw (
        is_true (sound_test z st.board) (sound_test_law z st.board sound),
        not_past z.spaces s fine.space_in,
        is_true (alive st.board.live s) fine.is_alive,
        not_past z.pages p fine.page_in,
        not_bad d fine.some_right fine.known_rights,
      ) e

  -- on a sound board an unmap with its numbers in order is done, whether or not the page is held
  pub unmap_done : number z st (Unmap s p d) ≡ 0
  unfolding number cases
  unmap_done = only_others [] refl

  -- so is a flush outside space 0
  pub flush_done : 1 ≤ s → number z st (Flush s p d) ≡ 0
  unfolding number cases
  flush_done out = only_others ((9 when eqb s 0) ∷ []) (rw (ne_eqb s 0 (λ e. omega arith)))

-- ── the two calls ────────────────────────────────────────────────────────
-- a call that leaves the board and the memory, accepted or refused, leaves the state
stays_same : (z : Sizes) (st : State) (c : Call) → board_after z st.board c ≡ st.board → memory_after z st c ≡ st.memory
    → (step z st c).state ≡ st
stays_same z st c eb em = go (ℕ_discrete (number z st c) 0)
  where
    go : Dec (number z st c ≡ 0) → (step z st c).state ≡ st
    go (yes e) = rw (accepted z st c e) (λ i. record { board = eb i; memory = em i })
    go (no h) = rw (refused z st c h)

-- a call that leaves the state has emptied no page
none_emptied : (z : Sizes) (st : State) (c : Call) → (step z st c).state ≡ st → (step z st c).reply.emptied ≡ 0
none_emptied z st c e =
    emptied_counts z st c
    ∙ (ap (λ (x : State). emptied st.board.slots x.board.slots) e ∙ emptied_none st.board.slots)

-- so the reply of an accepted one that reports a count alone is 0 in every field
nothing_told : (z : Sizes) (st : State) (c : Call) → report z st c ≡ plain_reply 0 (report z st c).emptied
    → (step z st c).state ≡ st → number z st c ≡ 0 → (step z st c).reply ≡ plain_reply 0 0
nothing_told z st c form same e = told ∙ (form ∙ ap (plain_reply 0) (sym (ap (λ (r : Reply). r.emptied) told) ∙ none_emptied z st c same))
  where
    told : (step z st c).reply ≡ report z st c
    told = ap (λ (o : Outcome). o.reply) (accepted z st c e)

module _ (z : Sizes) (st : State) (sound : Sound z st.board) (s p d : ℕ) (empty : T (not (held (table_of st.board (key z s p))))) where
  -- an unmap of an empty page, accepted or refused, changes nothing
  pub unmap_empty : (step z st (Unmap s p d)).state ≡ st
  unfolding board_after memory_after
  unmap_empty =
      stays_same z st (Unmap s p d)
      (board_same z st.board sound (unmapped z (key z s p) d st.board.slots)
      (unmapped_same z st.board.live st.board.slots sound.shape.live_long sound.pages (key z s p) empty d)) refl

  -- and nor does a flush of one
  pub flush_empty : (step z st (Flush s p d)).state ≡ st
  unfolding board_after memory_after
  flush_empty =
      stays_same z st (Flush s p d)
      (board_same z st.board sound (flushed z (key z s p) d st.board.slots)
      (flushed_same z st.board.live st.board.slots sound.shape.live_long sound.pages (key z s p) empty d)) refl

  -- when it is accepted, the unmap's reply is 0 in every field
  pub unmap_empty_reply : number z st (Unmap s p d) ≡ 0 → (step z st (Unmap s p d)).reply ≡ plain_reply 0 0
  unfolding report
  unmap_empty_reply e = nothing_told z st (Unmap s p d) refl unmap_empty e

  -- so is the flush's
  pub flush_empty_reply : number z st (Flush s p d) ≡ 0 → (step z st (Flush s p d)).reply ≡ plain_reply 0 0
  unfolding report
  flush_empty_reply e = nothing_told z st (Flush s p d) refl flush_empty e

  -- with its numbers in order, an unmap of an empty page is done and changes nothing
  pub unmap_empty_done : PageFine z st.board s p d → step z st (Unmap s p d) ≡ record { reply = plain_reply 0 0; state = st }
  unmap_empty_done fine = λ i. record { reply = unmap_empty_reply (unmap_done z st sound s p d fine) i; state = unmap_empty i }

  -- and so is a flush of one outside space 0
  pub flush_empty_done : PageFine z st.board s p d → 1 ≤ s → step z st (Flush s p d) ≡ record { reply = plain_reply 0 0; state = st }
  flush_empty_done fine out = λ i. record { reply = flush_empty_reply (flush_done z st sound s p d fine out) i; state = flush_empty i }
