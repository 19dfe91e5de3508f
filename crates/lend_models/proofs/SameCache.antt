-- The same call on a board and on that board made wide: the same reply, hit included, and the same board unless an entry is replaced.
use mathlib.Core.Path.{◌≡◌, refl, sym, ap, ◌∙◌}
use mathlib.Core.Bool.{not, ◌&&◌}
use mathlib.Core.List.{List, [], ◌∷◌}
use Prim.Native.Nat.{ℕ, ◌≤◌}
use native.Mathlib.Decide.{ℕ_discrete}
use lib.Dec.{T, eqb}
use lib.ListN.{length}
use Rattle.lend.specs.Sizes.{Sizes}
use Rattle.lend.specs.Tables.{State}
use Rattle.lend.specs.Sound.{Sound}
use Rattle.lend.specs.Calls.{Call, Create, Delete, Unmap, Flush, Map, Grant, Translate, Load, Store, number, report, step, steps}
use Rattle.lend_basics.proofs.Bools.{and_l, and_r, or_l, or_r, and_true}
use Rattle.lend_laws.proofs.Accepted.{accepted, refused}
use Rattle.lend_lending.proofs.Always.{step_sound, steps_sound}
use Rattle.lend_models.specs.Embedding.{Fits, wide_places}
use Rattle.lend_models.specs.Agreement.{in_limits, all_in_limits, takes_memory, any_memory, more_bytes, Agree, replaces, wide_state, NoneReplaced}
use Rattle.lend_models.proofs.WideSound.{wide_sound}
use Rattle.lend_models.proofs.SameNumber.{number_same}
use Rattle.lend_models.proofs.SameCommand.{same_command}
use Rattle.lend_models.proofs.CacheAfter.{CacheWide, hit_wide, call_cache}

-- ── one call, accepted on both or on neither ─────────────────────────────
module _ (z w : Sizes) (fits : Fits z w) (some_page : 1 ≤ z.pages) (rest : List ℕ) (st : State) (sound : Sound z st.board) where
  -- an accepted call reports the same hit
  report_hit : (c : Call) → (report w (wide_state z w rest st) c).hit ≡ (report z st c).hit
  unfolding report
  report_hit (Create space) = refl
  report_hit (Delete space) = refl
  report_hit (Unmap space page rights) = refl
  report_hit (Flush space page rights) = refl
  report_hit (Map from page to at rights) = refl
  report_hit (Grant from page to at rights) = refl
  report_hit (Translate space address rights) = hit_wide z w fits some_page st.board sound space address
  report_hit (Load space address) = refl
  report_hit (Store space address byte) = refl

  module _ (c : Call) (l : T (in_limits z c)) (more : T (takes_memory c) → length rest ≡ more_bytes z w) where
    -- both models give one number
    number_wide : number w (wide_state z w rest st) c ≡ number z st c
    number_wide =
        number_same z w fits some_page rest st sound (wide_places w st.board.places) st.board.next (wide_sound z w fits some_page st.board sound) c l more

    -- the board made wide is sound and embeds the board, so the two outcomes agree
    wide_agrees : Agree z w rest (step z st c) (step w (wide_state z w rest st) c)
    wide_agrees =
        same_command z w fits some_page rest st (wide_state z w rest st) sound (wide_sound z w fits some_page st.board sound)
        (record { slots_same = refl; live_same = refl; memory_same = refl }) c l more

    -- both models say hit or neither does
    hit_same : (step w (wide_state z w rest st) c).reply.hit ≡ (step z st c).reply.hit
    hit_same = go (ℕ_discrete (number z st c) 0)
      where
        go : Dec (number z st c ≡ 0) → (step w (wide_state z w rest st) c).reply.hit ≡ (step z st c).reply.hit
        go (yes e) = rw (accepted z st c e, accepted w (wide_state z w rest st) c (number_wide ∙ e)) (report_hit c)
        go (no n) = rw (refused z st c n, refused w (wide_state z w rest st) c (λ e. n (sym number_wide ∙ e)))

    -- a call that replaces no entry leaves the smaller cache made wide
    cache_same : T (not (replaces st.board c && eqb (number z st c) 0))
        → CacheWide w (step z st c).state.board (step w (wide_state z w rest st) c).state.board
    cache_same room = go (ℕ_discrete (number z st c) 0)
      where
        go : Dec (number z st c ≡ 0) → CacheWide w (step z st c).state.board (step w (wide_state z w rest st) c).state.board
        go (yes e) =
            rw (accepted z st c e, accepted w (wide_state z w rest st) c (number_wide ∙ e))
            (call_cache z w fits some_page st.board sound c l (rw (e, and_true (replaces st.board c)) at room)
            (rw (accepted z st c e, accepted w (wide_state z w rest st) c (number_wide ∙ e)) at wide_agrees.embeds_again.slots_same))
        go (no n) =
            rw (refused z st c n, refused w (wide_state z w rest st) c (λ e. n (sym number_wide ∙ e)))
            (record { places_same = refl; next_same = refl })

    -- ── the same call ────────────────────────────────────────────────────
    -- the whole reply is the same, hit included
    pub same_reply : (step w (wide_state z w rest st) c).reply ≡ (step z st c).reply
    same_reply =
        let a = wide_agrees in
        λ i. record { number = a.same_number i; emptied = a.same_emptied i; address = a.same_address i; hit = hit_same i; links = a.same_links i; byte = a.same_byte i }

    -- unless it replaces an entry, the state after it is the smaller one made wide
    pub same_state : T (not (replaces st.board c && eqb (number z st c) 0))
        → (step w (wide_state z w rest st) c).state ≡ wide_state z w rest (step z st c).state
    same_state room =
        let e = wide_agrees.embeds_again in
        let k = cache_same room in
        λ i. record {
          board = record {
            slots = e.slots_same i;
            live = e.live_same i;
            places = k.places_same i;
            next = k.next_same i;
            summary = wide_agrees.same_summary i;
          };
          memory = e.memory_same i;
        }

-- ── the same calls ───────────────────────────────────────────────────────
module _ (z w : Sizes) (fits : Fits z w) (some_page : 1 ≤ z.pages) (rest : List ℕ) where
  -- calls that replace no entry come to the smaller state made wide
  pub same_run : (st : State) → Sound z st.board → (cs : List Call) → T (all_in_limits z cs) → (T (any_memory cs) → length rest ≡ more_bytes z w)
      → NoneReplaced z st cs → steps w (wide_state z w rest st) cs ≡ wide_state z w rest (steps z st cs)
  unfolding steps NoneReplaced
  same_run st sound [] l more none = refl
  same_run st sound (c ∷ cs) l more none =
      ap (λ (x : State). steps w x cs)
      (same_state z w fits some_page rest st sound c (and_l (in_limits z c) (all_in_limits z cs) l) (λ t. more (or_l (takes_memory c) (any_memory cs) t)) none.0)
      ∙ same_run (step z st c).state (step_sound z some_page st sound c) cs (and_r (in_limits z c) (all_in_limits z cs) l)
      (λ t. more (or_r (takes_memory c) (any_memory cs) t)) none.1

  -- and the call after them has the same reply, hit included
  pub same_reply_after : (st : State) → Sound z st.board → (cs : List Call) → T (all_in_limits z cs) → (T (any_memory cs) → length rest ≡ more_bytes z w)
      → NoneReplaced z st cs → (c : Call) → T (in_limits z c) → (T (takes_memory c) → length rest ≡ more_bytes z w)
      → (step w (steps w (wide_state z w rest st) cs) c).reply ≡ (step z (steps z st cs) c).reply
  same_reply_after st sound cs l more none c lc now =
      ap (λ (x : State). (step w x c).reply) (same_run st sound cs l more none)
      ∙ same_reply z w fits some_page rest (steps z st cs) (steps_sound z some_page st sound cs) c lc now
