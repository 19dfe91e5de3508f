-- The start board of the smaller sizes, made wide, is the start board of the larger ones.
use mathlib.Core.Path.{◌≡◌, refl, sym, ap, ◌∙◌}
use mathlib.Core.Bool.{false, cond}
use Prim.Native.Nat.{ℕ, ◌≤◌, ◌<◌}
use native.Mathlib.Decide.{dec_lt}
use native.Mathlib.Omega.{arith}
use lib.Dec.{leb}
use lib.ListN.{length, length-replicate, get_or-replicate, get_or-eq_default}
use lib.Seq.{ext_get_or}
use borrow.Author.Tests.{lt-leb}
use Rattle.lend.specs.Sizes.{Sizes, slot_count, in_pool}
use Rattle.lend.specs.Slots.{empty_slot, frame_slot, slot_at}
use Rattle.lend.specs.Tables.{alive}
use Rattle.lend.specs.Summary.{no_count, count_at}
use Rattle.lend.specs.Cache.{empty_place}
use Rattle.lend.specs.Start.{start_board}
use Rattle.lend_basics.proofs.Lists.{length_tabulate}
use Rattle.lend_sound.proofs.Start.{start_live, start_place, start_pool, start_empty}
use Rattle.lend_models.specs.Embedding.{Fits, wide_slots, wide_live, wide_places, wide_summary, wide}
use Rattle.lend_models.proofs.Wide.{widen, length_wide, wide_at, wide_rest, widen_pool, widen_out, shared_or_not, length_wide_live, wide_live_at}
use Rattle.lend_models.proofs.WideCache.{is_wide}
use Rattle.lend_models.proofs.WideSummary.{length_wide_summary, wide_count}

-- the start board has a slot for each page
start_slots_long : (z : Sizes) → length (start_board z).slots ≡ slot_count z
unfolding start_board
start_slots_long z = length_tabulate (λ k. cond (in_pool z k) (frame_slot k) empty_slot) (slot_count z)

-- an entry for each space
start_live_long : (z : Sizes) → length (start_board z).live ≡ z.spaces
unfolding start_board
start_live_long z = length_tabulate (λ s. leb s 1) z.spaces

-- as many places as its sizes say
start_places_long : (z : Sizes) → length (start_board z).places ≡ z.places
unfolding start_board
start_places_long z = length-replicate z.places empty_place

-- a count for each frame
start_summary_long : (z : Sizes) → length (start_board z).summary ≡ z.pages
unfolding start_board
start_summary_long z = length-replicate z.pages no_count

-- which is none
start_count : (z : Sizes) (i : ℕ) → count_at (start_board z).summary i ≡ no_count
unfolding start_board
start_count z i = go (dec_lt i z.pages)
  where
    go : Dec (i < z.pages) → count_at (start_board z).summary i ≡ no_count
    go (yes l) = get_or-replicate z.pages i no_count no_count l
    go (no l) = get_or-eq_default (start_board z).summary no_count {n = i} (omega (arith, start_summary_long z))

-- the next place to replace is place 0
start_next : (z : Sizes) → (start_board z).next ≡ 0
unfolding start_board
start_next z = refl

module _ (z w : Sizes) (fits : Fits z w) (two : 2 ≤ z.spaces) where
  -- the larger sizes have spaces 0 and 1 too
  wide_two : 2 ≤ w.spaces
  wide_two = omega (arith, fits.spaces_fit)

  -- a page has at the larger sizes what it has at the smaller ones
  start_widened : 1 ≤ z.pages → (j : ℕ) → slot_at (start_board z).slots j ≡ slot_at (start_board w).slots (widen z w j)
  start_widened one j = go (dec_lt j z.pages)
    where
      go : Dec (j < z.pages) → slot_at (start_board z).slots j ≡ slot_at (start_board w).slots (widen z w j)
      go (yes l) =
          start_pool z two j l
          ∙ sym (ap (slot_at (start_board w).slots) (widen_pool z w fits one j l) ∙ start_pool w wide_two j (omega (arith, fits.pages_fit)))
      go (no l) = start_empty z two j (omega arith) ∙ sym (start_empty w wide_two (widen z w j) (widen_out z w fits one j (omega arith)))

  -- so the slots are the same
  start_slots_law : 1 ≤ z.pages → wide_slots z w (start_board z).slots ≡ (start_board w).slots
  start_slots_law one =
      ext_get_or empty_slot (wide_slots z w (start_board z).slots) (start_board w).slots
      (length_wide z w fits one (start_board z).slots ∙ sym (start_slots_long w))
      (λ k l. shared_or_not z w fits one k (slot_at (wide_slots z w (start_board z).slots) k ≡ slot_at (start_board w).slots k)
      (λ j lj e. rw (← e) (wide_at z w fits one (start_board z).slots j lj ∙ start_widened one j))
      (λ n. wide_rest z w fits one (start_board z).slots k n))

  -- the same spaces are live
  start_lives : wide_live z w (start_board z).live ≡ (start_board w).live
  start_lives =
      ext_get_or false (wide_live z w (start_board z).live) (start_board w).live
      (length_wide_live z w (start_board z).live ∙ sym (start_live_long w))
      (λ s l. wide_live_at z w fits two (start_board z).live (start_live_long z) s ∙ at s (omega (arith, length_wide_live z w (start_board z).live)) (dec_lt s z.spaces))
    where
      at : (s : ℕ) → s < w.spaces → Dec (s < z.spaces) → alive (start_board z).live s ≡ alive (start_board w).live s
      at s l (yes h) = start_live z s h ∙ sym (start_live w s l)
      at s l (no h) =
          get_or-eq_default (start_board z).live false {n = s} (omega (arith, start_live_long z))
          ∙ sym (start_live w s l ∙ lt-leb s 1 (omega arith))

  -- no place of the cache is filled
  start_places : (start_board w).places ≡ wide_places w (start_board z).places
  start_places =
      is_wide w (start_board z).places (start_board w).places (omega (arith, fits.places_fit, start_places_long z)) (start_places_long w)
      (λ i. start_place w i ∙ sym (start_place z i))

  -- and no frame has a count
  start_counts : wide_summary w (start_board z).summary ≡ (start_board w).summary
  start_counts =
      ext_get_or no_count (wide_summary w (start_board z).summary) (start_board w).summary
      (length_wide_summary w (start_board z).summary ∙ sym (start_summary_long w))
      (λ i l. wide_count w (start_board z).summary (omega (arith, fits.pages_fit, start_summary_long z)) i ∙ (start_count z i ∙ sym (start_count w i)))

  -- the start board made wide is the start board
  pub wide_start : 1 ≤ z.pages → wide z w (start_board z) ≡ start_board w
  wide_start one = λ i. record {
    slots = start_slots_law one i;
    live = start_lives i;
    places = sym start_places i;
    next = (start_next z ∙ sym (start_next w)) i;
    summary = start_counts i;
  }
