-- What the counts of a sound board say: they add up to the held pages, and a count of 0 is a frame that no page ends at.
use mathlib.Core.Path.{◌≡◌, refl, sym, ap, ◌∙◌}
use mathlib.Core.Bool.{Bool, true, not, ◌&&◌}
use mathlib.Core.List.{List}
use Prim.Native.Nat.{ℕ, zero, suc, ◌+◌, ◌*◌, ◌/◌, ◌%◌, ◌≤◌, ◌<◌}
use native.Mathlib.Nat.{div-eq_of_lt, mul-add-div, mod-lt, add-zero}
use native.Mathlib.Decide.{ℕ_discrete, dec_lt}
use native.Mathlib.Omega.{arith}
use lib.Dec.{T, eqb, ltb, eqb→eq, ltb→lt, lt→ltb, nltb→le, lit<}
use lib.ListN.{replicate, length-replicate, get_or-replicate, get_or-eq_default}
use borrow.Author.Tests.{eq-eqb, ne_eqb, lt-ltb, le-ltb}
use Rattle.lend.specs.declared.Count.{Count}
use Rattle.lend.specs.Sizes.{Sizes, slot_count, in_pool, page_bytes}
use Rattle.lend.specs.Rights.{read_right, write_right, execute_right, within}
use Rattle.lend.specs.Lists.{count}
use Rattle.lend.specs.Slots.{empty_slot, held}
use Rattle.lend.specs.Tables.{Tables, table_of}
use Rattle.lend.specs.Line.{frame_of}
use Rattle.lend.specs.Summary.{ends_at, count_of, no_count, count_at}
use Rattle.lend.specs.Sound.{Sound}
use Rattle.lend.specs.Start.{start_board}
use Rattle.lend.specs.Translate.{address_page, page_at, physical}
use Rattle.lend_basics.proofs.Bools.{and_l, and_r, and_i, is_false, same_test, and_true, and_false}
use Rattle.lend_basics.proofs.Counting.{count_none, count_same, count_within, count_split, none_counted}
use Rattle.lend_sound.proofs.Summary.{summary_counts}
use Rattle.lend_laws.proofs.Spaces.{out_of_pool}
use Rattle.lend_lending.proofs.Frames.{frame_in_law}
use Rattle.lend_summary.specs.Meaning.{sum_to, total, held_outside, NoneEnds, FreeExactly, PartOf}
use Rattle.lend_summary.proofs.Bounds.{each_count}

-- ── counted group by group ───────────────────────────────────────────────
sum_same : (n : ℕ) (g h : ℕ → ℕ) → ((i : ℕ) → i < n → g i ≡ h i) → sum_to n g ≡ sum_to n h
unfolding sum_to
sum_same zero g h e = refl
sum_same (suc n) g h e = rw (e n (omega arith), sum_same n g h (λ i l. e i (omega arith)))

last_group : (t : Bool) (x m : ℕ) → ((t && ltb x (suc m)) && eqb x m) ≡ (t && eqb x m)
last_group t x m = go (ℕ_discrete x m)
  where
    go : Dec (x ≡ m) → ((t && ltb x (suc m)) && eqb x m) ≡ (t && eqb x m)
    go (yes e) = rw (eq-eqb x m e, lt-ltb x (suc m) (omega arith)) (and_true (t && true))
    go (no e) = rw (ne_eqb x m e, and_false (t && ltb x (suc m)), and_false t)

groups_before : (t : Bool) (x m : ℕ) → ((t && ltb x (suc m)) && not (eqb x m)) ≡ (t && ltb x m)
groups_before t x m = go (ℕ_discrete x m)
  where
    go : Dec (x ≡ m) → ((t && ltb x (suc m)) && not (eqb x m)) ≡ (t && ltb x m)
    go (yes e) = rw (eq-eqb x m e, le-ltb x m (omega arith), and_false (t && ltb x (suc m)), and_false t)
    go (no e) =
        let same : ltb x (suc m) ≡ ltb x m = same_test (ltb x (suc m)) (ltb x m)
        (λ h. let l = ltb→lt x (suc m) h in lt→ltb x m (omega arith)) (λ h. let l = ltb→lt x m h in lt→ltb x (suc m) (omega arith)) in
        rw (ne_eqb x m e, same) (and_true (t && ltb x m))

-- numbers that pass, counted apart by a number c of each: together they are those whose c is below m
grouped : (n m : ℕ) (t : ℕ → Bool) (c : ℕ → ℕ) → sum_to m (λ i. count n (λ k. t k && eqb (c k) i)) ≡ count n (λ k. t k && ltb (c k) m)
unfolding sum_to
grouped n zero t c = sym (count_none n (λ k. t k && ltb (c k) 0) (λ k l. rw (le-ltb (c k) 0 (omega arith)) (and_false (t k))))
grouped n (suc m) t c =
    let split = count_split n (λ k. t k && ltb (c k) (suc m)) (λ k. eqb (c k) m) in
    let last = count_same n (λ k. t k && eqb (c k) m) (λ k. (t k && ltb (c k) (suc m)) && eqb (c k) m) (λ k l. last_group (t k) (c k) m) in
    let before = count_same n (λ k. t k && ltb (c k) m) (λ k. (t k && ltb (c k) (suc m)) && not (eqb (c k) m)) (λ k l. groups_before (t k) (c k) m) in
    let rest = grouped n m t c in
    omega arith

-- ── a sound board ────────────────────────────────────────────────────────
module _ (z : Sizes) (b : Tables) (sound : Sound z b) where
  -- the count of frame i is the number of pages that end there
  held_count : (i : ℕ) → i < z.pages → (count_at b.summary i).held ≡ count (slot_count z) (ends_at z (table_of b) i)
  unfolding count_of
  held_count i l =
      ap (λ (s : List Count). (count_at s i).held) sound.summary ∙ ap (λ (c : Count). c.held) (summary_counts z (table_of b) i l)

  -- the held counts add up to the held pages outside space 0
  pub add_up : total z b.summary ≡ count (slot_count z) (held_outside z (table_of b))
  add_up =
      sum_same z.pages (λ i. (count_at b.summary i).held) (λ i. count (slot_count z) (ends_at z (table_of b) i)) held_count
      ∙ (grouped (slot_count z) z.pages (held_outside z (table_of b)) (frame_of z (table_of b))
      ∙ count_same (slot_count z) (held_outside z (table_of b)) (λ k. held_outside z (table_of b) k && ltb (frame_of z (table_of b) k) z.pages) (λ k l. ends k))
    where
      ends : (k : ℕ) → (held_outside z (table_of b) k && ltb (frame_of z (table_of b) k) z.pages) ≡ held_outside z (table_of b) k
      ends k =
          same_test (held_outside z (table_of b) k && ltb (frame_of z (table_of b) k) z.pages) (held_outside z (table_of b) k)
          (and_l (held_outside z (table_of b) k) (ltb (frame_of z (table_of b) k) z.pages))
          (λ h. and_i (held_outside z (table_of b) k) (ltb (frame_of z (table_of b) k) z.pages) h
          (lt→ltb (frame_of z (table_of b) k) z.pages
          (frame_in_law z b.live (table_of b) sound.shape.live_long sound.pages k (and_r (not (in_pool z k)) (held (table_of b k)) h))))

  -- a held page is one of the slots
  held_slot : (k : ℕ) → T (held (table_of b k)) → k < slot_count z
  held_slot k h = go (dec_lt k (slot_count z))
    where
      go : Dec (k < slot_count z) → k < slot_count z
      go (yes l) = l
      go (no l) = absurd (rw (get_or-eq_default b.slots empty_slot {n = k} (omega (arith, sound.shape.slots_long))) at h)

  -- a frame's count is 0 just when no held page outside space 0 ends there
  pub free_exactly : (i : ℕ) → i < z.pages → FreeExactly z b i
  free_exactly i l = record { if_free = if_free; if_none = if_none }
    where
      if_free : (count_at b.summary i).held ≡ 0 → NoneEnds z b i
      if_free e k out h at =
          none_counted (slot_count z) (ends_at z (table_of b) i) (sym (held_count i l) ∙ e) k (held_slot k h)
          (rw (le-ltb k z.pages out, eq-eqb (frame_of z (table_of b) k) i at, and_true (held (table_of b k))) h)

      if_none : NoneEnds z b i → (count_at b.summary i).held ≡ 0
      if_none none =
          held_count i l
          ∙ count_none (slot_count z) (ends_at z (table_of b) i)
          (λ k m. is_false (ends_at z (table_of b) i k)
          (λ h. none k (nltb→le k z.pages (search (and_l, and_r) depth 12)) (search (and_l, and_r) depth 12)
          (eqb→eq (frame_of z (table_of b) k) i (search (and_l, and_r) depth 12))))

  -- so an address of another space than 0 never leads into a frame whose count is 0
  pub never_into_free : (i : ℕ) → i < z.pages → (count_at b.summary i).held ≡ 0 → (space address : ℕ) → 1 ≤ space
      → T (held (table_of b (page_at z space address))) → physical z b space address / page_bytes ≡ i → ⊥
  unfolding physical
  never_into_free i l e space address out h at =
      (free_exactly i l).if_free e (page_at z space address) (out_of_pool z space (address_page address) out) h (sym (in_frame (frame_of z (table_of b) (page_at z space address))) ∙ at)
    where
      in_frame : (j : ℕ) → (page_bytes * j + address % page_bytes) / page_bytes ≡ j
      in_frame j =
          mul-add-div {m = page_bytes} (lit< tt) j (address % page_bytes)
          ∙ (ap (λ (n : ℕ). j + n) (div-eq_of_lt (mod-lt address (lit< tt))) ∙ add-zero j)

  -- the pages that may read, write or execute are among those that end at the frame
  pub part_of : (i : ℕ) → PartOf (count_at b.summary i)
  unfolding count_of
  part_of i = rw sound.summary (each_count z (table_of b) PartOf each (record { read_part = omega arith; write_part = omega arith; execute_part = omega arith }) i)
    where
      with : (j d : ℕ) → count (slot_count z) (λ k. ends_at z (table_of b) j k && within d (table_of b k).rights) ≤ count (slot_count z) (ends_at z (table_of b) j)
      with j d =
          count_within (slot_count z) (ends_at z (table_of b) j) (λ k. ends_at z (table_of b) j k && within d (table_of b k).rights)
          (λ k. and_l (ends_at z (table_of b) j k) (within d (table_of b k).rights))

      each : (j : ℕ) → PartOf (count_of z (table_of b) j)
      each j = record { read_part = with j read_right; write_part = with j write_right; execute_part = with j execute_right }

-- ── the start ────────────────────────────────────────────────────────────
-- at the start no page ends at any frame
pub start_free : (z : Sizes) (i : ℕ) → count_at (start_board z).summary i ≡ no_count
unfolding start_board
start_free z i = go (dec_lt i z.pages)
  where
    go : Dec (i < z.pages) → count_at (replicate z.pages no_count) i ≡ no_count
    go (yes h) = get_or-replicate z.pages i no_count no_count h
    go (no h) = get_or-eq_default (replicate z.pages no_count) no_count {n = i} (omega (arith, length-replicate z.pages no_count))
