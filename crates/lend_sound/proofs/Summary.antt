-- The test of the summary passes on just the summary of the table.
use mathlib.Core.Path.{◌≡◌, refl, sym, ap, ◌∙◌}
use mathlib.Core.Bool.{Bool, true, false, not, ◌&&◌, cond}
use mathlib.Core.List.{List}
use Prim.Native.Nat.{ℕ, zero, suc, ◌<◌}
use native.Mathlib.Decide.{ℕ_discrete}
use native.Mathlib.Omega.{arith}
use lib.Dec.{T, eqb, eqb→eq, eqb_refl}
use lib.ListN.{length, set, length-set, length-replicate, get_or-replicate}
use lib.Seq.{ext_get_or, get_or-set_same, get_or-set_other}
use borrow.Author.Tests.{eq-eqb, ne_eqb}
use Rattle.lend.specs.declared.Count.{Count}
use Rattle.lend.specs.Sizes.{Sizes, slot_count, in_pool}
use Rattle.lend.specs.Rights.{read_right, write_right, execute_right, within}
use Rattle.lend.specs.Lists.{every, count}
use Rattle.lend.specs.Slots.{Table, held}
use Rattle.lend.specs.Line.{frame_of}
use Rattle.lend.specs.Summary.{ends_at, count_of, no_count, count_at, counted, summary_to, summary_of}
use Rattle.lend.specs.SoundTest.{same_count, same_counts, summary_test}
use Rattle.lend_basics.proofs.Bools.{and_l, and_r, and_i}
use Rattle.lend_basics.proofs.Lists.{each, every_of}

-- ── one count ────────────────────────────────────────────────────────────
count_equal : (a b : Count) → T (same_count a b) → a ≡ b
count_equal a b h =
    let n : a.held ≡ b.held = eqb→eq a.held b.held (search (and_l, and_r) depth 12) in
    let r : a.read ≡ b.read = eqb→eq a.read b.read (search (and_l, and_r) depth 12) in
    let w : a.write ≡ b.write = eqb→eq a.write b.write (search (and_l, and_r) depth 12) in
    let x : a.execute ≡ b.execute = eqb→eq a.execute b.execute (search (and_l, and_r) depth 12) in
    λ i. record { held = n i; read = r i; write = w i; execute = x i }

count_self : (a : Count) → T (same_count a a)
count_self a =
    let n = eqb_refl a.held in
    let r = eqb_refl a.read in
    let w = eqb_refl a.write in
    let x = eqb_refl a.execute in
    search and_i depth 14

-- ── counted in one pass ──────────────────────────────────────────────────
-- the count of frame i over the first n pages
abbrev count_to : Sizes → Table → ℕ → ℕ → Count
count_to z f n i = record {
  held = count n (ends_at z f i);
  read = count n (λ k. ends_at z f i k && within read_right (f k).rights);
  write = count n (λ k. ends_at z f i k && within write_right (f k).rights);
  execute = count n (λ k. ends_at z f i k && within execute_right (f k).rights);
}

module _ (z : Sizes) (f : Table) where
  to_long : (n : ℕ) → length (summary_to z f n) ≡ z.pages
  unfolding summary_to
  to_long zero = length-replicate z.pages no_count
  to_long (suc k) = go (not (in_pool z k) && held (f k)) (to_long k)
    where
      go : (t : Bool) → length (summary_to z f k) ≡ z.pages → length (cond t (set (summary_to z f k) (frame_of z f k) (counted (f k).rights (count_at (summary_to z f k) (frame_of z f k)))) (summary_to z f k)) ≡ z.pages
      go true l = length-set (summary_to z f k) (frame_of z f k) (counted (f k).rights (count_at (summary_to z f k) (frame_of z f k))) ∙ l
      go false l = l

  -- one page more
  turn : (k i : ℕ) (t : Bool) → ends_at z f i k ≡ t → count_to z f (suc k) i ≡ cond t (counted (f k).rights (count_to z f k i)) (count_to z f k i)
  unfolding count
  turn k i true e = rw e
  turn k i false e = rw e

  to_at : (n i : ℕ) → i < z.pages → count_at (summary_to z f n) i ≡ count_to z f n i
  unfolding summary_to count
  to_at zero i h = get_or-replicate z.pages i no_count no_count h
  to_at (suc k) i h = go (not (in_pool z k) && held (f k)) refl (ℕ_discrete (frame_of z f k) i) (to_at k i h)
    where
      so : List Count
      so = summary_to z f k

      r : ℕ
      r = (f k).rights

      go : (t : Bool) → (not (in_pool z k) && held (f k)) ≡ t → Dec (frame_of z f k ≡ i) → count_at so i ≡ count_to z f k i
          → count_at (cond t (set so (frame_of z f k) (counted r (count_at so (frame_of z f k)))) so) i ≡ count_to z f (suc k) i
      go true e (yes q) ih =
          ap (λ (j : ℕ). count_at (set so j (counted r (count_at so j))) i) q
          ∙ (get_or-set_same so i (counted r (count_at so i)) no_count (omega (arith, to_long k))
          ∙ (ap (counted r) ih ∙ sym (turn k i true (rw (e, eq-eqb (frame_of z f k) i q)))))
      go true e (no q) ih =
          get_or-set_other so (frame_of z f k) i (counted r (count_at so (frame_of z f k))) no_count (λ p. q (sym p))
          ∙ (ih ∙ sym (turn k i false (rw (e, ne_eqb (frame_of z f k) i q))))
      go false e d ih = ih ∙ sym (turn k i false (rw e))

  -- the summary has a count for each frame
  pub summary_long : length (summary_of z f) ≡ z.pages
  summary_long = to_long (slot_count z)

  -- which is the number of pages that end there
  pub summary_counts : (i : ℕ) → i < z.pages → count_at (summary_of z f) i ≡ count_of z f i
  unfolding count_of
  summary_counts i h = to_at (slot_count z) i h

-- ── the test ─────────────────────────────────────────────────────────────
-- two summaries that pass are the same
pub counts_equal : (z : Sizes) (s t : List Count) → length t ≡ z.pages → T (same_counts z s t) → s ≡ t
counts_equal z s t long h = ext_get_or no_count s t (own ∙ sym long) (λ i l. same i (omega (arith, own)))
  where
    own : length s ≡ z.pages
    own = eqb→eq (length s) z.pages (search and_l depth 12)

    same : (i : ℕ) → i < z.pages → count_at s i ≡ count_at t i
    same i l = count_equal (count_at s i) (count_at t i) (each z.pages (λ i. same_count (count_at s i) (count_at t i)) (search (and_l, and_r) depth 12) i l)

pub counts_self : (z : Sizes) (s : List Count) → length s ≡ z.pages → T (same_counts z s s)
counts_self z s long =
    and_i (eqb (length s) z.pages) (every z.pages (λ i. same_count (count_at s i) (count_at s i)))
    (rw (eq-eqb (length s) z.pages long) tt)
    (every_of z.pages (λ i. same_count (count_at s i) (count_at s i)) (λ i l. count_self (count_at s i)))

module _ (z : Sizes) (f : Table) (s : List Count) where
  -- counts that pass the test are the summary
  pub summary_of_test : T (summary_test z f s) → s ≡ summary_of z f
  unfolding summary_test
  summary_of_test h = counts_equal z s (summary_of z f) (summary_long z f) h

  -- and the summary passes
  pub test_of_summary : s ≡ summary_of z f → T (summary_test z f s)
  unfolding summary_test
  test_of_summary e = rw e (counts_self z (summary_of z f) (summary_long z f))
