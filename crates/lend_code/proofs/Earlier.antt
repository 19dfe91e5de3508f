-- Laws over the loops and answers of the code before the design pass. docs/ names them as examples of a way to prove; no function cites them.
use mathlib.Core.Path.{◌≡◌, refl, sym, ap, ◌∙◌, subst}
use mathlib.Core.Bool.{Bool, true, false, not, ◌&&◌}
use mathlib.Core.List.{List}
use Prim.Native.Nat.{ℕ, ◌+◌, ◌≤◌}
use native.Mathlib.Nat.{add-zero}
use native.Mathlib.Omega.{arith}
use lib.Dec.{T, eqb, ltb, ltb→lt}
use lib.ListN.{length, replicate}
use mir.Val.{bool_byte}
use borrow.Author.Tests.{not-false}
use Rattle.lend.specs.declared.Link.{Link}
use Rattle.lend.specs.declared.Link.TheVariants.{Nothing, Frame, Page}
use Rattle.lend.specs.declared.Slot.{Slot}
use Rattle.lend.specs.declared.Count.{Count}
use Rattle.lend.specs.Sizes.{Sizes, slot_count, key, in_pool}
use Rattle.lend.specs.Slots.{slot_at, Table}
use Rattle.lend.specs.Tables.{Tables}
use Rattle.lend.specs.Line.{frame, frame_of, links, links_of}
use Rattle.lend.specs.Sound.{Sound}
use Rattle.lend.specs.SoundTest.{pages_test, lent_test, link_test, Tells}
use Rattle.lend.specs.Summary.{no_count}
use Rattle.lend_basics.proofs.Bools.{true_is, and_l, and_r, same_test}
use Rattle.lend_basics.proofs.Loops.{Counted, counted_yes, counted_no}
use Rattle.lend_code.specs.Inner.{inside_of, lent_fits}
use Rattle.lend_code.specs.Earlier.{up_of, link_in, rights_found, frames_found, counts_found, link_fits}
use Rattle.lend_code.specs.Lending.{named_checks, named_number}
use Rattle.lend_code.proofs.Fits.{inside_key}
use Rattle.lend_code.proofs.LendingNumbers.{NamedFine, map_named_fine}
use Rattle.lend_code.proofs.LendingCalls.{named_checked}

-- ── the links of a walk to a frame ───────────────────────────────────────
-- a page has one link at most
one_link : {n : ℕ} (l : Link) → n ≡ link_in l → n ≤ 1
one_link Nothing e = omega arith
one_link (Frame i) e = omega arith
one_link (Page s p) e = omega arith

module _ (z : Sizes) (b : List Slot) (k : ℕ) where
  -- the walk along the line of k has come over so many links to the page at, with so many pages left to visit: what is left has the
  -- frame of k, and the links that k has more
  pub record Climbing (at over left : ℕ) : Type 0 where
    pub slots_long : length b ≡ slot_count z
    pub some_left : 1 ≤ left
    pub visited : over + left ≡ z.spaces
    pub same : frame z (slot_at b) left at ≡ frame_of z (slot_at b) k
    pub more : over + links z (slot_at b) left at ≡ links_of z (slot_at b) k

  -- the links gone over, and the one that the page at has, are at most as many as there are spaces
  pub climbing_room : (at over left n : ℕ) → Climbing at over left → n ≡ link_in (slot_at b at).link → over + n ≤ z.spaces
  climbing_room at over left n w e = omega (arith, one_link (slot_at b at).link e, w.visited, w.some_left)

-- ── what is found of the pages ───────────────────────────────────────────
-- in the order in which `examine` gave it
abbrev pub Found : Sizes → List Slot → List Bool → Bool → List ℕ → List ℕ → List Count → Type 0
Found z b live fit rights frames counts =
    (fit ≡ pages_test z live (slot_at b)) × ((rights ≡ rights_found z b live) × ((frames ≡ frames_found z b live) × (counts ≡ counts_found z b live)))

module _ (z : Sizes) (b : List Slot) (live : List Bool) (fit : Bool) (rights frames : List ℕ) (counts : List Count) where
  -- of pages that are not sound, zeros
  pub none_found : false ≡ pages_test z live (slot_at b) → fit ≡ false → rights ≡ replicate (slot_count z) 0 → frames ≡ replicate (slot_count z) 0
      → counts ≡ replicate z.pages no_count → Found z b live fit rights frames counts
  unfolding rights_found frames_found counts_found
  none_found e f r s c = (f ∙ e, (r ∙ rw (← e), (s ∙ rw (← e), c ∙ rw (← e))))

-- ── a slot with its parent's slot at hand ────────────────────────────────
module _ (z : Sizes) (live : List Bool) (f : Table) (k r s p : ℕ) where
  lent_fits_law : lent_fits z live (f (inside_of z (key z s p))) k r s p ≡ lent_test z live f k r s p
  unfolding lent_fits
  lent_fits_law = same_test (lent_fits z live (f (inside_of z (key z s p))) k r s p) (lent_test z live f k r s p) there back
    where
      at : T (ltb s z.spaces) → T (ltb p z.pages) → f (inside_of z (key z s p)) ≡ f (key z s p)
      at hs hp = ap f (inside_key z s p (ltb→lt s z.spaces hs) (ltb→lt p z.pages hp))

      there : T (lent_fits z live (f (inside_of z (key z s p))) k r s p) → T (lent_test z live f k r s p)
      there h =
          let hs : T (ltb s z.spaces) = search (and_l, and_r) depth 12 in
          let hp : T (ltb p z.pages) = search (and_l, and_r) depth 12 in
          rw (at hs hp) at h

      back : T (lent_test z live f k r s p) → T (lent_fits z live (f (inside_of z (key z s p))) k r s p)
      back h =
          let hs : T (ltb s z.spaces) = search (and_l, and_r) depth 12 in
          let hp : T (ltb p z.pages) = search (and_l, and_r) depth 12 in
          rw (at hs hp) h

-- what the code tested of page k is what the definition tests
pub link_fits_law : (z : Sizes) (live : List Bool) (f : Table) (k r : ℕ) (l : Link) → link_fits z live (f (inside_of z (up_of z l))) k r l ≡ link_test z live f k r l
link_fits_law z live f k r Nothing = refl
link_fits_law z live f k r (Frame i) = refl
link_fits_law z live f k r (Page s p) = ap (λ (t : Bool). not (in_pool z k) && t) (lent_fits_law z live f k r s p)

-- ── a count, and a test of soundness told apart ──────────────────────────
-- one number more, whose test is cast
pub one_more_counted : (t : ℕ → Bool) (n k : ℕ) (b : Bool) → Counted t n k → b ≡ t k → Counted t (n + bool_byte b) (k + 1)
one_more_counted t n k true c e = counted_yes t n k c (sym e)
one_more_counted t n k false c e = subst (λ (m : ℕ). Counted t m (k + 1)) (sym (add-zero n)) (counted_no t n k c (sym e))

-- a board that is sound is called with no test of it
pub sound_told : (z : Sizes) (b : Tables) (r : Bool) → Tells z b r → not r ≡ false → Sound z b
sound_told z b r told e = told.if_true (true_is r (not-false r e))

-- ── the first checks of a map ────────────────────────────────────────────
-- the number of what is named, on a board that is known to be sound
pub named : (z : Sizes) (b : Tables) → Sound z b → (s p u v r n : ℕ) → n ≡ named_checks z b.live s p u v r (eqb u 0) → n ≡ named_number z b s p u v r (eqb u 0)
named z b sound s p u v r n is = is ∙ named_checked z b sound s p u v r (eqb u 0)

-- what it has shown, where it is 0
pub fine : (z : Sizes) (b : Tables) → Sound z b → (s p u v r n : ℕ) → n ≡ named_checks z b.live s p u v r (eqb u 0) → n ≡ 0 → NamedFine z b s p u v r (eqb u 0)
fine z b sound s p u v r n is none = map_named_fine z b s p u v r n (named z b sound s p u v r n is) none
