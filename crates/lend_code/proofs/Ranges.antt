-- How far a range reaches.
use mathlib.Core.Path.{◌≡◌, refl}
use mathlib.Core.Bool.{Bool, true, false, ◌&&◌, cond}
use Prim.Native.Nat.{ℕ, ◌-◌, ◌%◌, ◌≤◌, ◌<◌}
use native.Mathlib.Omega.{arith}
use lib.Dec.{eqb, ltb, leb}
use borrow.Author.Tests.{ltb-true, leb-true}
use Rattle.lend.specs.Sizes.{Sizes}
use Rattle.lend.specs.Ranges.{Range, Invalid, Pages, part_pages, range_of, first_page, page_count}

module _ (z : Sizes) (b s : ℕ) where
  -- what holds of each kind of range holds of the one that a base and a size name
  reach : (P : Range → Type 0) → P Invalid → P (Pages 0 0) → P (Pages 0 z.pages)
      → (part_pages s ≤ z.pages → b < z.pages → P (Pages (b - b % part_pages s) (part_pages s))) → P (range_of z b s)
  unfolding range_of
  reach P invalid nil complete part =
      pick (eqb b 0 && eqb s 0) (eqb b 0 && eqb s 1) (leb 10 s) (leb (part_pages s) z.pages) refl (ltb b z.pages) refl
    where
      pick : (t u v w : Bool) → leb (part_pages s) z.pages ≡ w → (x : Bool) → ltb b z.pages ≡ x
          → P (cond t (Pages 0 0) (cond u (Pages 0 z.pages) (cond ((v && w) && x) (Pages (b - b % part_pages s) (part_pages s)) Invalid)))
      pick true u v w e x f = nil
      pick false true v w e x f = complete
      pick false false false w e x f = invalid
      pick false false true false e x f = invalid
      pick false false true true e false f = invalid
      pick false false true true e true f = part (leb-true (part_pages s) z.pages e) (ltb-true b z.pages f)

  -- it has no more pages than there are
  pub count_small : page_count (range_of z b s) ≤ z.pages
  count_small = reach (λ q. page_count q ≤ z.pages) (omega arith) (omega arith) (omega arith) (λ h l. h)

  -- and starts at one of them
  pub first_small : first_page (range_of z b s) ≤ z.pages
  first_small = reach (λ q. first_page q ≤ z.pages) (omega arith) (omega arith) (omega arith) (λ h l. omega arith)
