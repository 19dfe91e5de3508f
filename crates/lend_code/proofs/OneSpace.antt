-- The search of a set for a page of one space: where there is no such space, there is no such page.
use mathlib.Core.Path.{◌≡◌, sym}
use mathlib.Core.Bool.{Bool, false, not, ◌&&◌}
use mathlib.Core.List.{List}
use Prim.Native.Nat.{ℕ, ◌≤◌, ◌<◌}
use native.Mathlib.Nat.{div-lt_iff_lt-mul}
use native.Mathlib.Omega.{arith}
use lib.Dec.{T, eqb, eqb→eq}
use Rattle.lend.specs.Sizes.{Sizes, slot_count, space_of}
use Rattle.lend.specs.Lists.{some}
use Rattle.lend_basics.proofs.Bools.{and_l, and_r, is_false}
use Rattle.lend_basics.proofs.Lists.{some_one}
use Rattle.lend_code.specs.Inner.{has}
use Rattle.lend_code.specs.Lending.{other_in}

module _ (z : Sizes) (set : List Bool) (space but : ℕ) where
  -- what is asked of page k of the table
  abbrev asked : ℕ → Bool
  asked k = has set k && eqb (space_of z k) space && not (eqb k but)

  -- a page that is asked for is in the space
  in_it : (k : ℕ) → T (asked k) → space_of z k ≡ space
  in_it k t = eqb→eq (space_of z k) space (and_r (has set k) (eqb (space_of z k) space) (and_l (has set k && eqb (space_of z k) space) (not (eqb k but)) t))

  -- no page of the table is in a space that there is not
  pub no_such_space : 1 ≤ z.pages → z.spaces ≤ space → false ≡ other_in z set space but
  unfolding other_in
  no_such_space one h = sym (is_false (some (slot_count z) asked) (λ t. let o = some_one (slot_count z) asked t in none o.0 o.1 o.2))
    where
      none : (k : ℕ) → k < slot_count z → T (asked k) → ⊥
      none k l t =
          let e : space_of z k ≡ space = in_it k t in
          let m : space_of z k < z.spaces = (div-lt_iff_lt-mul {k = z.pages} {x = k} {y = z.spaces} one).1 l in
          omega arith
