-- Tests joined by and, or and not, taken apart and put together.
use mathlib.Core.Path.{◌≡◌, refl}
use mathlib.Core.Bool.{Bool, true, false, not, ◌&&◌, ◌||◌}
use mathlib.Core.Logic.{◌⊎◌, inl, inr}
use Prim.Native.Nat.{ℕ, zero, suc, ◌≤◌}
use native.Mathlib.Omega.{arith}
use lib.Dec.{T, eqb}
use borrow.Author.Tests.{ne_eqb}

pub and_l : (a b : Bool) → T (a && b) → T a
and_l true b h = tt
and_l false b h = h

pub and_r : (a b : Bool) → T (a && b) → T b
and_r true b h = h
and_r false b h = absurd h

pub and_i : (a b : Bool) → T a → T b → T (a && b)
and_i true b h k = k
and_i false b h k = h

pub or_l : (a b : Bool) → T a → T (a || b)
or_l true b h = tt
or_l false b h = absurd h

pub or_r : (a b : Bool) → T b → T (a || b)
or_r true b h = tt
or_r false b h = h

pub or_cases : (a b : Bool) → T (a || b) → T a ⊎ T b
or_cases true b h = inl tt
or_cases false b h = inr h

pub not_or : (a b : Bool) → T (not (a || b)) → T (not a) × T (not b)
not_or true b h = absurd h
not_or false b h = (tt, h)

pub or_not : (a b : Bool) → T (not a) → T (not b) → T (not (a || b))
or_not true b h k = h
or_not false b h k = k

pub not_not : (b : Bool) → T (not (not b)) → T b
not_not true h = tt
not_not false h = h

-- a test's truth as an equation
pub is_true : (b : Bool) → T b → b ≡ true
is_true true h = refl
is_true false h = absurd h

pub is_false : (b : Bool) → (T b → ⊥) → b ≡ false
is_false true h = absurd (h tt)
is_false false h = refl

pub not_is_false : (b : Bool) → T (not b) → b ≡ false
not_is_false true h = absurd h
not_is_false false h = refl

pub true_is : (b : Bool) → b ≡ true → T b
true_is b e = rw e tt

-- two tests that follow from each other are equal
pub same_test : (a b : Bool) → (T a → T b) → (T b → T a) → a ≡ b
same_test true true f g = refl
same_test true false f g = absurd (f tt)
same_test false true f g = absurd (g tt)
same_test false false f g = refl

pub and_true : (b : Bool) → (b && true) ≡ b
and_true true = refl
and_true false = refl

pub and_false : (b : Bool) → (b && false) ≡ false
and_false true = refl
and_false false = refl

pub or_true : (b : Bool) → (b || true) ≡ true
or_true true = refl
or_true false = refl

pub or_false : (b : Bool) → (b || false) ≡ b
or_false true = refl
or_false false = refl

-- for laws that a computed test shows
abbrev pub implies : Bool → Bool → Bool
implies true b = b
implies false b = true

pub implied : (a b : Bool) → T (implies a b) → T a → T b
implied true b h t = h
implied false b h t = absurd t

-- numbers
pub differ : (m n : ℕ) → (m ≡ n → ⊥) → T (not (eqb m n))
differ m n h = rw (ne_eqb m n h) tt

pub positive : (d : ℕ) → T (not (eqb d 0)) → 1 ≤ d
positive zero h = absurd h
positive (suc d) h = omega arith
