-- A list of different numbers below n, each with a property, is no longer than the count of such numbers.
use mathlib.Core.Path.{◌≡◌, refl}
use mathlib.Core.Bool.{Bool, true, false, not, ◌&&◌, cond}
use mathlib.Core.List.{List, [], ◌∷◌}
use mathlib.Core.Logic.{◌⊎◌, inl, inr}
use Prim.Native.Nat.{ℕ, zero, suc, ◌≤◌, ◌<◌}
use native.Mathlib.Nat.{le_of_suc-le-suc, not-suc-le-zero, eq-or-lt_of_le, le_of_eq}
use native.Mathlib.Omega.{arith}
use lib.Dec.{T, eqb, eqb_refl}
use lib.ListN.{length}
use borrow.Author.Tests.{ne_eqb, eq-eqb}
use Rattle.lend.specs.Lists.{member, distinct, count}
use Rattle.lend_basics.proofs.Bools.{and_l, and_r, or_l, or_r, is_true, and_true, and_false}

-- the numbers that pass, x aside
but : (ℕ → Bool) → ℕ → ℕ → Bool
but t x y = t y && not (eqb y x)

but_other : (t : ℕ → Bool) (x y : ℕ) → (y ≡ x → ⊥) → but t x y ≡ t y
unfolding but
but_other t x y h = rw (ne_eqb y x h) (and_true (t y))

but_same : (t : ℕ → Bool) (x : ℕ) → but t x x ≡ false
unfolding but
but_same t x = rw (eq-eqb x x refl) (and_false (t x))

count_same : (t : ℕ → Bool) (x n : ℕ) → n ≤ x → count n (but t x) ≡ count n t
unfolding count
count_same t x zero h = refl
count_same t x (suc n) h = rw (but_other t x n (λ e. omega arith), count_same t x n (omega arith))

count_but : (t : ℕ → Bool) (x n : ℕ) → x < n → T (t x) → count n t ≡ suc (count n (but t x))
unfolding count
count_but t x zero l h = absurd (not-suc-le-zero l)
count_but t x (suc n) l h = pick (λ m. count_but t x n m h) (eq-or-lt_of_le (le_of_suc-le-suc l))
  where
    pick : (x < n → count n t ≡ suc (count n (but t x))) → (x ≡ n) ⊎ (x < n) → count (suc n) t ≡ suc (count (suc n) (but t x))
    pick ih (inl e) = rw (← e, is_true (t x) h, but_same t x, count_same t x x (le_of_eq refl))
    pick ih (inr m) = rw (but_other t x n (λ e. omega arith), ih m) (go (t n))
      where
        go : (b : Bool) → cond b (suc (suc (count n (but t x)))) (suc (count n (but t x))) ≡ suc (cond b (suc (count n (but t x))) (count n (but t x)))
        go true = refl
        go false = refl

pub pigeon : (xs : List ℕ) (t : ℕ → Bool) (n : ℕ) → T (distinct xs) → ((x : ℕ) → T (member x xs) → (x < n) × T (t x)) → length xs ≤ count n t
pigeon [] t n d h = omega arith
pigeon (x ∷ xs) t n d h =
    let hx = h x (or_l (eqb x x) (member x xs) (eqb_refl x)) in
    let ih = pigeon xs (but t x) n (and_r (not (member x xs)) (distinct xs) d) rest in
    let c = count_but t x n hx.0 hx.1 in
    omega arith
  where
    rest : (y : ℕ) → T (member y xs) → (y < n) × T (but t x y)
    rest y m = let hy = h y (or_r (eqb x y) (member y xs) m) in (hy.0, rw (but_other t x y (λ e. other (rw e at m))) hy.1)
      where
        other : T (member x xs) → ⊥
        other i = let a : T (not (member x xs)) = and_l (not (member x xs)) (distinct xs) d in (rw (is_true (member x xs) i) at a)

pub count_le : (t : ℕ → Bool) (n : ℕ) → count n t ≤ n
unfolding count
count_le t zero = omega arith
count_le t (suc n) = go (t n) (count_le t n)
  where
    go : (b : Bool) → count n t ≤ n → cond b (suc (count n t)) (count n t) ≤ suc n
    go true h = omega arith
    go false h = omega arith
