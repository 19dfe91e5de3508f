-- Laws of counting: none, some, as many, at most as many, in two parts, one more.
use mathlib.Core.Path.{◌≡◌, refl}
use mathlib.Core.Bool.{Bool, true, false, not, ◌&&◌, cond}
use mathlib.Core.Logic.{◌⊎◌, inl, inr}
use Prim.Native.Nat.{ℕ, zero, suc, ◌+◌, ◌≤◌, ◌<◌}
use native.Mathlib.Nat.{le_of_eq, not-suc-le-zero, eq-or-lt_of_le, le_of_suc-le-suc}
use native.Mathlib.Omega.{arith}
use lib.Dec.{T}
use Rattle.lend.specs.Lists.{count}
use Rattle.lend.specs.Summary.{more}

-- where no number below n passes, the count is 0
pub count_none : (n : ℕ) (t : ℕ → Bool) → ((k : ℕ) → k < n → t k ≡ false) → count n t ≡ 0
unfolding count
count_none zero t h = refl
count_none (suc n) t h = rw (h n (omega arith)) (count_none n t (λ k l. h k (omega arith)))

-- tests that agree below n count the same
pub count_same : (n : ℕ) (t u : ℕ → Bool) → ((k : ℕ) → k < n → u k ≡ t k) → count n u ≡ count n t
unfolding count
count_same zero t u h = refl
count_same (suc n) t u h = rw (h n (omega arith), count_same n t u (λ k l. h k (omega arith)))

-- a test that passes only where another does counts no more
pub count_within : (n : ℕ) (t u : ℕ → Bool) → ((k : ℕ) → T (u k) → T (t k)) → count n u ≤ count n t
unfolding count
count_within zero t u h = le_of_eq refl
count_within (suc n) t u h = go (t n) (u n) (h n) (count_within n t u h)
  where
    go : (a b : Bool) → (T b → T a) → count n u ≤ count n t → cond b (suc (count n u)) (count n u) ≤ cond a (suc (count n t)) (count n t)
    go true true i l = omega arith
    go true false i l = omega arith
    go false true i l = absurd (i tt)
    go false false i l = l

-- the numbers that pass are those that pass another test as well and those that do not
pub count_split : (n : ℕ) (t u : ℕ → Bool) → count n t ≡ count n (λ k. t k && u k) + count n (λ k. t k && not (u k))
unfolding count
count_split zero t u = refl
count_split (suc n) t u = go (t n) (u n) (count_split n t u)
  where
    both : ℕ
    both = count n (λ k. t k && u k)

    alone : ℕ
    alone = count n (λ k. t k && not (u k))

    go : (a b : Bool) → count n t ≡ both + alone
        → cond a (suc (count n t)) (count n t) ≡ cond (a && b) (suc both) both + cond (a && not b) (suc alone) alone
    go true true e = omega arith
    go true false e = omega arith
    go false true e = e
    go false false e = e

-- where x did not pass, and all other numbers pass as before, the count has at most x more
pub count_one_more : (n x : ℕ) (t u : ℕ → Bool) → x < n → t x ≡ false → ((k : ℕ) → (k ≡ x → ⊥) → u k ≡ t k)
    → count n u ≡ more (u x) (count n t)
unfolding count
count_one_more zero x t u l out same = absurd (not-suc-le-zero l)
count_one_more (suc n) x t u l out same = pick (λ m. count_one_more n x t u m out same) (eq-or-lt_of_le (le_of_suc-le-suc l))
  where
    pick : (x < n → count n u ≡ more (u x) (count n t)) → (x ≡ n) ⊎ (x < n) → count (suc n) u ≡ more (u x) (count (suc n) t)
    pick ih (inl e) = rw (← e, out, count_same x t u (λ k m. same k (λ q. omega arith)))
    pick ih (inr m) = rw (same n (λ q. omega arith), ih m) (go (t n) (u x))
      where
        go : (a b : Bool) → cond a (suc (more b (count n t))) (more b (count n t)) ≡ more b (cond a (suc (count n t)) (count n t))
        go true true = refl
        go true false = refl
        go false true = refl
        go false false = refl

-- a count of 0 passes no number
pub none_counted : (n : ℕ) (t : ℕ → Bool) → count n t ≡ 0 → (k : ℕ) → k < n → T (t k) → ⊥
unfolding count
none_counted zero t e k l h = not-suc-le-zero l
none_counted (suc n) t e k l h = go (t n) refl e (none_counted n t) (eq-or-lt_of_le (le_of_suc-le-suc l))
  where
    go : (a : Bool) → t n ≡ a → cond a (suc (count n t)) (count n t) ≡ 0 → (count n t ≡ 0 → (j : ℕ) → j < n → T (t j) → ⊥)
        → (k ≡ n) ⊎ (k < n) → ⊥
    go true d q ih m = omega arith
    go false d q ih (inl i) = rw (i, d) at h
    go false d q ih (inr m) = ih q k m h
