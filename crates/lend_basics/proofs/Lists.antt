-- Laws of the list vocabulary: any and member, every and some, tabulated lists.
use mathlib.Core.Path.{◌≡◌, refl, sym, ap, ◌∙◌}
use mathlib.Core.Bool.{Bool, ◌||◌}
use mathlib.Core.List.{List, [], ◌∷◌, map}
use mathlib.Core.Logic.{◌⊎◌, inl, inr}
use Prim.Native.Nat.{ℕ, zero, suc, ◌+◌, ◌≤◌, ◌<◌}
use native.Mathlib.Nat.{eq-or-lt_of_le, not-suc-le-zero, le_of_suc-le-suc, add-zero, add-suc, suc-add, zero-add}
use native.Mathlib.Omega.{arith}
use lib.Dec.{T, eqb, eqb→eq, eqb_refl}
use lib.ListN.{length, length-map, get_or, get_or-eq_default}
use Rattle.lend.specs.Lists.{any, member, every, some, tabulate_from, tabulate}
use Rattle.lend_basics.proofs.Bools.{and_l, and_r, and_i, or_l, or_r, or_cases}

-- ── lengths ──────────────────────────────────────────────────────────────
-- what is known of an array of structs in a struct: `search (needs, length_unmap)` finds the length of its list
pub length_unmap : {A B : Type 0} (f : A → B) (l : List A) (n : ℕ) → length (map f l) ≡ n → length l ≡ n
length_unmap f l n e = sym (length-map l f) ∙ e

-- ── any and member ───────────────────────────────────────────────────────
pub any_map : (h : ℕ → ℕ) (t : ℕ → Bool) (qs : List ℕ) → any t (map h qs) ≡ any (λ q. t (h q)) qs
any_map h t [] = refl
any_map h t (q ∷ qs) = ap (λ (b : Bool). t (h q) || b) (any_map h t qs)

-- an element that passes makes any pass
pub any_of : (t : ℕ → Bool) (q : ℕ) (xs : List ℕ) → T (member q xs) → T (t q) → T (any t xs)
any_of t q [] m h = absurd m
any_of t q (x ∷ xs) m h = go (any_of t q xs) (or_cases (eqb x q) (member q xs) m)
  where
    go : (T (member q xs) → T (t q) → T (any t xs)) → T (eqb x q) ⊎ T (member q xs) → T (t x || any t xs)
    go rest (inl e) = or_l (t x) (any t xs) (rw (eqb→eq x q e) h)
    go rest (inr i) = or_r (t x) (any t xs) (rest i h)

-- and where any passes there is one
pub any_one : (t : ℕ → Bool) (xs : List ℕ) → T (any t xs) → (q : ℕ) × T (member q xs) × T (t q)
any_one t [] h = absurd h
any_one t (x ∷ xs) h = go (any_one t xs) (or_cases (t x) (any t xs) h)
  where
    go : (T (any t xs) → (q : ℕ) × T (member q xs) × T (t q)) → T (t x) ⊎ T (any t xs) → (q : ℕ) × T (member q (x ∷ xs)) × T (t q)
    go rest (inl a) = (x, or_l (eqb x x) (member x xs) (eqb_refl x), a)
    go rest (inr a) = let r = rest a in (r.0, or_r (eqb x r.0) (member r.0 xs) r.1, r.2)

pub member_map : (h : ℕ → ℕ) (q : ℕ) (xs : List ℕ) → T (member q xs) → T (member (h q) (map h xs))
member_map h q xs m = rw (any_map h (λ x. eqb x (h q)) xs) (any_of (λ x. eqb (h x) (h q)) q xs m (eqb_refl (h q)))

-- ── every and some ───────────────────────────────────────────────────────
pub each : (n : ℕ) (t : ℕ → Bool) → T (every n t) → (k : ℕ) → k < n → T (t k)
unfolding every
each zero t h k l = absurd (not-suc-le-zero l)
each (suc n) t h k l = pick (each n t (and_r (t n) (every n t) h) k) (eq-or-lt_of_le (le_of_suc-le-suc l))
  where
    pick : (k < n → T (t k)) → (k ≡ n) ⊎ (k < n) → T (t k)
    pick rest (inl e) = rw e (and_l (t n) (every n t) h)
    pick rest (inr m) = rest m

pub every_of : (n : ℕ) (t : ℕ → Bool) → ((k : ℕ) → k < n → T (t k)) → T (every n t)
unfolding every
every_of zero t h = tt
every_of (suc n) t h = and_i (t n) (every n t) (h n (omega arith)) (every_of n t (λ k l. h k (omega arith)))

pub some_of : (n : ℕ) (t : ℕ → Bool) (k : ℕ) → k < n → T (t k) → T (some n t)
unfolding some
some_of zero t k l h = absurd (not-suc-le-zero l)
some_of (suc n) t k l h = go (λ m. some_of n t k m h) (eq-or-lt_of_le (le_of_suc-le-suc l))
  where
    go : (k < n → T (some n t)) → (k ≡ n) ⊎ (k < n) → T (t n || some n t)
    go rest (inl e) = or_l (t n) (some n t) (rw (← e) h)
    go rest (inr m) = or_r (t n) (some n t) (rest m)

pub some_one : (n : ℕ) (t : ℕ → Bool) → T (some n t) → (k : ℕ) × (k < n) × T (t k)
unfolding some
some_one zero t h = absurd h
some_one (suc n) t h = go (some_one n t) (or_cases (t n) (some n t) h)
  where
    go : (T (some n t) → (k : ℕ) × (k < n) × T (t k)) → T (t n) ⊎ T (some n t) → (k : ℕ) × (k < suc n) × T (t k)
    go rest (inl a) = (n, omega arith, a)
    go rest (inr a) = let r = rest a in let l : r.0 < n = r.1 in (r.0, omega arith, r.2)

-- ── tabulated lists ──────────────────────────────────────────────────────
module _ {A : Type 0} (g : ℕ → A) where
  length_from : (i n : ℕ) → length (tabulate_from i n g) ≡ n
  unfolding tabulate_from
  length_from i zero = refl
  length_from i (suc n) = ap suc (length_from (suc i) n)

  get_d_from : (i n k : ℕ) (d : A) → k < n → get_or (tabulate_from i n g) k d ≡ g (i + k)
  unfolding tabulate_from
  get_d_from i zero k d h = absurd (not-suc-le-zero h)
  get_d_from i (suc n) zero d h = ap g (sym (add-zero i))
  get_d_from i (suc n) (suc k) d h = get_d_from (suc i) n k d (le_of_suc-le-suc h) ∙ ap g (suc-add i k ∙ sym (add-suc i k))

  pub length_tabulate : (n : ℕ) → length (tabulate n g) ≡ n
  length_tabulate n = length_from 0 n

  pub tabulate_at : (n k : ℕ) (d : A) → k < n → get_or (tabulate n g) k d ≡ g k
  tabulate_at n k d h = get_d_from 0 n k d h ∙ ap g (zero-add k)

  pub tabulate_past : (n k : ℕ) (d : A) → n ≤ k → get_or (tabulate n g) k d ≡ d
  tabulate_past n k d h = get_or-eq_default (tabulate n g) d {n = k} (omega (arith, length_tabulate n))
