-- Counting and searching all pages of the larger sizes comes to all pages of the smaller ones, where no other page passes.
use mathlib.Core.Path.{◌≡◌, refl, sym, ap, ◌∙◌}
use mathlib.Core.Bool.{Bool, true, false, not, cond}
use Prim.Native.Nat.{ℕ, zero, suc, ◌+◌, ◌*◌, ◌-◌, ◌≤◌, ◌<◌}
use native.Mathlib.Nat.{add-zero, add-suc, zero-mul, suc-mul, add-sub_of_le, mul-le-mul_right, div-lt_iff_lt-mul, lt_irrefl, le_of_eq}
use native.Mathlib.Omega.{arith}
use lib.Dec.{T}
use Rattle.lend.specs.Sizes.{Sizes, slot_count, key}
use Rattle.lend.specs.Lists.{some, count}
use Rattle.lend_basics.proofs.Bools.{same_test}
use Rattle.lend_basics.proofs.Counting.{count_none, count_same}
use Rattle.lend_basics.proofs.Lists.{some_of, some_one}
use Rattle.lend_lending.proofs.Map.{key_in}
use Rattle.lend_models.specs.Embedding.{Fits, shared}
use Rattle.lend_models.proofs.Wide.{widen, wide_page, page_of_key, key_widened, widen_in, shared_page, shared_space, shared_or_not}

-- ── counting ─────────────────────────────────────────────────────────────
-- a count in two parts
count_add : (m n : ℕ) (t : ℕ → Bool) → count (m + n) t ≡ count m t + count n (λ i. t (m + i))
unfolding count
count_add m zero t = rw (add-zero m) (omega arith)
count_add m (suc n) t = rw (add-suc m n, count_add m n t) (go (t (m + n)) (count m t) (count n (λ i. t (m + i))))
  where
    go : (b : Bool) (x y : ℕ) → cond b (suc (x + y)) (x + y) ≡ x + cond b (suc y) y
    go true x y = omega arith
    go false x y = refl

-- below 0 there is nothing to count
count_zero : (t u : ℕ → Bool) (m n : ℕ) → m ≡ 0 → n ≡ 0 → count m u ≡ count n t
unfolding count
count_zero t u m n e d = rw (e, d)

-- a test that is not true fails
not_of : (b : Bool) → (T b → ⊥) → T (not b)
not_of true h = h tt
not_of false h = tt

-- where none from m on passes, only the first m count
count_past : (m n : ℕ) (u : ℕ → Bool) → m ≤ n → ((k : ℕ) → m ≤ k → k < n → u k ≡ false) → count n u ≡ count m u
count_past m n u l h =
    ap (λ (x : ℕ). count x u) (sym (add-sub_of_le l))
    ∙ (count_add m (n - m) u
    ∙ (ap (λ (x : ℕ). count m u + x) (count_none (n - m) (λ i. u (m + i)) (λ i li. h (m + i) (omega arith) (omega arith))) ∙ add-zero (count m u)))

module _ (z w : Sizes) (fits : Fits z w) (some_page : 1 ≤ z.pages) (t u : ℕ → Bool)
    (same : (k : ℕ) → k < slot_count z → u (widen z w k) ≡ t k) (rest : (k : ℕ) → k < slot_count w → T (not (shared z w k)) → u k ≡ false) where
  -- ── searching ──────────────────────────────────────────────────────────
  -- some page of the larger sizes passes just when some page of the smaller ones does
  pub some_wide : some (slot_count w) u ≡ some (slot_count z) t
  some_wide =
      same_test (some (slot_count w) u) (some (slot_count z) t)
      (λ h. let r = some_one (slot_count w) u h in down r.0 r.1 r.2)
      (λ h. let r = some_one (slot_count z) t h in some_of (slot_count w) u (widen z w r.0) (widen_in z w fits some_page r.0 r.1) (rw (same r.0 r.1) r.2))
    where
      down : (k : ℕ) → k < slot_count w → T (u k) → T (some (slot_count z) t)
      down k l h =
          shared_or_not z w fits some_page k (T (some (slot_count z) t))
          (λ j lj e. some_of (slot_count z) t j lj (rw (← (same j lj), e) h))
          (λ n. absurd (rw (rest k l n) at h))

  -- ── counting ───────────────────────────────────────────────────────────
  -- a page past the smaller sizes' pages of its space fails
  past_page : (s p : ℕ) → s < z.spaces → z.pages ≤ p → p < w.pages → u (key w s p) ≡ false
  past_page s p ls lp lw =
      rest (key w s p) (key_in w s p (omega (arith, fits.spaces_fit)) lw)
      (not_of (shared z w (key w s p))
      (λ h. let l = shared_page z w fits some_page (key w s p) h in
      let e = page_of_key w (wide_page z w fits some_page) s p lw in
      lt_irrefl p (omega arith)))

  -- so does a page of a space past the smaller sizes' spaces
  past_space : (k : ℕ) → z.spaces * w.pages ≤ k → k < slot_count w → u k ≡ false
  past_space k past l =
      rest k l
      (not_of (shared z w k)
      (λ h. let b : k < z.spaces * w.pages = (div-lt_iff_lt-mul (wide_page z w fits some_page)).0 (shared_space z w fits some_page k h) in
      lt_irrefl k (omega arith)))

  -- the pages of one space
  count_row : (s : ℕ) → s < z.spaces → count w.pages (λ p. u (key w s p)) ≡ count z.pages (λ p. t (key z s p))
  count_row s ls =
      count_past z.pages w.pages (λ p. u (key w s p)) fits.pages_fit (λ p lp lw. past_page s p ls lp lw)
      ∙ count_same z.pages (λ p. t (key z s p)) (λ p. u (key w s p))
      (λ p lp. ap u (sym (key_widened z w fits some_page s p lp)) ∙ same (key z s p) (key_in z s p ls lp))

  -- the pages of the first n spaces
  count_rows : (n : ℕ) → n ≤ z.spaces → count (n * w.pages) u ≡ count (n * z.pages) t
  count_rows zero l = count_zero t u (zero * w.pages) (zero * z.pages) (zero-mul w.pages) (zero-mul z.pages)
  count_rows (suc n) l =
      ap (λ (x : ℕ). count x u) (suc-mul n w.pages)
      ∙ (count_add (n * w.pages) w.pages u
      ∙ (λ i. count_rows n (omega arith) i + count_row n (omega arith) i)
      ∙ (sym (count_add (n * z.pages) z.pages t) ∙ ap (λ (x : ℕ). count x t) (sym (suc-mul n z.pages))))

  -- as many pages of the larger sizes pass as of the smaller ones
  pub count_wide : count (slot_count w) u ≡ count (slot_count z) t
  count_wide =
      count_past (z.spaces * w.pages) (slot_count w) u (mul-le-mul_right w.pages fits.spaces_fit) past_space
      ∙ count_rows z.spaces (le_of_eq refl)
