-- A number that is written is read back, and a number that is read stands there as it is written.
use Prim.Native.Nat.{ℕ, zero, suc, ◌+◌, ◌*◌, ◌-◌, ◌/◌, ◌%◌, ◌<◌, ◌≤◌}
use mathlib.Core.Path.{◌≡◌, refl, sym, ap, ◌∙◌}
use mathlib.Core.Bool.{Bool, true, false, cond, ◌&&◌}
use mathlib.Core.List.{List, [], ◌∷◌, ◌++◌, append_assoc}
use native.Mathlib.Omega.{arith}
use lib.Dec.{ltb, leb}
use borrow.Author.Tests.{ltb-true, ltb-false, leb-true}
use Rattle.std.specs.Prelude.{Option, Some, None, option_map, unwrap_or}
use Rattle.text.specs.Decimal.{digit_byte, decimal, digit_of, more_digits, number}
use Rattle.text.proofs.Reading.{digit_some, digit_small, number_next, ends_other}
use Rattle.text.proofs.Digits.{ten_to, decimal_one, decimal_last, decimal_snoc}

-- the largest number that is read
abbrev pub most_read : ℕ
most_read = 99999

-- what follows a number is no digit
abbrev pub Stop : List ℕ → Type 0
Stop [] = Unit {0}
Stop (b ∷ post) = None ≡ digit_of b

-- ── digits ───────────────────────────────────────────────────────────────
digit_read : (d : ℕ) → d ≤ 9 → Some d ≡ digit_of (digit_byte d)
digit_read d h = let z : 48 + d - 48 ≡ d = omega arith in ap (λ (k : ℕ). Some k) (sym z) ∙ digit_some (48 + d) (omega arith) (omega arith)

digit_back : (b d : ℕ) → digit_of b ≡ Some d → b ≡ digit_byte d
unfolding digit_of
digit_back b d e = go (ltb b 48) (ltb 57 b) refl e
  where
    go : (t u : Bool) → ltb b 48 ≡ t → cond t None (cond u None (Some (b - 48))) ≡ Some d → b ≡ digit_byte d
    go true u p e = absurd (cc)
    go false true p e = absurd (cc)
    go false false p e = let i : b - 48 ≡ d = cc in let o = ltb-false b 48 p in omega arith

-- ── written, then read ───────────────────────────────────────────────────
one_read : (n : ℕ) (post : List ℕ) → n ≤ 9 → number (decimal n ++ post) ≡ Some (more_digits n post)
unfolding number
one_read n post h = rw (decimal_one n h, ← digit_read n h)

-- its digits are read, and what follows may go on
digits_read : (k n : ℕ) (post : List ℕ) → n < ten_to (suc k) → n ≤ most_read → number (decimal n ++ post) ≡ Some (more_digits n post)
digits_read zero n post h u = one_read n post (omega (arith, h))
digits_read (suc k) n post h u = go (ltb 9 n) refl (λ l. digits_read k (n / 10) (digit_byte (n % 10) ∷ post) (omega (arith, h)) (omega arith))
  where
    go : (t : Bool) → ltb 9 n ≡ t
        → (9 < n → number (decimal (n / 10) ++ digit_byte (n % 10) ∷ post) ≡ Some (more_digits (n / 10) (digit_byte (n % 10) ∷ post)))
        → number (decimal n ++ post) ≡ Some (more_digits n post)
    go false q f = one_read n post (ltb-false 9 n q)
    go true q f =
        let l = ltb-true 9 n q in
        let z : n / 10 * 10 + n % 10 ≡ n = omega arith in
        let there : decimal n ++ post ≡ decimal (n / 10) ++ digit_byte (n % 10) ∷ post =
        ap (λ (a : List ℕ). a ++ post) (decimal_last n (omega arith) (omega arith)) ∙ append_assoc (decimal (n / 10)) (digit_byte (n % 10) ∷ []) post in
        let next : more_digits (n / 10) (digit_byte (n % 10) ∷ post) ≡ more_digits (n / 10 * 10 + n % 10) post =
        number_next (omega arith) (omega arith) refl (digit_read (n % 10) (omega arith)) in
        ap number there ∙ f l ∙ ap (λ (p : ℕ × List ℕ). Some p) (next ∙ ap (λ (m : ℕ). more_digits m post) z)

stops : (n : ℕ) (post : List ℕ) → Stop post → more_digits n post ≡ (n, post)
unfolding more_digits
stops n [] o = refl
stops n (b ∷ post) o = ends_other n refl o

-- a number that is written, with no digit after it, is read
pub number_read : (n : ℕ) (post : List ℕ) → n ≤ most_read → Stop post → number (decimal n ++ post) ≡ Some (n, post)
number_read n post h o = digits_read 4 n post (omega arith) h ∙ ap (λ (p : ℕ × List ℕ). Some p) (stops n post o)

-- ── read, then written ───────────────────────────────────────────────────
-- the number and the bytes after it are these bytes
abbrev pub Stands : List ℕ → ℕ × List ℕ → Type 0
Stands s p = (p.0 ≤ most_read) × (s ≡ decimal p.0 ++ p.1)

more_back : (v : ℕ) (s : List ℕ) → v ≤ most_read → Stands (decimal v ++ s) (more_digits v s)
unfolding more_digits
more_back v [] h = (h, refl)
more_back v (b ∷ s) h = go (ltb 0 v) (leb v 9999) (digit_of b) refl refl refl (λ d i. more_back (v * 10 + d) s i)
  where
    go : (t u : Bool) (o : Option ℕ) → ltb 0 v ≡ t → leb v 9999 ≡ u → digit_of b ≡ o
        → ((d : ℕ) → v * 10 + d ≤ most_read → Stands (decimal (v * 10 + d) ++ s) (more_digits (v * 10 + d) s))
        → Stands (decimal v ++ b ∷ s) (cond (t && u) (unwrap_or (option_map (λ d. more_digits (v * 10 + d) s) o) (v, b ∷ s)) (v, b ∷ s))
    go false u o p q e f = (h, refl)
    go true false o p q e f = (h, refl)
    go true true None p q e f = (h, refl)
    go true true (Some d) p q e f =
        let l = ltb-true 0 v p in
        let u = leb-true v 9999 q in
        let i : d ≤ 9 = digit_small b (sym e) in
        let w = f d (omega arith) in
        let last : decimal v ++ b ∷ s ≡ decimal (v * 10 + d) ++ s =
        rw (digit_back b d e, decimal_snoc v d (omega arith) (omega arith) i) (sym (append_assoc (decimal v) (digit_byte d ∷ []) s)) in
        (w.0, last ∙ w.1)

-- a number that is read stands there as it is written
pub number_back : (s : List ℕ) (p : ℕ × List ℕ) → number s ≡ Some p → Stands s p
unfolding number
number_back [] p e = absurd (cc)
number_back (b ∷ s) p e = go (digit_of b) refl e
  where
    go : (o : Option ℕ) → digit_of b ≡ o → option_map (λ d. more_digits d s) o ≡ Some p → Stands (b ∷ s) p
    go None q e = absurd (cc)
    go (Some d) q e =
        let i : d ≤ 9 = digit_small b (sym q) in
        let m : more_digits d s ≡ p = cc in
        let w = more_back d s (omega arith) in
        let z : b ∷ s ≡ decimal d ++ s = rw (digit_back b d q, decimal_one d i) in
        let all : Stands (b ∷ s) (more_digits d s) = (w.0, z ∙ w.1) in
        rw m at all
