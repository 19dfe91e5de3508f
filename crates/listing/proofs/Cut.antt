-- Text as lines: what ends with a newline is its lines, each with a newline; and a line with none in it is cut off as it is.
use Prim.Native.Nat.{ℕ, zero, suc, ◌+◌, ◌-◌, ◌%◌, ◌/◌}
use mathlib.Core.Path.{◌≡◌, refl, sym, ap, ◌∙◌}
use mathlib.Core.Bool.{Bool, true, false, not, ◌&&◌, cond}
use mathlib.Core.List.{List, [], ◌∷◌, ◌++◌, append_assoc}
use native.Mathlib.Omega.{arith}
use lib.ListN.{length, length-append}
use lib.Seq.{get_or-append_seam}
use lib.Dec.{T, eqb, ltb}
use borrow.Author.Tests.{ne_eqb, eqb-true}
use Rattle.lend_basics.proofs.Bools.{and_l, and_r, and_i, not_is_false}
use Rattle.text.specs.Ascii.{newline}
use Rattle.text.specs.Decimal.{digit_byte, decimal_in, decimal}
use Rattle.text.specs.Lines.{lines, in_front}
use Rattle.text.specs.Write.{entry}
use Rattle.listing.specs.Read.{ended}

-- ── lines put together ───────────────────────────────────────────────────
unfoldable pub unlines : List (List ℕ) → List ℕ
unlines [] = []
unlines (l ∷ rest) = l ++ newline ∷ unlines rest

last_is : (n : ℕ) → suc n - 1 ≡ n
last_is n = omega arith

ended_more : (b c : ℕ) (s : List ℕ) → ended (b ∷ c ∷ s) ≡ ended (c ∷ s)
unfolding ended
ended_more b c s = rw (last_is (suc (length s)), last_is (length s))

ended_one : (b : ℕ) → ended (b ∷ []) ≡ eqb b newline
unfolding ended
ended_one b = refl

pub ended_last : (s : List ℕ) → ended (s ++ newline ∷ []) ≡ true
unfolding ended
ended_last s =
    let l : length (s ++ newline ∷ []) - 1 ≡ length s = omega (arith, length-append s (newline ∷ [])) in
    rw (l, get_or-append_seam s newline [] 0)

-- a byte in front of lines
put_in_front : (b x : ℕ) (xs : List ℕ) (ls : List (List ℕ)) → unlines ls ≡ x ∷ xs → unlines (in_front b ls) ≡ b ∷ x ∷ xs
unfolding unlines
put_in_front b x xs [] e = let z : ◌≡◌ {A = ℕ} 0 1 = cc in absurd (omega arith)
put_in_front b x xs (l ∷ ls) e = ap (λ (t : List ℕ). b ∷ t) e

-- a text that ends with a newline is its lines
pub whole_lines : (s : List ℕ) → ended s ≡ true → unlines (lines s) ≡ s
unfolding lines unlines
whole_lines [] e = refl
whole_lines (b ∷ []) e = let q : eqb b newline ≡ true = sym (ended_one b) ∙ e in rw q (rw (eqb-true b newline q))
whole_lines (b ∷ c ∷ s) e = go (eqb b newline) refl (whole_lines (c ∷ s) (sym (ended_more b c s) ∙ e))
  where
    go : (t : Bool) → eqb b newline ≡ t → unlines (lines (c ∷ s)) ≡ c ∷ s → unlines (cond t ([] ∷ lines (c ∷ s)) (in_front b (lines (c ∷ s)))) ≡ b ∷ c ∷ s
    go true q h = rw (h, eqb-true b newline q)
    go false q h = put_in_front b c s (lines (c ∷ s)) h

-- ── a line that is cut off ───────────────────────────────────────────────
-- no newline in it
unfoldable pub plain : List ℕ → Bool
plain [] = true
plain (b ∷ bs) = not (eqb b newline) && plain bs

pub plain_more : (a b : List ℕ) → T (plain a) → T (plain b) → T (plain (a ++ b))
unfolding plain
plain_more [] b h k = k
plain_more (x ∷ a) b h k = and_i (not (eqb x newline)) (plain (a ++ b)) (and_l (not (eqb x newline)) (plain a) h) (plain_more a b (and_r (not (eqb x newline)) (plain a) h) k)

plain_digits : (k n : ℕ) → T (plain (decimal_in k n))
unfolding decimal_in plain
plain_digits zero n = tt
plain_digits (suc k) n = plain_more (cond (ltb n 10) [] (decimal_in k (n / 10))) (digit_byte (n % 10) ∷ []) (front (ltb n 10) (plain_digits k (n / 10))) last
  where
    front : (t : Bool) → T (plain (decimal_in k (n / 10))) → T (plain (cond t [] (decimal_in k (n / 10))))
    front true h = tt
    front false h = h

    last : T (plain (digit_byte (n % 10) ∷ []))
    last = rw (ne_eqb (48 + n % 10) 10 (λ e. omega arith)) tt

pub plain_entry : (key : List ℕ) (n : ℕ) → T (plain key) → T (plain (entry key n))
unfolding entry decimal
plain_entry key n h = plain_more key (decimal_in 10 n) h (plain_digits 10 n)

cut_line : (l rest : List ℕ) → T (plain l) → lines (l ++ newline ∷ rest) ≡ l ∷ lines rest
unfolding lines plain
cut_line [] rest h = refl
cut_line (b ∷ l) rest h =
    rw (not_is_false (eqb b newline) (and_l (not (eqb b newline)) (plain l) h), cut_line l rest (and_r (not (eqb b newline)) (plain l) h))

-- a line with its newline, before more
pub cut_first : (l rest : List ℕ) → T (plain l) → lines ((l ++ newline ∷ []) ++ rest) ≡ l ∷ lines rest
cut_first l rest h = ap lines (append_assoc l (newline ∷ []) rest) ∙ cut_line l rest h
