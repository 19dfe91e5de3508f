-- What the loops below a writer settle: one byte, the bytes of a text, the digits of a number; and that a writer which was written so has written.
use Prim.Native.Nat.{ℕ, ◌<◌, ◌≤◌, ◌/◌, ◌%◌}
use mathlib.Core.Path.{◌≡◌, refl, ap, ◌∙◌}
use mathlib.Core.List.{List, [], ◌∷◌, ◌++◌}
use native.Mathlib.Omega.{arith}
use lib.ListN.{set}
use Rattle.text.specs.declared.write.Writer.{Writer}
use Rattle.text.specs.Decimal.{digit_byte, decimal}
use Rattle.text.specs.Write.{Page, page, next_position, put_one, puts, Wrote}
use Rattle.text.specs.Writer.{page_of, writes}
use Rattle.text.proofs.Writing.{puts_more}
use Rattle.text.proofs.Digits.{ten_to, decimal_one, decimal_last}

-- ── one after the other ──────────────────────────────────────────────────
pub wrote_none : {s : List ℕ} {at : ℕ} → Wrote s at [] s at
unfolding puts
wrote_none = record { is = refl }

-- two writes in a row
pub wrote_more : {s : List ℕ} {at : ℕ} {a s' : List ℕ} {p : ℕ} {b s'' : List ℕ} {r : ℕ}
    → Wrote s at a s' p → Wrote s' p b s'' r → Wrote s at (a ++ b) s'' r
wrote_more {s} {at} {a} {b = b} v w = record { is = w.is ∙ ap (λ (q : Page). puts q b) v.is ∙ puts_more (page s at) a b }

-- one byte: stored where there is room, which is what `set` does
pub wrote_byte : (s : List ℕ) (at b : ℕ) {s' : List ℕ} {r : ℕ} → s' ≡ set s at b → r ≡ next_position at → Wrote s at (b ∷ []) s' r
unfolding puts put_one
wrote_byte s at b h e = record { is = rw (h, e) }

-- ── a digit at a time ────────────────────────────────────────────────────
pub wrote_digit : {s : List ℕ} {at : ℕ} (n : ℕ) {s' : List ℕ} {r : ℕ} → n < 10 → Wrote s at (digit_byte (n % 10) ∷ []) s' r → Wrote s at (decimal n) s' r
wrote_digit n h w = let m : n % 10 ≡ n = omega arith in rw (decimal_one n (omega arith), ← m) w

pub wrote_digits : {s : List ℕ} {at : ℕ} (n : ℕ) {s' : List ℕ} {p : ℕ} {s'' : List ℕ} {r : ℕ} → 10 ≤ n → n < ten_to 10
    → Wrote s at (decimal (n / 10)) s' p → Wrote s' p (digit_byte (n % 10) ∷ []) s'' r → Wrote s at (decimal n) s'' r
wrote_digits n l h v w = rw (decimal_last n l h) (wrote_more v w)

-- ── by a writer ──────────────────────────────────────────────────────────
-- the writer whose buffer and position were written so
pub written : (w : Writer) (bs : List ℕ) {s' : List ℕ} {r : ℕ} → Wrote w.bytes.now w.at bs s' r → record { bytes = record w.bytes { now = s' }; at = r } ≡ writes w bs
unfolding writes
written w bs v = ap (λ (p : Page). record { bytes = record w.bytes { now = p.held }; at = p.at }) v.is
