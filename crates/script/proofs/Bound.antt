-- The output of a script is no longer than the bound, so that a buffer of that length holds it whole.
use Prim.Native.Nat.{ℕ, suc, ◌+◌, ◌*◌, ◌-◌, ◌<◌, ◌≤◌, zero-le}
use mathlib.Core.Path.{◌≡◌, refl, ap}
use mathlib.Core.Bool.{Bool, true, false, cond}
use Rattle.std.specs.Prelude.{Option, Some, None}
use mathlib.Core.List.{List, [], ◌∷◌}
use native.Mathlib.Omega.{arith}
use lib.ListN.{length, length-append, take, length-take}
use native.Mathlib.Nat.{min-le_left}
use lib.Dec.{eqb}
use Rattle.lend.specs.Sizes.{Sizes, slot_count, entry, premium}
use Rattle.lend.specs.Tables.{Tables, State, alone}
use Rattle.lend.specs.Start.{start_board}
use Rattle.lend.specs.Calls.{Reply}
use Rattle.text.specs.declared.Request.{Request}
use Rattle.text.specs.declared.Request.TheVariants.{Create, Delete, Unmap, Flush, Map, Grant, Translate}
use Rattle.text.specs.Ascii.{newline}
use Rattle.text.specs.Lines.{lines, in_front}
use Rattle.text.specs.Request.{request_of, is_comment, spell}
use Rattle.text.specs.Write.{answer_line, translation_line, malformed_line, refused_line}
use Rattle.text.specs.Write as write
use Rattle.text.proofs.Digits.{decimal_longest, decimal_shorter}
use Rattle.text_laws.proofs.Requests.{Spelt, request_back, spell_shortest}
use Rattle.listing.specs.Read.{Answer, reading}
use Rattle.listing.proofs.Length.{listing_length}
use Rattle.script.specs.Bound.{output_bound}
use Rattle.script.specs.From.{output_by, from_output}
use Rattle.script.specs.Run.{enough}
use Rattle.script.specs.Script.{judged, said_of, turn, silent, spoken, said_line, answers, output_of, input_limit, script_output}

-- ── each line that is written ────────────────────────────────────────────
answer_length : (n a e : ℕ) → length (answer_line n a e) ≤ 63
unfolding answer_line write.entry
answer_length n a e = simp length-append (omega (arith, decimal_longest n, decimal_longest a, decimal_longest e))

translation_length : (n a x : ℕ) (hit : Bool) (l : ℕ) → length (translation_line n a x hit l) ≤ 76
unfolding translation_line write.entry
translation_length n a x hit l =
    simp length-append (omega (arith, decimal_longest n, decimal_longest a, decimal_longest x, decimal_shorter 0 (cond hit 1 0) (bit hit), decimal_longest l))
  where
    bit : (b : Bool) → cond b 1 0 < 10
    bit true = omega arith
    bit false = omega arith

malformed_length : (n : ℕ) → n ≤ 99999 → length (malformed_line n) ≤ 21
unfolding malformed_line write.entry
malformed_length n h = simp length-append (omega (arith, decimal_shorter 4 n (omega arith)))

-- ── a turn ───────────────────────────────────────────────────────────────
said_length : (n : ℕ) (q : Request) (r : Reply) → n ≤ 99999 → length (said_line n (said_of (Some q) r)) ≤ 76
unfolding said_line
said_length n (Create s) r h = omega (arith, answer_length n r.number r.emptied)
said_length n (Delete s) r h = omega (arith, answer_length n r.number r.emptied)
said_length n (Unmap s p d) r h = omega (arith, answer_length n r.number r.emptied)
said_length n (Flush s p d) r h = omega (arith, answer_length n r.number r.emptied)
said_length n (Map f p t a d) r h = omega (arith, answer_length n r.number r.emptied)
said_length n (Grant f p t a d) r h = omega (arith, answer_length n r.number r.emptied)
said_length n (Translate s a d) r h = translation_length n r.number r.address r.hit r.links

-- a line that asks for something is long, and one that is malformed is answered shortly
request_length : (n : ℕ) (line : List ℕ) (o : Option Request) (r : Reply) → n ≤ 99999 → ((q : Request) → o ≡ Some q → Spelt line q)
    → length (said_line n (said_of o r)) ≤ 21 * (length line + 1)
unfolding said_line
request_length n line None r h f = omega (arith, malformed_length n h)
request_length n line (Some q) r h f =
    let w = f q refl in
    let l : length line ≡ length (spell q) = ap length w.0 in
    omega (arith, said_length n q r h, spell_shortest q w.1)

turn_length : (z : Sizes) (n : ℕ) (st : State) (line : List ℕ) → n ≤ 99999 → length (said_line n (turn z st line).said) ≤ 21 * (length line + 1)
unfolding turn said_line
turn_length z n st line h = go (is_comment line)
  where
    go : (t : Bool) → length (said_line n (cond t (silent st) (spoken (request_of line) (judged z st (request_of line)))).said) ≤ 21 * (length line + 1)
    go true = zero-le
    go false = request_length n line (request_of line) (judged z st (request_of line)).reply h (request_back line)

-- ── all lines ────────────────────────────────────────────────────────────
-- the bytes of some lines, with a newline each
weight : List (List ℕ) → ℕ
weight [] = 0
weight (line ∷ rest) = length line + 1 + weight rest

lines_weight : (s : List ℕ) → weight (lines s) ≤ length s + 1
unfolding lines weight
lines_weight [] = omega arith
lines_weight (b ∷ bs) = go (eqb b newline) (lines bs) (lines_weight bs)
  where
    go : (t : Bool) (ls : List (List ℕ)) → weight ls ≤ length bs + 1 → weight (cond t ([] ∷ ls) (in_front b ls)) ≤ suc (length bs) + 1
    go true ls h = omega arith
    go false [] h = omega arith
    go false (l ∷ ls) h = omega arith

lines_few : (s : List ℕ) → length (lines s) ≤ length s
unfolding lines
lines_few [] = zero-le
lines_few (b ∷ bs) = go (eqb b newline) (lines bs) (lines_few bs)
  where
    go : (t : Bool) (ls : List (List ℕ)) → length ls ≤ length bs → length (cond t ([] ∷ ls) (in_front b ls)) ≤ suc (length bs)
    go true ls h = omega arith
    go false [] h = omega arith
    go false (l ∷ ls) h = omega arith

answers_length : (z : Sizes) (n : ℕ) (st : State) (ls : List (List ℕ)) → n + length ls ≤ 100000
    → length (answers z n st ls) ≤ 21 * weight ls + (83 * (slot_count z - z.pages) + 32)
unfolding answers weight
answers_length z n st [] h = omega (arith, listing_length z st.board)
answers_length z n st (l ∷ ls) h =
    rw length-append
    (omega (arith, turn_length z n st l (omega arith), answers_length z (n + 1) (turn z st l).state ls (omega arith)))

output_length : (z : Sizes) (b : Tables) (s : List ℕ) → length s ≤ input_limit → length (output_of z b s) ≤ output_bound z (length s)
unfolding output_of output_bound
output_length z b s h = omega (arith, answers_length z 1 (alone b) (lines s) (omega (arith, lines_few s)), lines_weight s)

-- ── the bound of every input ─────────────────────────────────────────────
-- no more than the limit is read
part_short : (s : List ℕ) → length (take input_limit s) ≤ input_limit
part_short s = rw length-take (min-le_left input_limit (length s))

first_length : (z : Sizes) (b : Tables) (s : List ℕ) → length (output_of z b (take input_limit s)) ≤ enough z s
first_length z b s = output_length z b (take input_limit s) (part_short s)

pub script_length : (z : Sizes) (s : List ℕ) → length (script_output z s) ≤ enough z s
unfolding script_output
script_length z s = first_length z (start_board z) s

refused_length : (n : ℕ) → length (refused_line n) ≤ 32
unfolding refused_line write.entry
refused_length n = simp length-append (omega (arith, decimal_longest n))

least : (z : Sizes) {m : ℕ} (n : ℕ) → m ≤ 32 → m ≤ output_bound z n
unfolding output_bound
least z n h = omega arith

by_length : (z : Sizes) (a : Answer) (s : List ℕ) → length (output_by z a s) ≤ enough z s
unfolding output_by
by_length z a s = go (eqb a.number 0)
  where
    go : (t : Bool) → length (cond t (output_of z a.board (take input_limit s)) (refused_line a.number)) ≤ enough z s
    go true = first_length z a.board s
    go false = least z (length (take input_limit s)) (refused_length a.number)

pub from_length : (z : Sizes) (listing s : List ℕ) → length (from_output z listing s) ≤ enough z s
unfolding from_output
from_length z listing s = by_length z (reading z (take input_limit listing)) s

pub enough_most : (z : Sizes) (s : List ℕ) → enough z s ≤ output_bound z input_limit
unfolding output_bound
enough_most z s = omega (arith, part_short s)

-- so a buffer of that length is long enough
pub long_enough : (z : Sizes) (s : List ℕ) {n : ℕ} → output_bound z input_limit ≤ n → enough z s ≤ n
long_enough z s h = omega (arith, enough_most z s)

pub entry_bound : output_bound entry input_limit ≡ 1394901
unfolding output_bound
entry_bound = refl

pub premium_bound : output_bound premium input_limit ≡ 1455989
unfolding output_bound
premium_bound = refl
