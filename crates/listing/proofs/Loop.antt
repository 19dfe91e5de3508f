-- The turns of a loop that reads the lines of a listing: what is left settles the answer.
use Prim.Native.Nat.{ℕ, suc, ◌+◌, ◌-◌, ◌<◌, ◌≤◌}
use mathlib.Core.Path.{◌≡◌, refl, sym, ap, ◌∙◌}
use mathlib.Core.Bool.{Bool, true, false, ◌&&◌, false≢true}
use mathlib.Core.List.{List, [], ◌∷◌}
use Rattle.std.specs.Prelude.{Option, Some, None, option_and_then}
use Rattle.std.specs.Option.{is_some, unwrap_or}
use native.Mathlib.Omega.{arith}
use lib.ListN.{length, drop, take, set, drop_of_length-le, length-drop}
use lib.Seq.{drop-drop}
use lib.Dec.{eqb, ltb}
use Rattle.lend.specs.declared.Slot.{Slot}
use Rattle.lend.specs.Sizes.{Sizes, slot_count}
use Rattle.lend.specs.Start.{start_board}
use Rattle.text.specs.Lines.{lines, line_length}
use Rattle.text.proofs.Seeking.{lines_first}
use Rattle.listing.specs.Live.{all_live}
use Rattle.listing.specs.declared.read.Row.{Row}
use Rattle.listing.specs.Content.{row_key, rising_above, row_slot, placed, board_with, board_of}
use Rattle.listing.specs.Read.{Answer, refused, refusal, judged, live_in, held_in, row_in, fitting, Rest, with_row, held_last, rest_of, with_live, content_of, ended, said, answer_by, reading}
use Rattle.listing.specs.Loop.{finish, read_from}

-- the lines before `from` are read, and what is left settles the answer a
pub record Reading (z : Sizes) (s : List ℕ) (a : Answer) (live : ℕ) (rising : Bool) (last n : ℕ) (slots : List Slot) (from : ℕ) : Type 0 where
  pub few : n ≤ from
  pub left : finish z live rising last n slots (rest_of z (lines (drop from s))) ≡ a

pub read_start : (z : Sizes) (s : List ℕ) (live from : ℕ) (slots : List Slot) → slots ≡ (start_board z).slots → Reading z s (read_from z s live from) live true 0 0 slots from
unfolding read_from
read_start z s live from slots e = record { few = omega arith; left = ap (λ (l : List Slot). finish z live true 0 0 l (rest_of z (lines (drop from s)))) e }

-- the lines of what stands from a position on
from_line : (s : List ℕ) (from end : ℕ) → from < length s → end ≡ from + line_length (drop from s)
    → lines (drop from s) ≡ take (end - from) (drop from s) ∷ lines (drop (end + 1) s)
from_line s from end h e =
    let k = line_length (drop from s) in
    let i : end - from ≡ k = omega arith in
    let j : from + suc k ≡ end + 1 = omega arith in
    lines_first (drop from s) (omega (arith, length-drop from s))
    ∙ ap (λ (m : ℕ). take m (drop from s) ∷ lines (drop (suc k) (drop from s))) (sym i)
    ∙ ap (λ (l : List ℕ). take (end - from) (drop from s) ∷ lines l) (drop-drop (suc k) from s ∙ ap (λ (m : ℕ). drop m s) j)

and_group : (a b c d : Bool) → (a && (b && c) && d) ≡ (a && b && c && d)
and_group true b c d = refl
and_group false b c d = refl

module _ (z : Sizes) (live : ℕ) (rising : Bool) (last n : ℕ) (slots : List Slot) where
  -- the last line
  finish_held : (held : ℕ) → finish z live rising last n slots (held_last (Some held)) ≡ judged z true (rising && eqb n held) (board_with z slots live)
  unfolding held_last rising_above placed
  finish_held held = both rising
    where
      both : (b : Bool) → judged z true (b && true && eqb (n + 0) held) (board_with z slots live) ≡ judged z true (b && eqb n held) (board_with z slots live)
      both true = let e : n + 0 ≡ n = omega arith in rw e
      both false = refl

  -- a row and then others
  finish_row : (r : Row) (t : Option Rest)
      → finish z live rising last n slots (with_row r t) ≡ finish z live (rising && ltb last (row_key z r)) (row_key z r) (n + 1) (set slots (row_key z r) (row_slot r)) t
  unfolding rising_above placed
  finish_row r None = refl
  finish_row r (Some t) =
      let k = row_key z r in
      let e : n + suc (length t.rows) ≡ n + 1 + length t.rows = omega arith in
      ap (λ (b : Bool). judged z true b (board_with z (placed z (set slots k (row_slot r)) t.rows) live))
      (and_group rising (ltb last k) (rising_above z k t.rows) (eqb (n + suc (length t.rows)) t.held)
      ∙ ap (λ (m : ℕ). rising && ltb last k && rising_above z k t.rows && eqb m t.held) e)

module _ {z : Sizes} {s : List ℕ} {a : Answer} {live : ℕ} {rising : Bool} {last n : ℕ} {slots : List Slot} {from : ℕ} (g : Reading z s a live rising last n slots from) where
  -- no line is left
  pub read_none : length s ≤ from → refused z 17 ≡ a
  unfolding lines rest_of
  read_none h = rw (drop_of_length-le s h) at g.left

  module _ {end : ℕ} (h : from < length s) (e : end ≡ from + line_length (drop from s)) where
    -- the last line
    last_line : length s ≤ end + 1 → finish z live rising last n slots (held_last (held_in (slot_count z - z.pages) (take (end - from) (drop from s)))) ≡ a
    unfolding lines rest_of
    last_line o =
        let d : lines (drop (end + 1) s) ≡ [] = ap lines (drop_of_length-le s o) in
        rw (from_line s from end h e, d) at g.left

    pub read_last : length s ≤ end + 1 → {held : ℕ} → Some held ≡ held_in (slot_count z - z.pages) (take (end - from) (drop from s))
        → judged z true (rising && eqb n held) (board_with z slots live) ≡ a
    read_last o {held} q =
        sym (finish_held z live rising last n slots held)
        ∙ ap (λ (x : Option ℕ). finish z live rising last n slots (held_last x)) q
        ∙ last_line o

    pub read_unheld : length s ≤ end + 1 → None ≡ held_in (slot_count z - z.pages) (take (end - from) (drop from s)) → refused z 17 ≡ a
    unfolding held_last
    read_unheld o q = ap (λ (x : Option ℕ). finish z live rising last n slots (held_last x)) q ∙ last_line o

    -- well formed or not, it settles the answer
    pub read_held : length s ≤ end + 1 → (held : Option ℕ) → held ≡ held_in (slot_count z - z.pages) (take (end - from) (drop from s))
        → {formed : Bool} → formed ≡ is_some held → {m : ℕ} → m ≡ unwrap_or held 0
        → judged z formed (rising && eqb n m) (board_with z slots live) ≡ a
    unfolding judged refusal
    read_held o None q t m = rw t (read_unheld o q)
    read_held o (Some held) q t m = rw (t, m) (read_last o q)

    -- a line before the last
    row_line : end + 1 < length s
        → finish z live rising last n slots
        (option_and_then (λ r. with_row r (rest_of z (lines (drop (end + 1) s)))) (fitting z (row_in (take (end - from) (drop from s)))))
        ≡ a
    unfolding rest_of
    row_line o =
        let line = take (end - from) (drop from s) in
        let m : lines (drop (end + 1) s) ≡ take (line_length (drop (end + 1) s)) (drop (end + 1) s) ∷ lines (drop (suc (line_length (drop (end + 1) s))) (drop (end + 1) s)) =
        lines_first (drop (end + 1) s) (omega (arith, length-drop (end + 1) s)) in
        let l = ap (λ (x : List (List ℕ)). finish z live rising last n slots (rest_of z x)) (ap (λ (x : List (List ℕ)). line ∷ x) (sym m) ∙ sym (from_line s from end h e)) ∙ g.left in
        rw m l

    -- what such a line says settles the answer with what is left
    by_row : end + 1 < length s → {o : Option Row} → o ≡ fitting z (row_in (take (end - from) (drop from s)))
        → finish z live rising last n slots (option_and_then (λ r. with_row r (rest_of z (lines (drop (end + 1) s)))) o) ≡ a
    by_row o q = ap (λ (x : Option Row). finish z live rising last n slots (option_and_then (λ r. with_row r (rest_of z (lines (drop (end + 1) s)))) x)) q ∙ row_line o

    pub read_turn : end + 1 < length s → {r : Row} → Some r ≡ fitting z (row_in (take (end - from) (drop from s)))
        → {k : ℕ} → k ≡ row_key z r → {rising' : Bool} → rising' ≡ (rising && ltb last k) → {slot : Slot} → slot ≡ row_slot r
        → Reading z s a live rising' k (n + 1) (set slots k slot) (end + 1)
    read_turn o {r} q {k} qk {rising'} qr {slot} qs =
        let rest = rest_of z (lines (drop (end + 1) s)) in
        record {
          few = omega (arith, g.few);
          left = ap (λ (x : Bool). finish z live x k (n + 1) (set slots k slot) rest) qr
              ∙ ap (λ (x : Slot). finish z live (rising && ltb last k) k (n + 1) (set slots k x) rest) qs
              ∙ ap (λ (x : ℕ). finish z live (rising && ltb last x) x (n + 1) (set slots x (row_slot r)) rest) qk
              ∙ sym (finish_row z live rising last n slots r rest)
              ∙ by_row o q;
        }

    pub read_bad : end + 1 < length s → None ≡ fitting z (row_in (take (end - from) (drop from s))) → refused z 17 ≡ a
    read_bad o q = by_row o q

-- ── the first line ───────────────────────────────────────────────────────
pub not_ended : (z : Sizes) (s : List ℕ) → ended s ≡ false → refused z 17 ≡ reading z s
unfolding reading said
not_ended z s e = rw e

some_bytes : (s : List ℕ) → ended s ≡ true → 0 < length s
unfolding ended
some_bytes [] e = absurd (false≢true e)
some_bytes (b ∷ s) e = omega arith

whole_read : (z : Sizes) (live : ℕ) (t : Option Rest) → finish z live true 0 0 (start_board z).slots t ≡ answer_by z (with_live live t)
unfolding board_of
whole_read z live None = refl
whole_read z live (Some t) = let e : 0 + length t.rows ≡ length t.rows = omega arith in rw e

module _ (z : Sizes) (s : List ℕ) (o : ended s ≡ true) {end : ℕ} (e : end ≡ 0 + line_length (drop 0 s)) where
  first_line : {live : Option ℕ} → live ≡ live_in (all_live z) (take end s)
      → answer_by z (option_and_then (λ n. with_live n (rest_of z (lines (drop (end + 1) s)))) live) ≡ reading z s
  unfolding reading said content_of
  first_line q =
      let same : end - 0 ≡ end = omega arith in
      rw (o, from_line s 0 end (some_bytes s o) e, same)
      (ap (λ (x : Option ℕ). answer_by z (option_and_then (λ n. with_live n (rest_of z (lines (drop (end + 1) s)))) x)) q)

  pub first_bad : None ≡ live_in (all_live z) (take end s) → refused z 17 ≡ reading z s
  first_bad q = first_line q

  pub first_read : {live : ℕ} → Some live ≡ live_in (all_live z) (take end s) → read_from z s live (end + 1) ≡ reading z s
  unfolding read_from
  first_read {live} q = whole_read z live (rest_of z (lines (drop (end + 1) s))) ∙ first_line q
