-- The turns of a loop that runs a script: what is left to print is what was to be printed.
use Prim.Native.Nat.{ℕ, suc, ◌+◌, ◌-◌, ◌<◌, ◌≤◌}
use mathlib.Core.Path.{◌≡◌, refl, ap, ◌∙◌}
use mathlib.Core.List.{List, ◌∷◌}
use native.Mathlib.Omega.{arith}
use lib.ListN.{length, drop, take, drop_of_length-le, length-drop}
use lib.Seq.{drop-drop}
use Rattle.lend.specs.Sizes.{Sizes}
use Rattle.lend.specs.Tables.{Tables, State, alone}
use Rattle.text.specs.Lines.{lines, line_length}
use Rattle.text.specs.declared.write.Writer.{Writer}
use Rattle.text.specs.Writer.{writes}
use Rattle.text.proofs.Writing.{writes_more}
use Rattle.text.proofs.Seeking.{lines_first}
use Rattle.listing.specs.Listing.{listing_of}
use Rattle.script.specs.declared.Said.{Said}
use Rattle.script.specs.Script.{Turn, turn, said_line, answers, output_of}

-- the state is st before line n, which starts at `from`: with what is left to print all is printed
pub record Running (z : Sizes) (b : Tables) (s : List ℕ) (w₀ w : Writer) (st : State) (n from : ℕ) : Type 0 where
  pub count : n ≤ from + 1
  pub left : writes w (answers z n st (lines (drop from s))) ≡ writes w₀ (output_of z b s)

pub run_start : (z : Sizes) (b : Tables) (s : List ℕ) (w : Writer) → Running z b s w w (alone b) 1 0
unfolding output_of
run_start z b s w = record { count = omega arith; left = refl }

-- a line's answer, and then the answers to the lines after it
turned : (z : Sizes) (w all : Writer) {v : Writer} {st' : State} (n : ℕ) (st : State) (l x : List ℕ) (rest : List (List ℕ)) → lines l ≡ x ∷ rest
    → st' ≡ (turn z st x).state
    → v ≡ writes w (said_line n (turn z st x).said)
    → writes w (answers z n st (lines l)) ≡ all → writes v (answers z (n + 1) st' rest) ≡ all
unfolding answers
turned z w all n st l x rest e q f g = rw (f, writes_more, q) (rw e at g)

module _ {z : Sizes} {b : Tables} {s : List ℕ} {w₀ w : Writer} {st : State} {n from : ℕ} (g : Running z b s w₀ w st n from) where
  -- a line is judged and its answer written
  pub run_turn : {end : ℕ} {said : Said} {st' : State} {v : Writer} → from < length s → end ≡ from + line_length (drop from s)
      → record { said = said; state = st' } ≡ turn z st (take (end - from) (drop from s)) → v ≡ writes w (said_line n said)
      → Running z b s w₀ v st' (n + 1) (end + 1)
  run_turn {end} {said} h e q f =
      let k = line_length (drop from s) in
      let p : end - from ≡ k = omega arith in
      let i : from + suc k ≡ end + 1 = omega arith in
      let o : 0 < length (drop from s) = omega (arith, length-drop from s) in
      let l : lines (drop from s) ≡ take (end - from) (drop from s) ∷ lines (drop (end + 1) s) =
      rw (p, ← i, ← drop-drop (suc k) from s) (lines_first (drop from s) o) in
      let few = g.count in
      record { count = omega arith; left = turned z w _ n st (drop from s) _ _ l (ap (λ (t : Turn). t.state) q) (rw (← q) f) g.left }

  -- no line is left, and the end is written
  pub run_end : {v : Writer} → length s ≤ from → v ≡ writes w (listing_of z st.board) → v ≡ writes w₀ (output_of z b s)
  unfolding answers lines
  run_end h f = f ∙ rw (drop_of_length-le s h) at g.left
