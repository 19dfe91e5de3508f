-- What a run makes of the buffer that is lent to it, and the length that it tells: for every input and every buffer.
use Rattle.std.specs.Prelude.{ℕ, ◌≡◌, cond, List, ◌++◌, length, take, drop, ltb}
use Rattle.lend.specs.Sizes.{Sizes}
use Rattle.script.specs.Script.{input_limit, script_output}
use Rattle.script.specs.From.{from_output}
use Rattle.script.specs.Bound.{output_bound}

-- a buffer, and how many bytes at its start are output
pub record Printed : Type 0 where
  pub held : List ℕ
  pub count : ℕ

abbrev pub printed : List ℕ → ℕ → Printed
printed held count = record { held = held; count = count }

-- a buffer of so many bytes holds the output and then what it held; a shorter one is as it was, and no length is told
unfoldable pub printing : ℕ → List ℕ → List ℕ → Printed
printing most output out =
    cond (ltb (length out) most) (printed out 0) (printed (output ++ drop (length output) out) (length output))

-- a run made out' of the buffer out, and told r
pub record Told (most : ℕ) (output out out' : List ℕ) (r : ℕ) : Type 0 where
  pub is : printed out' r ≡ printing most output out

-- as many bytes as whatever script of that length can print at most
abbrev pub enough : Sizes → List ℕ → ℕ
enough z input = output_bound z (length (take input_limit input))

-- a script, from the start board on
abbrev pub Ran : Sizes → List ℕ → List ℕ → List ℕ → ℕ → Type 0
Ran z input out out' r = Told (enough z input) (script_output z input) out out' r

-- and from the board of a listing on
abbrev pub RanFrom : Sizes → List ℕ → List ℕ → List ℕ → List ℕ → ℕ → Type 0
RanFrom z listing input out out' r = Told (enough z input) (from_output z listing input) out out' r
