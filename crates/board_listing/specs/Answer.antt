-- What the reader and the writer of a listing answer, as the definitions have it.
use Rattle.std.specs.Prelude.{ℕ, List}
use Rattle.std.specs.declared.option.Option.{Option}
use Rattle.std.specs.declared.option.Option.TheVariants.{Some, None}
use Rattle.std.specs.declared.result.Result.{Result}
use Rattle.std.specs.declared.result.Result.TheVariants.{Ok, Err}
use Rattle.lend.specs.declared.refusal.Refusal.{Refusal}
use Rattle.lend.specs.Sizes.{Sizes}
use Rattle.lend.specs.Refusals.{number_of, answer_of}
use Rattle.listing.specs.Read.{Answer, accepted, refused}
use Rattle.listing.specs.Write.{Written, written}
use Rattle.board.specs.declared.Board.{Board}
use Rattle.board.specs.Board.{tables}
use Rattle.board_listing.specs.declared.read.Read.{Read}

-- the number 0 and the board that was read; with a refusal's number stands the start board
abbrev pub answer : {spaces pages slots places : ℕ} → Sizes → Result (Board spaces pages slots places) Refusal → Answer
answer z (Ok b) = accepted (tables b)
answer z (Err r) = refused z (number_of r)

-- the number 0, or that of what refused
abbrev pub number_told : Option Refusal → ℕ
number_told None = 0
number_told (Some r) = number_of r

-- the number, and the board that came back with it: nothing is filled in
abbrev pub answered : {spaces pages slots places : ℕ} → Read spaces pages slots places → Answer
answered r = record { number = number_told r.refused; board = tables r.board }

-- how many bytes were written, none with a refusal
abbrev pub length_of : Result ℕ Refusal → ℕ
length_of (Ok n) = n
length_of (Err r) = 0

-- the number, the length written, and the buffer
abbrev pub filled : Result ℕ Refusal → List ℕ → Written
filled r out = written (answer_of r) (length_of r) out
