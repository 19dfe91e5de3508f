-- `read_or_start` meets its contract: with a refusal the start board stands beside the number.
use Prim.Native.Nat.{ℕ}
use mathlib.Core.Path.{ap, ◌∙◌}
use Rattle.lend.specs.Tables.{Tables}
use Rattle.lend.specs.Refusals.{number_of}
use Rattle.listing.specs.Read.{Answer}
use Rattle.board_listing.proofs.read.read_or_start.Goals as goal

pub returns-in-Ok : goal.returns-in-Ok
returns-in-Ok g c = c.in-Ok.ensures

told : ℕ → Tables → Answer
told n t = record { number = n; board = t }

pub returns-in-Err : goal.returns-in-Err
unfolding told
returns-in-Err g c = ap (told (number_of c.in-Err.refusal)) c.start-board.ensures ∙ c.in-Err.ensures
