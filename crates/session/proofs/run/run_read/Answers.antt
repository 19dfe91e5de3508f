-- `run_read` meets its contract: a board that was read, and a refusal.
use mathlib.Core.Path.{refl}
use borrow.Author.Tests.{eqb-false}
use Rattle.lend.specs.Refusals.{number_of, refusal_not_done}
use Rattle.listing.specs.Read.{accepted, refused}
use Rattle.script.proofs.Parts.{by_board, by_refusal}
use Rattle.board.specs.Model.{sizes}
use Rattle.board.specs.Board.{tables}
use Rattle.session.proofs.run.run_read.Goals as goal

pub returns-in-Ok : goal.returns-in-Ok
returns-in-Ok g c =
    let z = sizes g.row.SPACES g.row.PAGES g.row.PLACES in
    rw c.in-Ok.is (by_board z (accepted (tables c.in-Ok.b)) _ _ refl (rw c.first.ensures.bytes at c.run_lines.ensures))

pub returns-in-Err : goal.returns-in-Err
returns-in-Err g c =
    let z = sizes g.row.SPACES g.row.PAGES g.row.PLACES in
    let n = number_of c.in-Err.refusal in
    rw c.in-Err.is (by_refusal z (refused z n) _ _ (eqb-false n 0 (refusal_not_done c.in-Err.refusal)) (rw c.from.ensures at c.refused.ensures))
