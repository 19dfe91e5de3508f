-- `finish_range` meets its contract: what is told is told of the answer's outcome.
use mathlib.Core.Path.{◌≡◌, ◌∙◌}
use Rattle.board.specs.Model.{sizes}
use Rattle.board.specs.Board.{tables}
use Rattle.calls.specs.Progress.{range_outcome, range_state}
use Rattle.image_calls.proofs.Finished.{told, run_refused, run_done}
use Rattle.image_calls.proofs.finish.finish_range.Goals as goal
use Rattle.image_calls.proofs.finish.finish_range.Goals.{in-Ok+in-None, in-Ok+in-Some, in-Err}

pub returns-then-number-ne1 : goal.returns-then-number-ne1
returns-then-number-ne1 g c =
    let z = sizes g.row.SPACES g.row.PAGES g.row.PLACES in
    let o = range_outcome z c.args.answer (tables c.args.b.now) in
    let is : c.match-answer.number ≡ told o =
    elim c.match-answer.branch [
      | in-Ok+in-None w ↦ w.number-is ∙ rw (w.in-Ok.is, w.in-None.is)
      | in-Ok+in-Some w ↦ w.number-is ∙ rw (w.in-Ok.is, w.in-Some.is, w.from.ensures)
      | in-Err w ↦ w.number-is ∙ rw (w.in-Err.is, w.from-in-Err.ensures)
    ] in
    run_done z o _ is (range_state z c.args.answer _) c.if-number-ne1.true c.write_image.ensures

pub returns-else-number-ne1 : goal.returns-else-number-ne1
returns-else-number-ne1 g c =
    let z = sizes g.row.SPACES g.row.PAGES g.row.PLACES in
    let o = range_outcome z c.args.answer (tables c.args.b.now) in
    let is : c.match-answer.number ≡ told o =
    elim c.match-answer.branch [
      | in-Ok+in-None w ↦ w.number-is ∙ rw (w.in-Ok.is, w.in-None.is)
      | in-Ok+in-Some w ↦ w.number-is ∙ rw (w.in-Ok.is, w.in-Some.is, w.from.ensures)
      | in-Err w ↦ w.number-is ∙ rw (w.in-Err.is, w.from-in-Err.ensures)
    ] in
    run_refused z o _ is c.if-number-ne1.false
