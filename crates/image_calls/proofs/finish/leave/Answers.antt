-- `leave` meets its contract: with a number that is not 0, and with 0.
use Rattle.board.specs.Model.{sizes}
use Rattle.image.proofs.Answered.{finished_refused, finished_done}
use Rattle.image_calls.proofs.finish.leave.Goals as goal

pub returns-then-number-ne0 : goal.returns-then-number-ne0
returns-then-number-ne0 g c = finished_refused (sizes g.row.SPACES g.row.PAGES g.row.PLACES) _ _ _ _ _ _ c.if-number-ne0.true

pub returns : goal.returns
returns g c = finished_done (sizes g.row.SPACES g.row.PAGES g.row.PLACES) _ _ _ _ _ _ _ c.if-number-ne0.false c.write_image.ensures
