-- `start` meets its contract: slots, live spaces and places are those of the start board.
use mathlib.Core.Path.{refl}
use Rattle.lend_code.proofs.Sets.{start_made}
use Rattle.board.specs.Model.{sizes}
use Rattle.calls.proofs.Starts.{two_live}
use Rattle.calls.proofs.start.start.Goals as goal

pub returns : goal.returns
returns g c =
    start_made (sizes g.row.SPACES g.row.PAGES g.row.PLACES) _ _ _ _ c.start_slots.ensures
    (two_live g.row.SPACES c.args.shape.is_model.two_spaces) refl refl
