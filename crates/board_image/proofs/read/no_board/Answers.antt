-- `no_board` meets its contract: arrays of one value.
use Rattle.board_image.proofs as own
use Rattle.image.proofs.Image.{no_board_made}
use Rattle.board.specs.Model.{sizes}
use own.read.no_board.Goals as goal

pub returns : goal.returns
returns g c = no_board_made (sizes g.row.SPACES g.row.PAGES g.row.PLACES) g.row.SLOTS c.args.shape.is_model.slots_are
