-- `write_image` meets its contract: the parts are written one after the other, which is the whole image.
use Rattle.board_image.proofs as own
use mathlib.Core.Path.{sym, ◌∙◌}
use Rattle.image.proofs.Runs.{written_parts, written_not}
use Rattle.board.specs.Model.{sizes}
use Rattle.board.specs.Board.{tables}
use own.write.write_image.Goals as goal

pub returns-then-image-image_bytes : goal.returns-then-image-image_bytes
returns-then-image-image_bytes g c =
    written_not (sizes g.row.SPACES g.row.PAGES g.row.PLACES) (tables c.args.b.now) _ (λ e. c.if-image-image_bytes.true (e ∙ sym c.image_bytes.ensures))

pub returns : goal.returns
returns g c =
    written_parts (sizes g.row.SPACES g.row.PAGES g.row.PLACES) (tables c.args.b.now) c.args.image.now _ _ _ _ _ (c.if-image-image_bytes.false ∙ c.image_bytes.ensures)
    c.write_slots.ensures c.write_live.ensures c.write_places.ensures c.split_at_mut-next.ensures.front_len c.write_summary.ensures
