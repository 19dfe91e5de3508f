-- `write_listing` meets its contract: the number and the length are those of the answer, and no listing is too long for its field.
use mathlib.Core.Path.{◌≡◌, ◌∙◌}
use native.Mathlib.Omega.{arith}
use Rattle.lend.specs.Refusals.{answer_of}
use Rattle.listing_image.proofs.Listed.{listed_image, written_short}
use Rattle.board.specs.Model.{sizes}
use Rattle.board_listing.specs.Answer.{length_of}
use Rattle.image_calls.proofs.listed.write_listing.Goals as goal
use Rattle.image_calls.proofs.listed.write_listing.Goals.{in-Ok, in-Err}

pub overflow_cast-number : goal.overflow_cast-number
overflow_cast-number g c =
    let short = written_short (sizes g.row.SPACES g.row.PAGES g.row.PLACES) _ _ c.in-Ok.ensures in
    omega (arith, short, c.args.shape.is_model.slots_are, c.args.shape.is_model.few_slots)

pub returns : goal.returns
returns g c =
    let is : c.match-write_listing.number ≡ (answer_of c.write_listing.result, length_of c.write_listing.result) =
    elim c.match-write_listing.branch [
      | in-Ok w ↦ w.number-is ∙ rw w.in-Ok.is
      | in-Err w ↦ w.number-is ∙ rw (w.in-Err.is, w.from.ensures)
    ] in
    rw is (listed_image (sizes g.row.SPACES g.row.PAGES g.row.PLACES) _ _ c.read_image.ensures c.write_listing.ensures)
