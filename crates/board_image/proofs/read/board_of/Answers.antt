-- `board_of` meets its contract: the parts are cut off and read one by one, and each of them has to be the board's.
use Rattle.board_image.proofs as own
use mathlib.Core.Path.{◌≡◌, refl, sym, ap, ◌∙◌}
use native.Mathlib.Omega.{arith}
use lib.ListN.{length}
use Rattle.image.specs.Image.{image_bytes, no_board}
use Rattle.image.proofs.Image.{board_short}
use Rattle.image.proofs.Parts.{cut_as, parts_cut, board_no_slots, board_no_live, board_of_parts}
use Rattle.board.specs.Model.{sizes}
use Rattle.board_image.specs.Parts.{tables_or}
use own.read.board_of.Goals as goal

pub returns-then-image-whole : goal.returns-then-image-whole
returns-then-image-whole g c =
    board_short (sizes g.row.SPACES g.row.PAGES g.row.PLACES) c.args.image.now _ (λ e. c.if-image-whole.true (omega (arith, e, c.image_bytes-whole.ensures))) refl

pub returns-in_err-slots : goal.returns-in_err-slots
returns-in_err-slots g c =
    let z = sizes g.row.SPACES g.row.PAGES g.row.PLACES in
    let are = c.args.shape.is_model.slots_are in
    let one = c.split_at.ensures in
    let two = c.split_at-2.ensures in
    let three = c.split_at-3.ensures in
    let next = c.in_ok-next.ensures.cases in
    let cut = parts_cut z are one.by_index.0 two.by_index.0 three.by_index.0 next.0 one.front_len two.front_len three.front_len in
    ap (tables_or (no_board z)) c.from_residual-in_err-slots.ensures
    ∙ board_no_slots z cut are (cut_as 4 g.row.SLOTS _ _ _ _ c.in_ok-as_array.ensures.cases.same c.as_chunks.ensures.front (omega (arith, one.front_len))) _
    (sym c.in_err-slots.was ∙ c.read_slots.ensures)

pub returns-in_err-live : goal.returns-in_err-live
returns-in_err-live g c =
    let z = sizes g.row.SPACES g.row.PAGES g.row.PLACES in
    let are = c.args.shape.is_model.slots_are in
    let one = c.split_at.ensures in
    let two = c.split_at-2.ensures in
    let three = c.split_at-3.ensures in
    let next = c.in_ok-next.ensures.cases in
    let cut = parts_cut z are one.by_index.0 two.by_index.0 three.by_index.0 next.0 one.front_len two.front_len three.front_len in
    ap (tables_or (no_board z)) c.from_residual-in_err-live.ensures
    ∙ board_no_live z cut c.in_ok-as_array-2.ensures.cases.same _ (sym c.in_err-live.was ∙ c.read_live.ensures)

pub returns : goal.returns
returns g c =
    let z = sizes g.row.SPACES g.row.PAGES g.row.PLACES in
    let are = c.args.shape.is_model.slots_are in
    let one = c.split_at.ensures in
    let two = c.split_at-2.ensures in
    let three = c.split_at-3.ensures in
    let next = c.in_ok-next.ensures.cases in
    let cut = parts_cut z are one.by_index.0 two.by_index.0 three.by_index.0 next.0 one.front_len two.front_len three.front_len in
    let whole : length c.args.image.now ≡ image_bytes z = omega (arith, c.if-image-whole.false, c.image_bytes-whole.ensures) in
    board_of_parts z cut are (cut_as 4 g.row.SLOTS _ _ _ _ c.in_ok-as_array.ensures.cases.same c.as_chunks.ensures.front (omega (arith, one.front_len)))
    whole c.in_ok-as_array-2.ensures.cases.same
    (cut_as 4 g.row.PLACES _ _ _ _ c.in_ok-as_array-3.ensures.cases.same c.as_chunks-2.ensures.front (omega (arith, three.front_len)))
    (cut_as 8 g.row.PAGES _ _ _ _ c.in_ok-as_array-4.ensures.cases.same c.as_chunks-3.ensures.front (omega (arith, one.back_len, two.back_len, three.back_len, next.1, whole, are)))
    (sym c.in_ok-slots.was ∙ c.read_slots.ensures) (sym c.in_ok-live.was ∙ c.read_live.ensures) c.read_places-places.ensures c.read_summary-summary.ensures
