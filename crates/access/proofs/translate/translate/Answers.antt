-- `translate` meets its contract: what no refusal has shown makes the look at the page that of the rules.
use mathlib.Core.Path.{◌∙◌}
use native.Mathlib.Omega.{arith}
use Rattle.std.proofs.lemmas.Result.{err_from_is_err_and}
use Rattle.board.specs.Model.{sizes}
use Rattle.board.specs.Board.{tables}
use Rattle.access.proofs.Accessing.{translate_not, translate_named, Counted, counted_some, counted_none, translate_made}
use Rattle.access.proofs.translate.translate.Goals as goal
use Rattle.access.proofs.translate.translate.Goals.{in-Some, in-None}

pub returns-in_err-check_access : goal.returns-in_err-check_access
returns-in_err-check_access g c =
    let p = err_from_is_err_and c.from_residual.result c.from_residual.ensures.1 in
    rw (p.1, p.2) (translate_not _ _ _ _ _ _ c.in_err-check_access.ensures)

pub overflow_cast-page-2 : goal.overflow_cast-page-2
overflow_cast-page-2 g c = omega (arith, (translate_named _ _ _ _ _ c.in_ok-check_access.ensures).page_in, c.args.b.now.shape.is_model.few_pages)

pub overflow_cast-space : goal.overflow_cast-space
overflow_cast-space g c = omega (arith, (translate_named _ _ _ _ _ c.in_ok-check_access.ensures).space_in, c.args.b.now.shape.is_model.few_spaces)

pub overflow_cast-space-in-None : goal.overflow_cast-space-in-None
overflow_cast-space-in-None g c = omega (arith, (translate_named _ _ _ _ _ c.in_ok-check_access.ensures).space_in, c.args.b.now.shape.is_model.few_spaces)

pub returns : goal.returns
returns g c =
    let z = sizes g.row.SPACES g.row.PAGES g.row.PLACES in
    let counted : Counted z (tables c.args.b.now) c.args.space c.args.address c.args.rights c.in_ok-check_access.ensures c.look-seen.result (tables c.look-seen.new.b) c.look-seen.ensures c.from.result =
    elim c.match-seen.branch [
      | in-Some w ↦ c.from.ensures ∙ (w.links-is ∙ counted_some _ _ _ _ _ c.in_ok-check_access.ensures _ _ c.look-seen.ensures _ w.in-Some.is)
      | in-None w ↦ c.from.ensures ∙ (w.links-is ∙ counted_none _ _ _ _ _ c.in_ok-check_access.ensures _ _ c.look-seen.ensures w.in-None.is _ _ w.key.ensures w.lookup.ensures.links)
    ] in
    translate_made z _ _ _ _ c.in_ok-check_access.ensures c.look-seen.result _ c.look-seen.ensures _ _ _ c.is_none.ensures c.byte_at.ensures counted
