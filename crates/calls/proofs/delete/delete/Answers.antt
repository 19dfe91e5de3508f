-- `delete` meets its contract: what the checks have shown makes the withdrawal that of the rules.
use mathlib.Core.Path.{ap}
use Rattle.std.proofs.lemmas.Result.{err_from_is_err_and}
use Rattle.board.specs.declared.sound.Pages.{Pages}
use Rattle.calls.proofs.Refused.{unsound_by, sound_by}
use Rattle.calls.proofs.Spaces.{delete_refused, delete_made}
use Rattle.calls.proofs.delete.delete.Goals as goal

pub returns-in_err-pages : goal.returns-in_err-pages
returns-in_err-pages g c =
    let p = err_from_is_err_and c.from_residual.result c.from_residual.ensures.1 in
    rw (p.1, p.2) (unsound_by _ _ _ _ c.in_err-pages.ensures)

pub returns-in_err-first_refusal : goal.returns-in_err-first_refusal
returns-in_err-first_refusal g c =
    let p = err_from_is_err_and c.from_residual-in_err-first_refusal.result c.from_residual-in_err-first_refusal.ensures.1 in
    let found = sound_by _ _ _ c.in_ok-pages.ensures in
    rw (p.1, p.2) (delete_refused _ _ found.0 _ _ c.is_live.ensures _ c.in_err-first_refusal.ensures)

pub returns : goal.returns
returns g c =
    let found = sound_by _ _ _ c.in_ok-pages.ensures in
    delete_made _ _ found.0 _ _ c.is_live.ensures c.args.b.now.shape.is_model.some_pages c.in_ok-first_refusal.ensures
    _ _ c.pages_of.ensures c.line_has-reached.ensures _ (ap (λ (x : Pages g.row.PAGES g.row.SLOTS). x.frames) found.1)
    _ _ c.withdraw-lost.ensures.board c.withdraw-lost.ensures.lost _ c.tally-b.ensures _ c.from.ensures
