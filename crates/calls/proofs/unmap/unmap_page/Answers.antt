-- `unmap_page` meets its contract: what the check has shown makes the withdrawal that of the rules.
use native.Mathlib.Omega.{arith}
use Rattle.std.proofs.lemmas.Result.{err_from_is_err_and}
use Rattle.lend_code.proofs.Calls.{named_in}
use Rattle.calls.proofs.PageCalls.{unmap_refused, unmap_named, unmap_made}
use Rattle.calls.proofs.unmap.unmap_page.Goals as goal

pub returns-in_err-check_page : goal.returns-in_err-check_page
returns-in_err-check_page g c =
    let p = err_from_is_err_and c.from_residual.result c.from_residual.ensures.1 in
    rw (p.1, p.2) (unmap_refused _ _ c.requires _ _ _ _ c.in_err-check_page.ensures)

pub overflow_cast-space : goal.overflow_cast-space
overflow_cast-space g c =
    omega (arith, (unmap_named _ _ c.requires _ _ _ c.in_ok-check_page.ensures).space_in, c.args.b.now.shape.is_model.few_spaces)

pub overflow_cast-page : goal.overflow_cast-page
overflow_cast-page g c =
    omega (arith, (unmap_named _ _ c.requires _ _ _ c.in_ok-check_page.ensures).page_in, c.args.b.now.shape.is_model.few_pages)

pub bounds-losing-y : goal.bounds-losing-y
bounds-losing-y g c =
    omega (arith, c.key-y.ensures, named_in (unmap_named _ _ c.requires _ _ _ c.in_ok-check_page.ensures), c.args.b.now.shape.is_model.slots_are)

pub overflow_cast-rights : goal.overflow_cast-rights
overflow_cast-rights g c = omega (arith, (unmap_named _ _ c.requires _ _ _ c.in_ok-check_page.ensures).known_rights)

pub returns : goal.returns
returns g c =
    unmap_made _ _ c.requires _ _ _ _ _ _ _ _ (rw (← c.from.ensures) c.count_lost.ensures) c.from-2.ensures _ _ _ c.key-y.ensures c.only.ensures c.line_has-losing.ensures
    c.lookup-frame.ensures.frame c.in_ok-check_page.ensures c.withdraw-lost.ensures.board c.withdraw-lost.ensures.lost
