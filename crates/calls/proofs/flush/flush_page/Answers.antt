-- `flush_page` meets its contract: what the check has shown makes the withdrawal that of the rules.
use native.Mathlib.Omega.{arith}
use Rattle.std.proofs.lemmas.Result.{err_from_is_err_and}
use Rattle.calls.proofs.PageCalls.{flush_refused, flush_named, flush_made}
use Rattle.calls.proofs.flush.flush_page.Goals as goal

pub returns-in_err-check_page : goal.returns-in_err-check_page
returns-in_err-check_page g c =
    let p = err_from_is_err_and c.from_residual.result c.from_residual.ensures.1 in
    rw (p.1, p.2) (flush_refused _ _ c.requires _ _ _ _ c.in_err-check_page.ensures)

pub overflow_cast-space : goal.overflow_cast-space
overflow_cast-space g c =
    omega (arith, (flush_named _ _ c.requires _ _ _ c.in_ok-check_page.ensures).space_in, c.args.b.now.shape.is_model.few_spaces)

pub overflow_cast-page : goal.overflow_cast-page
overflow_cast-page g c =
    omega (arith, (flush_named _ _ c.requires _ _ _ c.in_ok-check_page.ensures).page_in, c.args.b.now.shape.is_model.few_pages)

pub overflow_cast-rights : goal.overflow_cast-rights
overflow_cast-rights g c = omega (arith, (flush_named _ _ c.requires _ _ _ c.in_ok-check_page.ensures).known_rights)

pub returns : goal.returns
returns g c =
    flush_made _ _ c.requires _ _ _ _ _ _ _ _ (rw (← c.from.ensures) c.count_lost.ensures) c.from-2.ensures _ _ _ c.key-y.ensures c.only.ensures c.line_has-losing.ensures
    c.lookup-frame.ensures.frame c.in_ok-check_page.ensures c.withdraw-lost.ensures.board c.withdraw-lost.ensures.lost
