-- `check_one` meets its contract: the tests are those of the rules, in their order.
use Rattle.std.proofs.lemmas.Result.{err_from_is_err_and}
use Rattle.calls.proofs.RangeChecks.{one_refused, one_passed}
use Rattle.calls.proofs.checks.check_one.Goals as goal

pub returns-in_err-first_refusal-clause-number : goal.returns-in_err-first_refusal-clause-number
returns-in_err-first_refusal-clause-number g c =
    let p = err_from_is_err_and c.from_residual.result c.from_residual.ensures.1 in
    rw (p.1, p.2) (one_refused _ _ _ _ _ _ _ c.sound.ensures c.is_live.ensures c.bad_rights.ensures _ _ c.in_err-first_refusal.ensures)

pub returns-clause-number : goal.returns-clause-number
returns-clause-number g c =
    rw c.ok_or.ensures.value (one_passed _ _ _ _ _ _ _ c.sound.ensures c.is_live.ensures c.bad_rights.ensures _ _ c.range_of.ensures c.in_ok-first_refusal.ensures)
