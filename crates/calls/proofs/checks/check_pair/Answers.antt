-- `check_pair` meets its contract: the tests are those of the rules, in their order.
use Rattle.std.proofs.lemmas.Result.{err_from_is_err_and}
use Rattle.calls.proofs.RangeChecks.{pair_refused, pair_given, pair_taken, pair_unequal, pair_passed}
use Rattle.calls.proofs.checks.check_pair.Goals as goal

pub returns-in_err-first_refusal-clause-number : goal.returns-in_err-first_refusal-clause-number
returns-in_err-first_refusal-clause-number g c =
    let p = err_from_is_err_and c.from_residual.result c.from_residual.ensures.1 in
    rw (p.1, p.2) (pair_refused _ _ _ _ _ _ _ _ _ c.sound.ensures c.is_live.ensures c.is_live-2.ensures c.bad_rights.ensures _ _ _ c.in_err-first_refusal.ensures)

pub returns-in_err-given-clause-number : goal.returns-in_err-given-clause-number
returns-in_err-given-clause-number g c =
    let p = err_from_is_err_and c.from_residual-in_err-given.result c.from_residual-in_err-given.ensures.1 in
    rw (p.1, p.2) (pair_given _ _ _ _ _ _ _ _ _ c.sound.ensures c.is_live.ensures c.is_live-2.ensures c.bad_rights.ensures _ _ _ c.range_of.ensures c.in_ok-first_refusal.ensures _ c.in_err-given.ensures.value)

pub returns-in_err-taken-clause-number : goal.returns-in_err-taken-clause-number
returns-in_err-taken-clause-number g c =
    let p = err_from_is_err_and c.from_residual-in_err-taken.result c.from_residual-in_err-taken.ensures.1 in
    rw (p.1, p.2) (pair_taken _ _ _ _ _ _ _ _ _ c.sound.ensures c.is_live.ensures c.is_live-2.ensures c.bad_rights.ensures _ _ _ _ c.range_of.ensures c.range_of-2.ensures c.in_ok-first_refusal.ensures
    _ _ c.in_ok-given.ensures.value c.in_err-taken.ensures.value)

pub returns-then-given-taken-clause-number : goal.returns-then-given-taken-clause-number
returns-then-given-taken-clause-number g c =
    pair_unequal _ _ _ _ _ _ _ _ _ c.sound.ensures c.is_live.ensures c.is_live-2.ensures c.bad_rights.ensures _ _ _ _ c.range_of.ensures c.range_of-2.ensures c.in_ok-first_refusal.ensures
    _ _ c.in_ok-given.ensures.value c.in_ok-taken.ensures.value c.if-given-taken.true

pub returns-clause-number : goal.returns-clause-number
returns-clause-number g c =
    pair_passed _ _ _ _ _ _ _ _ _ c.sound.ensures c.is_live.ensures c.is_live-2.ensures c.bad_rights.ensures _ _ _ _ c.range_of.ensures c.range_of-2.ensures c.in_ok-first_refusal.ensures
    _ _ c.in_ok-given.ensures.value c.in_ok-taken.ensures.value c.if-given-taken.false
