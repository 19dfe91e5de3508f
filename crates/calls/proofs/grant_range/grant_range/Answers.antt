-- `grant_range` meets its contract: the goals that are left, from the invariant.
use mathlib.Core.Path.{refl}
use native.Mathlib.Omega.{arith}
use borrow.Author.Rules.{rules}
use Rattle.std.proofs.lemmas.Result.{err_from_is_err_and}
use Rattle.lend_code.proofs.RangeLoop.{first_in_law, count_in_law, grant_range_number, grant_range_pages, grant_range_call}
use Rattle.board.specs.Board.{tables}
use Rattle.calls.proofs.RangeRuns.{run_refused, run_none, run_more, run_all}
use Rattle.calls.proofs.grant_range.grant_range.Goals as goal

pub returns-in_err-given-clause-first_checks : goal.returns-in_err-given-clause-first_checks
returns-in_err-given-clause-first_checks g c =
    let p = err_from_is_err_and c.from_residual.result c.from_residual.ensures.1 in
    rw (p.1, p.2) (grant_range_number _ _ _ _ _ _ _ _ _ _ _ refl refl _ c.in_err-given.ensures.number)

pub returns-in_err-given-clause-outcome : goal.returns-in_err-given-clause-outcome
returns-in_err-given-clause-outcome g c =
    let p = err_from_is_err_and c.from_residual.result c.from_residual.ensures.1 in
    rw (p.1, p.2) (run_refused _ _ _ _ (grant_range_number _ _ _ _ _ _ _ _ _ _ _ refl refl _ c.in_err-given.ensures.number))

pub loop-i-init : goal.loop-i-init
loop-i-init g c =
    run_none (grant_range_number _ _ _ _ _ _ _ _ _ _ _ refl refl _ c.in_ok-given.ensures.number)
    (grant_range_pages _ (tables c.args.b.now) _ _ _ _ _ _ _ _ _ c.in_ok-given.ensures.given c.in_ok-given.ensures.taken _ refl)

pub overflow_add-given : goal.overflow_add-given
overflow_add-given g c =
    let given = c.in_ok-given.ensures.given in
    omega (arith, c.loop-i-test.true, first_in_law _ _ _ _ given _ refl, count_in_law _ _ _ _ given _ refl, c.args.b.now.shape.is_model.few_pages)

pub overflow_add-taken : goal.overflow_add-taken
overflow_add-taken g c =
    let given = c.in_ok-given.ensures.given in
    omega (arith, c.loop-i-test.true, first_in_law _ _ _ _ c.in_ok-given.ensures.taken _ refl, count_in_law _ _ _ _ given _ refl, c.args.b.now.shape.is_model.few_pages)

pub grant_page-page-requires : goal.grant_page-page-requires
grant_page-page-requires g c = (search rules, c.loop-i.invariant.sound)

pub loop-i-preserved : goal.loop-i-preserved
loop-i-preserved g c =
    run_more c.loop-i.invariant c.args.b.now.shape.is_model.some_pages c.loop-i-test.true
    _ (grant_range_call _ (tables c.args.b.now) _ _ _ _ _ _ _ _ _ c.in_ok-given.ensures.given c.in_ok-given.ensures.taken _ _ refl refl _)
    _ _ c.grant_page-page.ensures _ c.page_made.ensures

pub returns-clause-first_checks : goal.returns-clause-first_checks
returns-clause-first_checks g c = c.loop-i.invariant.passed

pub returns-clause-outcome : goal.returns-clause-outcome
returns-clause-outcome g c = run_all c.loop-i.invariant c.loop-i-test.false _ _ c.rights-before.ensures c.rights.ensures _ c.lost_all.ensures
