-- `unmap_range` meets its contract: the goals that are left, from the invariant.
use mathlib.Core.Path.{refl}
use native.Mathlib.Omega.{arith}
use borrow.Author.Rules.{rules}
use Rattle.std.proofs.lemmas.Result.{err_from_is_err_and}
use Rattle.lend_code.proofs.RangeLoop.{first_in_law, count_in_law, unmap_range_number, unmap_range_pages, unmap_range_call}
use Rattle.board.specs.Board.{tables}
use Rattle.calls.proofs.RangeRuns.{run_refused, run_none, run_more, run_all}
use Rattle.calls.proofs.unmap_range.unmap_range.Goals as goal

pub returns-in_err-range-clause-first_checks : goal.returns-in_err-range-clause-first_checks
returns-in_err-range-clause-first_checks g c =
    let p = err_from_is_err_and c.from_residual.result c.from_residual.ensures.1 in
    rw (p.1, p.2) (unmap_range_number _ _ _ _ _ _ _ refl _ c.in_err-range.ensures.number)

pub returns-in_err-range-clause-outcome : goal.returns-in_err-range-clause-outcome
returns-in_err-range-clause-outcome g c =
    let p = err_from_is_err_and c.from_residual.result c.from_residual.ensures.1 in
    rw (p.1, p.2) (run_refused _ _ _ _ (unmap_range_number _ _ _ _ _ _ _ refl _ c.in_err-range.ensures.number))

pub loop-i-init : goal.loop-i-init
loop-i-init g c =
    let is = c.in_ok-range.ensures.range in
    run_none (unmap_range_number _ _ _ _ _ _ _ refl _ c.in_ok-range.ensures.number) (unmap_range_pages _ (tables c.args.b.now) _ _ _ _ _ is _ refl)

pub overflow_add-range : goal.overflow_add-range
overflow_add-range g c =
    let is = c.in_ok-range.ensures.range in
    omega (arith, c.loop-i-test.true, first_in_law _ _ _ _ is _ refl, count_in_law _ _ _ _ is _ refl, c.args.b.now.shape.is_model.few_pages)

pub unmap_page-page-requires : goal.unmap_page-page-requires
unmap_page-page-requires g c = (search rules, c.loop-i.invariant.sound)

pub loop-i-preserved : goal.loop-i-preserved
loop-i-preserved g c =
    let is = c.in_ok-range.ensures.range in
    run_more c.loop-i.invariant c.args.b.now.shape.is_model.some_pages c.loop-i-test.true _ (unmap_range_call _ (tables c.args.b.now) _ _ _ _ _ is _ refl _)
    _ _ c.unmap_page-page.ensures _ c.page_made.ensures

pub returns-clause-first_checks : goal.returns-clause-first_checks
returns-clause-first_checks g c = c.loop-i.invariant.passed

pub returns-clause-outcome : goal.returns-clause-outcome
returns-clause-outcome g c = run_all c.loop-i.invariant c.loop-i-test.false _ _ c.rights-before.ensures c.rights.ensures _ c.lost_all.ensures
