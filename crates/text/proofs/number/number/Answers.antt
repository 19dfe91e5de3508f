-- `number` meets its contract: the goals that are left.
use Rattle.text.proofs as own
use Rattle.text.specs as spec
use spec.Fields.{read_in}
use own.Reading.{number_none, number_other, number_first, number_next, ends_zero, ends_five, ends_none, ends_other, digit_small, handed_number}
use Rattle.std.specs.Prelude.{ℕ, List, ◌≤◌, Some}
use mathlib.Core.Path.{ap, ◌∙◌}
use native.Mathlib.Omega.{arith}
use borrow.Author.Rules.{rules}
use own.number.number.Goals as goal
use own.number.number.Goals.{then-loop-value-test+else-value-le9999, else-loop-value-test, then-loop-value-test+then-value-le9999+in_default, then-loop-value-test+then-value-le9999+in-Some+in_default-digit}

pub returns-in_err-first : goal.returns-in_err-first
returns-in_err-first c = c.from_residual.ensures ∙ ap (read_in c.args.s) (number_none _ c.in_err-first.ensures.cases)

pub returns-in_err-value : goal.returns-in_err-value
returns-in_err-value c =
    c.from_residual-in_err-value.ensures ∙ ap (read_in c.args.s) (number_other c.in_ok-first.ensures.cases.0 c.in_err-value.ensures)

pub loop-value-init : goal.loop-value-init
loop-value-init c = let first = c.in_ok-first.ensures.cases in (number_first first.0 c.in_ok-value.ensures, omega (arith, first.1))

pub overflow_add-value : goal.overflow_add-value
overflow_add-value c = let h : c.in-Some-digit.d ≤ 9 = digit_small _ c.in-Some-digit.ensures in search rules

pub loop-value-preserved : goal.loop-value-preserved
loop-value-preserved c =
    let next = c.in-Some.ensures.cases in (
      c.loop-value.invariant.0
          ∙ ap (λ (p : ℕ × List ℕ). Some p) (number_next (omega arith) (omega arith) next.0 c.in-Some-digit.ensures),
      omega (arith, next.1, c.loop-value.invariant.1),
    )

pub returns : goal.returns
returns c =
    handed_number c.args.s c.loop-value.invariant.0
    (elim c.loop-value-test.branch [
      | then-loop-value-test+else-value-le9999 w ↦ ends_five _ (omega arith)
      | else-loop-value-test w ↦ ends_zero _ (omega arith)
      | then-loop-value-test+then-value-le9999+in_default w ↦ ends_none _ _ w.in_default.ensures.cases
      | then-loop-value-test+then-value-le9999+in-Some+in_default-digit w ↦ ends_other _ w.in-Some.ensures.cases.0 w.in_default-digit.ensures
    ])
