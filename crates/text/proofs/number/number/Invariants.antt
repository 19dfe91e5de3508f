-- `number` meets its contract: what is left to read is what was to be read.
use Rattle.text.proofs as own
use Rattle.text.specs as spec
use spec.Decimal.{more_digits, number}
use Rattle.std.specs.Prelude.{◌≡◌, ◌≤◌, Some, length}
use own.number.number.Given as goal

abbrev pub invariant-loop-value : goal.invariant-loop-value
invariant-loop-value l = (number l.s ≡ Some (more_digits l.value l.rest)) × (length l.rest ≤ length l.s)

abbrev pub decreases-loop-value : goal.decreases-loop-value
decreases-loop-value l = length l.rest
