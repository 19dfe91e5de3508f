-- `digit` meets its contract.
use Rattle.text.proofs as own
use own.Reading.{digit_some, digit_below, digit_above}
use native.Mathlib.Omega.{arith}
use borrow.Author.Rules.{rules}
use own.number.digit.Goals as goal

pub returns-in-48-to-57 : goal.returns-in-48-to-57
returns-in-48-to-57 c = rw (c.from.ensures) (digit_some _ (search rules) (search rules))

pub returns-in_default : goal.returns-in_default
returns-in_default c = digit_below _ (omega arith)

pub returns-in_default-2 : goal.returns-in_default-2
returns-in_default-2 c = digit_above _ (omega arith)
