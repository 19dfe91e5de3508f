-- `place_after` meets its contract: each branch returns the arm of `cond` that its test picks.
use native.Mathlib.Omega.{arith}
use borrow.Author.Tests.{lt-ltb, le-ltb}
use Rattle.std.proofs.Common.{◌+◌}
use Rattle.lend_code.specs.Access.{place_after}
use Rattle.board.proofs.shape.Shape.place_after.Goals as goal

pub returns-then-from : goal.returns-then-from
unfolding place_after
returns-then-from g c = rw (lt-ltb (c.args.place + 1) g.row.PLACES (omega (arith, c.if-from.true)))

pub returns : goal.returns
unfolding place_after
returns g c = rw (le-ltb (c.args.place + 1) g.row.PLACES (omega (arith, c.if-from.false)))
