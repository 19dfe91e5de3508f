-- `only` meets its contract: one page is put into a set of none.
use Rattle.board.proofs as own
use native.Mathlib.Omega.{arith}
use Rattle.lend_code.proofs.Sets.{only_set, only_none}
use own.shape.Shape.only.Goals as goal

pub returns-then-y : goal.returns-then-y
returns-then-y g c = let e = c.args.self.is_model.slots_are in rw e (only_set _ _ (omega (arith, e, c.if-y.true)))

pub returns-else-y : goal.returns-else-y
returns-else-y g c = let e = c.args.self.is_model.slots_are in rw e (only_none _ _ (omega (arith, e, c.if-y.false)))
