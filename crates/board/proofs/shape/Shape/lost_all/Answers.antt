-- `lost_all` meets its contract: the goals that are left, from the invariant.
use Rattle.board.proofs as own
use native.Mathlib.Omega.{arith}
use Rattle.lend_basics.proofs.Loops.{counted_none, counted_all}
use Rattle.lend_code.specs.Inner.{lost_all}
use Rattle.lend_code.proofs.AddedTests.{sum_small, counted_by}
use own.shape.Shape.lost_all.Goals as goal

pub loop-k-init : goal.loop-k-init
loop-k-init g c = counted_none _

pub overflow_add-n : goal.overflow_add-n
overflow_add-n g c = omega (arith, sum_small _ c.from-n.ensures c.loop-k.invariant.small, c.args.self.is_model.few_slots)

pub loop-k-preserved : goal.loop-k-preserved
loop-k-preserved g c = counted_by _ c.from-n.ensures _ _ _ c.loop-k.invariant c.gone.ensures

pub returns : goal.returns
unfolding lost_all
returns g c = counted_all _ _ _ c.loop-k.invariant (omega (arith, c.args.self.is_model.slots_are, c.loop-k.auto.k-end))
