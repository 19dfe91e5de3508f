-- `losses` meets its contract: the goals that are left, from the invariant.
use Rattle.board.proofs as own
use native.Mathlib.Omega.{arith}
use Rattle.lend_code.proofs.AddedTests.{sum_small, losing_turn}
use Rattle.lend_code.proofs.Summary.{losing_none, losing_all}
use own.shape.Shape.losses.Goals as goal

pub loop-k-init : goal.loop-k-init
loop-k-init g c = losing_none _ _

pub overflow_add-sum : goal.overflow_add-sum
overflow_add-sum g c = omega (arith, sum_small _ c.from.ensures c.loop-k.invariant.held_lost.small, c.args.self.is_model.few_slots)

pub overflow_add-sum-in-loop-k : goal.overflow_add-sum-in-loop-k
overflow_add-sum-in-loop-k g c = omega (arith, sum_small _ c.from-in-loop-k.ensures c.loop-k.invariant.read_lost.small, c.args.self.is_model.few_slots)

pub loop-k-preserved : goal.loop-k-preserved
loop-k-preserved g c =
    losing_turn _ _ _ _ _ _ _ c.loop-k.invariant c.from.ensures c.from-in-loop-k.ensures c.from-in-loop-k-2.ensures c.from-in-loop-k-3.ensures
    c.gone.ensures c.lost.ensures c.lost-in-loop-k.ensures c.lost-in-loop-k-2.ensures

pub returns : goal.returns
returns g c = losing_all _ _ _ _ _ _ _ _ c.loop-k.invariant (omega (arith, c.args.self.is_model.slots_are, c.loop-k.auto.k-end))
