-- `read_slots` meets its contract: the goals that are left, from the invariant.
use Rattle.board_image.proofs as own
use mathlib.Core.Path.{◌∙◌}
use lib.ListN.{length-replicate}
use Rattle.image.proofs.Taken.{taken_none, taken_more, taken_not, taken_all}
use own.read.read_slots.Goals as goal

pub loop-k-init : goal.loop-k-init
loop-k-init g c = taken_none _ _ _ _ _ (length-replicate _ _)

pub returns-in_err-slots : goal.returns-in_err-slots
returns-in_err-slots g c = c.from_residual.ensures ∙ taken_not _ _ _ _ c.loop-k-test.true c.in_err-slots.ensures

pub loop-k-preserved : goal.loop-k-preserved
loop-k-preserved g c = taken_more _ _ _ _ _ _ _ c.loop-k.invariant c.loop-k-test.true c.in_ok-slots.ensures

pub returns : goal.returns
returns g c = taken_all _ _ _ _ _ _ c.loop-k.invariant c.loop-k-test.false
