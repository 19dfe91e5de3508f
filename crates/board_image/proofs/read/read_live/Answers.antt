-- `read_live` meets its contract: the goals that are left, from the invariant.
use Rattle.board_image.proofs as own
use mathlib.Core.Path.{◌∙◌}
use lib.ListN.{length-replicate}
use Rattle.image.proofs.Taken.{taken_none, taken_more, taken_not, taken_all}
use own.read.read_live.Goals as goal

pub loop-s-init : goal.loop-s-init
loop-s-init g c = taken_none _ _ _ _ _ (length-replicate _ _)

pub returns-in_err-live : goal.returns-in_err-live
returns-in_err-live g c = c.from_residual.ensures ∙ taken_not _ _ _ _ c.loop-s-test.true c.in_err-live.ensures

pub loop-s-preserved : goal.loop-s-preserved
loop-s-preserved g c = taken_more _ _ _ _ _ _ _ c.loop-s.invariant c.loop-s-test.true c.in_ok-live.ensures

pub returns : goal.returns
returns g c = taken_all _ _ _ _ _ _ c.loop-s.invariant c.loop-s-test.false
