-- `write_live` meets its contract: the goals that are left, from the invariant.
use Rattle.board_image.proofs as own
use mathlib.Core.Path.{◌∙◌}
use native.Mathlib.Omega.{arith}
use Rattle.image.proofs.Runs.{live_none, live_more, live_all, live_cast}
use own.write.write_live.Goals as goal

pub loop-s-init : goal.loop-s-init
loop-s-init g c = live_none _ _

pub loop-s-preserved : goal.loop-s-preserved
loop-s-preserved g c = live_more _ _ _ _ c.loop-s.invariant (omega (arith, c.loop-s-test.true, c.told-live)) (omega (arith, c.loop-s-test.true, c.loop-s.auto.part, c.requires)) (c.from.ensures ∙ live_cast _)

pub returns : goal.returns
returns g c = live_all _ _ _ c.loop-s.invariant (omega (arith, c.loop-s-test.false, c.told-live)) (omega (arith, c.loop-s-test.false, c.loop-s.auto.part, c.requires))
