-- `frames` meets its contract: the goals that are left, from the invariant.
use mathlib.Core.Path.{◌∙◌}
use lib.ListN.{length-replicate}
use Rattle.lend_code.proofs.LineFrames.{framing_none, framing_lost, framing_more, framing_all}
use Rattle.board.proofs.Board.frames.Goals as goal

pub loop-k-init : goal.loop-k-init
loop-k-init g c = framing_none _ _ _ c.args.self.now.shape.is_model.slots_are (length-replicate _ _)

pub returns-in_err-frames : goal.returns-in_err-frames
returns-in_err-frames g c = c.from_residual.ensures ∙ framing_lost _ _ c.loop-k.invariant c.loop-k-test.true c.in_err-frames.ensures

pub loop-k-preserved : goal.loop-k-preserved
loop-k-preserved g c = framing_more _ _ c.loop-k.invariant c.loop-k-test.true c.in_ok-frames.ensures

pub returns : goal.returns
returns g c = framing_all _ _ c.loop-k.invariant c.loop-k-test.false
