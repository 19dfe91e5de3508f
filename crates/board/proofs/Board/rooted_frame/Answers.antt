-- `rooted_frame` meets its contract: the goals that are left, from the invariant.
use native.Mathlib.Omega.{arith}
use Rattle.lend_code.proofs.LineFrames.{rooting_none, rooting_over, rooting_empty, rooting_frame, rooting_back, rooting_up}
use Rattle.board.proofs.Board.rooted_frame.Goals as goal

pub loop-init : goal.loop-init
loop-init g c =
    let model = c.args.self.now.shape.is_model in
    rooting_none _ _ _ c.requires.fitting model.slots_are (omega (arith, model.two_spaces)) c.requires.inside

pub returns-in-Nothing : goal.returns-in-Nothing
returns-in-Nothing g c = rooting_empty _ _ _ c.loop.invariant c.loop-test.true c.in-Nothing.is

pub returns-in-Frame : goal.returns-in-Frame
returns-in-Frame g c = rooting_frame _ _ _ c.loop.invariant c.loop-test.true c.in-Frame.is

pub returns-then-at-k : goal.returns-then-at-k
returns-then-at-k g c = rooting_back _ _ _ c.loop.invariant c.loop-test.true c.in-Page.is c.key-at.ensures c.if-at-k.true

pub loop-preserved : goal.loop-preserved
loop-preserved g c = rooting_up _ _ _ c.loop.invariant c.loop-test.true c.in-Page.is c.key-at.ensures c.if-at-k.false

pub returns : goal.returns
returns g c = rooting_over _ _ _ c.loop.invariant c.loop-test.false
