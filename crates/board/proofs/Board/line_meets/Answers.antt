-- `line_meets` meets its contract: the goals that are left, from the invariant.
use Rattle.lend_code.proofs.LineWalks.{meeting_past, meeting_over, meeting_hit, meeting_end, meeting_up}
use Rattle.board.proofs.Board.line_meets.Goals as goal

pub returns-then-at : goal.returns-then-at
returns-then-at g c = meeting_past _ _ _ _ c.loop.invariant c.if-at.true

pub returns-then-set-at : goal.returns-then-set-at
returns-then-set-at g c = meeting_hit _ _ _ _ c.loop.invariant c.loop-test.true c.if-set-at.true

pub returns-in_default : goal.returns-in_default
returns-in_default g c = meeting_end _ _ _ _ c.loop.invariant c.loop-test.true c.if-set-at.false c.in_default.not-Page

pub loop-preserved : goal.loop-preserved
loop-preserved g c = meeting_up _ _ _ _ c.loop.invariant c.loop-test.true c.if-set-at.false c.in-Page.is c.key-at.ensures

pub returns : goal.returns
returns g c = meeting_over _ _ _ _ c.loop.invariant c.loop-test.false
