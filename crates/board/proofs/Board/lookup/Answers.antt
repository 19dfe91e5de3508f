-- `lookup` meets its contract: the goals that are left, from the invariant.
use Rattle.lend_code.proofs.LineWalks.{looking_past, looking_over, looking_empty, looking_frame, looking_up}
use Rattle.board.proofs.Board.lookup.Goals as goal

pub returns-then-at : goal.returns-then-at
returns-then-at g c = let found = looking_past _ _ _ c.loop.invariant c.if-at.true in record { frame = found.0; links = found.1 }

pub returns-in-Nothing : goal.returns-in-Nothing
returns-in-Nothing g c = let found = looking_empty _ _ _ c.loop.invariant c.loop-test.true c.in-Nothing.is in record { frame = found.0; links = found.1 }

pub returns-in-Frame : goal.returns-in-Frame
returns-in-Frame g c = let found = looking_frame _ _ _ c.loop.invariant c.loop-test.true c.in-Frame.is in record { frame = found.0; links = found.1 }

pub loop-preserved : goal.loop-preserved
loop-preserved g c = looking_up _ _ _ c.loop.invariant c.loop-test.true c.in-Page.is c.key-at.ensures

pub returns : goal.returns
returns g c = let found = looking_over _ _ _ c.loop.invariant c.loop-test.false in record { frame = found.0; links = found.1 }
