-- `read_places` meets its contract: the goals that are left, from the invariant.
use Rattle.board_image.proofs as own
use lib.ListN.{length-replicate}
use Rattle.lend_basics.proofs.Loops.{built_none, built_more, built_all}
use own.read.read_places.Goals as goal

pub loop-i-init : goal.loop-i-init
loop-i-init g c = built_none _ _ _ _ (length-replicate _ _)

pub loop-i-preserved : goal.loop-i-preserved
loop-i-preserved g c = built_more _ _ _ _ _ _ c.loop-i.invariant c.loop-i-test.true c.place_from.ensures

pub returns : goal.returns
returns g c = built_all _ _ _ _ _ c.loop-i.invariant c.loop-i-test.false
