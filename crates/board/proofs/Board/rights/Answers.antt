-- `rights` meets its contract: the goals that are left, from the invariant.
use Rattle.board.proofs as own
use Rattle.lend_basics.proofs.Loops.{built_all}
use Rattle.lend_code.specs.Inner.{rights_of}
use own.Board.rights.Goals as goal

pub returns : goal.returns
unfolding rights_of
returns g c = rw (← c.args.self.now.shape.is_model.slots_are) (built_all _ _ _ _ _ c.loop-k.invariant c.loop-k-test.false)
