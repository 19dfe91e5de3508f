-- `rights_left` meets its contract: the goals that are left, from the invariant.
use borrow.Author.Rules.{rules}
use mathlib.Core.Path.{◌≡◌}
use lib.ListN.{length}
use Rattle.lend_basics.proofs.Loops.{changed_to}
use Rattle.lend_code.specs.Inner.{rights_left}
use Rattle.board.proofs.shape.Shape.rights_left.Goals as goal

pub returns : goal.returns
unfolding rights_left
returns g c =
    let long : length c.args.rights ≡ g.row.SLOTS = search rules in
    rw (← c.args.self.is_model.slots_are) (changed_to _ _ _ _ _ _ c.loop-k.invariant long c.loop-k-test.false)
