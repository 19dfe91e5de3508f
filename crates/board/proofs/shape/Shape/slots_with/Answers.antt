-- `slots_with` meets its contract: the goals that are left, from the invariant.
use borrow.Author.Rules.{rules}
use mathlib.Core.Path.{◌≡◌}
use lib.ListN.{length}
use Rattle.lend_basics.proofs.Lists.{length_unmap}
use Rattle.lend_basics.proofs.Loops.{changed_to}
use Rattle.lend_code.specs.Inner.{slots_with}
use Rattle.board.proofs.shape.Shape.slots_with.Goals as goal

pub returns : goal.returns
unfolding slots_with
returns g c =
    let long : length c.args.slots ≡ g.row.SLOTS = search (rules, length_unmap) in
    rw (← c.args.self.is_model.slots_are) (changed_to _ _ _ _ _ _ c.loop-k.invariant long c.loop-k-test.false)
