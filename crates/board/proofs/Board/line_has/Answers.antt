-- `line_has` meets its contract: the goals that are left, from the invariant.
use borrow.Author.Rules.{rules}
use mathlib.Core.Path.{◌≡◌}
use lib.ListN.{length}
use native.Mathlib.Omega.{arith}
use Rattle.lend_basics.proofs.Loops.{changed_more, changed_skip, changed_to}
use Rattle.lend_code.specs.Inner.{line_has}
use Rattle.lend_code.proofs.LineWalks.{alone_met}
use Rattle.board.specs.Model.{sizes}
use Rattle.board.proofs.Board.line_has.Goals as goal
use Rattle.board.proofs.Board.line_has.Goals.{in-Page, in_default}

pub loop-k-preserved : goal.loop-k-preserved
loop-k-preserved g c =
    let long : length c.args.set.now ≡ g.row.SLOTS = search rules in
    let z = sizes g.row.SPACES g.row.PAGES g.row.PLACES in
    elim c.match-self-k.branch [
      | in-Page w ↦ rw w.found-is (changed_more _ _ _ _ _ _ c.loop-k.invariant (omega (arith, long, c.loop-k-test.true)) w.line_meets.ensures)
      | in_default w ↦ rw w.found-is (changed_skip _ _ _ _ _ c.loop-k.invariant (alone_met z _ _ _ (omega (arith, c.args.self.now.shape.is_model.two_spaces)) w.in_default.not-Page))
    ]

pub returns : goal.returns
unfolding line_has
returns g c =
    let long : length c.args.set.now ≡ g.row.SLOTS = search rules in
    rw (← c.args.self.now.shape.is_model.slots_are) (changed_to _ _ _ _ _ _ c.loop-k.invariant long c.loop-k-test.false)
