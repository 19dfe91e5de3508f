-- `cut` meets its contract: the goals that are left, from the invariant.
use Rattle.board.proofs as own
use Rattle.board.specs as spec
use mathlib.Core.Path.{◌≡◌, ap, ◌∙◌}
use lib.ListN.{length, set}
use native.Mathlib.Omega.{arith}
use borrow.Author.Rules.{rules}
use Rattle.lend.specs.Tables.{Tables}
use Rattle.lend_basics.proofs.Lists.{length_unmap}
use Rattle.lend_code.proofs.Cuts.{cutting_turn, cutting_all}
use spec.Board.{tables, with_slots}
use own.Board.cut.Goals as goal

pub loop-k-preserved : goal.loop-k-preserved
loop-k-preserved g c =
    let long : length c.args.self.now.slots ≡ g.row.SLOTS = search (rules, length_unmap) in
    let new = set c.loop-k.self.slots c.loop-k.k c.with_rights.result in (
      cutting_turn _ _ _ _ _ _ _ c.loop-k.invariant.0 (omega (arith, c.loop-k-test.true, long)) c.left.ensures c.with_rights.ensures,
      ap (λ (t : Tables). with_slots t new) c.loop-k.invariant.1,
    )

pub returns : goal.returns
returns g c =
    let long : length c.args.self.now.slots ≡ g.row.SLOTS = search (rules, length_unmap) in
    let e = c.args.self.now.shape.is_model.slots_are in
    c.loop-k.invariant.1 ∙ ap (with_slots (tables c.args.self.now)) (cutting_all _ _ _ _ _ _ c.loop-k.invariant.0 (long ∙ e) (omega (arith, e, c.loop-k-test.false)))
