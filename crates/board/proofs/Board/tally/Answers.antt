-- `tally` meets its contract: the goals that are left, from the invariant.
use Rattle.board.proofs as own
use Rattle.board.specs as spec
use Prim.Native.Nat.{ℕ, ◌<◌, ◌*◌}
use mathlib.Core.Path.{◌≡◌, refl, sym, ap, ◌∙◌}
use lib.ListN.{length, get_or}
use native.Mathlib.Omega.{arith}
use borrow.Author.Rules.{rules}
use Rattle.lend.specs.Summary.{count_at}
use Rattle.lend_basics.proofs.Lists.{length_unmap}
use Rattle.lend_code.specs.Inner.{counts_at, counted_in16}
use Rattle.lend_code.proofs.Columns.{rights_at}
use Rattle.lend_code.proofs.Summary.{tallied_none, tallied_more, tallied_skip, tallied_all}
use spec.Model.{sizes}
use own.Board.tally.Goals as goal
use own.Board.tally.Goals.{then-at, else-at}

pub loop-k-init : goal.loop-k-init
loop-k-init g c = tallied_none _ _ _ _ refl

pub loop-k-preserved : goal.loop-k-preserved
loop-k-preserved g c =
    let m = c.args.self.now.shape.is_model in
    let z = sizes g.row.SPACES g.row.PAGES g.row.PLACES in
    let k = c.loop-k.k in
    let slots = c.args.self.now.slots in
    let long : length slots ≡ g.row.SLOTS = search (rules, length_unmap) in
    let inside : k < g.row.SPACES * g.row.PAGES = omega (arith, m.slots_are, c.loop-k-test.true) in
    let few : g.row.SPACES * g.row.PAGES < 65535 = omega (arith, m.slots_are, m.few_slots) in
    let same = sym (rights_at z slots k (long ∙ m.slots_are)) in
    let at = c.counts_at-at.ensures ∙ ap (λ (r : ℕ). counts_at z k r (get_or c.args.frames.now k 0)) same in
    elim c.if-at.branch [
      | then-at w ↦ rw w.counts-is (tallied_more z _ _ _ _ _ c.loop-k.invariant inside at few _ (w.counted.ensures ∙ ap (λ (r : ℕ). counted_in16 r (count_at c.loop-k.counts c.counts_at-at.result)) same))
      | else-at w ↦ rw w.counts-is (tallied_skip z _ _ _ _ _ c.loop-k.invariant inside at w.if-at.false)
    ]

pub returns : goal.returns
returns g c = tallied_all _ _ _ _ _ c.loop-k.invariant (omega (arith, c.args.self.now.shape.is_model.slots_are, c.loop-k-test.false))
