-- `slots_fit` meets its contract: the goals that are left, from the invariant.
use mathlib.Core.Path.{sym, ◌∙◌}
use native.Mathlib.Omega.{arith}
use Rattle.lend_basics.proofs.Loops.{tested_none, tested_more, tested_not, tested_all}
use Rattle.board.proofs.Board.slots_fit.Goals as goal

pub loop-k-init : goal.loop-k-init
loop-k-init g c = tested_none _

pub returns-then-not-slot_fits : goal.returns-then-not-slot_fits
returns-then-not-slot_fits g c =
    sym (tested_not _ _ c.loop-k.k (omega (arith, c.loop-k-test.true, c.args.self.now.shape.is_model.slots_are)) (sym c.slot_fits.ensures ∙ c.if-not-slot_fits.true))

pub loop-k-preserved : goal.loop-k-preserved
loop-k-preserved g c = tested_more _ _ c.loop-k.invariant (sym c.slot_fits.ensures ∙ c.if-not-slot_fits.false)

pub returns : goal.returns
returns g c = sym (tested_all _ _ _ c.loop-k.invariant (omega (arith, c.loop-k-test.false, c.args.self.now.shape.is_model.slots_are)))
