-- `places_fit` meets its contract: the goals that are left, from the invariant.
use mathlib.Core.Path.{sym, ◌∙◌}
use Rattle.lend_basics.proofs.Loops.{tested_none, tested_more}
use Rattle.lend_code.proofs.SoundCode.{places_not, places_all}
use Rattle.board.proofs.Board.places_fit.Goals as goal

pub loop-i-init : goal.loop-i-init
loop-i-init g c = tested_none _

pub returns-then-not-place_ok : goal.returns-then-not-place_ok
returns-then-not-place_ok g c = places_not _ _ _ _ c.loop-i.i c.loop-i-test.true (sym c.place_ok.ensures ∙ c.if-not-place_ok.true)

pub loop-i-preserved : goal.loop-i-preserved
loop-i-preserved g c = tested_more _ _ c.loop-i.invariant (sym c.place_ok.ensures ∙ c.if-not-place_ok.false)

pub returns : goal.returns
returns g c = places_all _ _ _ _ _ c.loop-i.invariant c.loop-i-test.false
