-- `start_slots` meets its contract: the goals that are left, from the invariant.
use mathlib.Core.Path.{refl}
use native.Mathlib.Omega.{arith}
use Rattle.lend_code.proofs.Sets.{framed_none, framed_all}
use Rattle.board.specs.Model.{sizes}
use Rattle.calls.proofs.start.start_slots.Goals as goal

pub loop-k-init : goal.loop-k-init
loop-k-init g c = let e = c.args._shape.is_model.slots_are in rw e (framed_none (sizes g.row.SPACES g.row.PAGES g.row.PLACES) _ refl)

pub returns : goal.returns
returns g c = framed_all (sizes g.row.SPACES g.row.PAGES g.row.PLACES) _ _ c.loop-k.invariant (omega (arith, c.loop-k-test.false, c.loop-k.auto.k-end))
