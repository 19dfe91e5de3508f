-- `write_slots` meets its contract: the goals that are left, from the invariant.
use Rattle.board_image.proofs as own
use mathlib.Core.Path.{refl, ap, ◌∙◌}
use native.Mathlib.Omega.{arith}
use lib.ListN.{length}
use Rattle.lend.specs.Slots.{empty_slot}
use Rattle.image.specs.Image.{slot_bytes}
use Rattle.image.proofs.Runs.{run_none, run_more, run_all}
use own.write.write_slots.Goals as goal

pub loop-k-init : goal.loop-k-init
loop-k-init g c = run_none slot_bytes 4 _ _

pub loop-k-preserved : goal.loop-k-preserved
loop-k-preserved g c =
    run_more slot_bytes 4 _ _ _ _ _ empty_slot _ c.loop-k.invariant (omega (arith, c.loop-k-test.true, c.told-slots)) refl
    (omega (arith, c.loop-k-test.true, c.loop-k.auto.part, c.requires)) (ap length (c.copy_from_slice.ensures.after ∙ c.slot_bytes.ensures)) (c.copy_from_slice.ensures.after ∙ c.slot_bytes.ensures)

pub returns : goal.returns
returns g c =
    run_all slot_bytes 4 _ _ _ c.loop-k.invariant (omega (arith, c.loop-k-test.false, c.told-slots)) (omega (arith, c.loop-k-test.false, c.loop-k.auto.part, c.requires))
