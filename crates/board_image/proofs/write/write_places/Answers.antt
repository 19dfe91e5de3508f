-- `write_places` meets its contract: the goals that are left, from the invariant.
use Rattle.board_image.proofs as own
use mathlib.Core.Path.{refl, ap, ◌∙◌}
use native.Mathlib.Omega.{arith}
use lib.ListN.{length}
use Rattle.lend.specs.Cache.{empty_place}
use Rattle.image.specs.Image.{place_bytes}
use Rattle.image.proofs.Runs.{run_none, run_more, run_all}
use own.write.write_places.Goals as goal

pub loop-i-init : goal.loop-i-init
loop-i-init g c = run_none place_bytes 4 _ _

pub loop-i-preserved : goal.loop-i-preserved
loop-i-preserved g c =
    run_more place_bytes 4 _ _ _ _ _ empty_place _ c.loop-i.invariant (omega (arith, c.loop-i-test.true, c.told-places)) refl
    (omega (arith, c.loop-i-test.true, c.loop-i.auto.part, c.requires)) (ap length (c.copy_from_slice.ensures.after ∙ c.place_bytes.ensures)) (c.copy_from_slice.ensures.after ∙ c.place_bytes.ensures)

pub returns : goal.returns
returns g c =
    run_all place_bytes 4 _ _ _ c.loop-i.invariant (omega (arith, c.loop-i-test.false, c.told-places)) (omega (arith, c.loop-i-test.false, c.loop-i.auto.part, c.requires))
