-- `start` meets its contract.
use mathlib.Core.Path.{◌∙◌, ap}
use Prim.Native.Nat.{ℕ}
use lib.Dec.{eqb}
use mathlib.Core.Bool.{cond}
use lib.ListN.{length}
use Rattle.board.specs.Model.{sizes}
use Rattle.image.proofs.Answered.{started}
use Rattle.image_calls.proofs.Finished.{other_length}
use Rattle.image_calls.proofs.start.start.Goals as goal

pub returns : goal.returns
returns g c =
    let number = c.from.ensures ∙ (other_length _ ∙ ap (λ (n : ℕ). cond (eqb (length c.args.image.now) n) 0 1) c.image_bytes.ensures) in
    started (sizes g.row.SPACES g.row.PAGES g.row.PLACES) _ _ _ _ number c.start.ensures c.write_image.ensures
