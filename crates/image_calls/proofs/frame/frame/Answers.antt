-- `frame` meets its contract.
use Rattle.board.specs.Model.{sizes}
use mathlib.Core.Path.{refl}
use Rattle.std.proofs.Common.{rules}
use Rattle.image.proofs.Answered.{frame_unsound, frame_past, frame_told}
use Rattle.image_calls.proofs.Widened.{widened}
use Rattle.image_calls.proofs.frame.frame.Goals as goal

pub returns-then-not-sound : goal.returns-then-not-sound
returns-then-not-sound g c = rw c.from.ensures (frame_unsound (sizes g.row.SPACES g.row.PAGES g.row.PLACES) _ _ c.read_image-b.ensures c.sound.ensures.as_test c.if-not-sound.true)

pub returns-then-i : goal.returns-then-i
returns-then-i g c = rw c.from-then-i.ensures (frame_past (sizes g.row.SPACES g.row.PAGES g.row.PLACES) _ _ c.read_image-b.ensures c.sound.ensures.as_test c.if-not-sound.false c.if-i.true)

pub returns : goal.returns
returns g c =
    let out-is = widened _ _ _ _ 4 (λ p x y q k. search rules) c.map.ensures.items refl in
    rw out-is (frame_told (sizes g.row.SPACES g.row.PAGES g.row.PLACES) _ _ c.read_image-b.ensures c.sound.ensures.as_test c.if-not-sound.false c.if-i.false)
