-- `frames_found` meets its contract: what `examine` found, and zeros where it found nothing.
use mathlib.Core.Path.{sym, ap}
use Prim.Native.Nat.{ℕ}
use lib.ListN.{replicate}
use Rattle.std.proofs.lemmas.Option.{cond_some}
use Rattle.lend.specs.Slots.{slot_at}
use Rattle.lend.specs.SoundTest.{pages_test}
use Rattle.lend_code.specs.Earlier.{frames_found}
use Rattle.board.specs.Model.{sizes}
use Rattle.board.specs.Found.{pages_of}
use Rattle.board.proofs.Examined.{none_false}
use Rattle.board.proofs.Board.frames_found.Goals as goal

pub returns-in-Some : goal.returns-in-Some
unfolding frames_found
returns-in-Some g c =
    let b = c.args.self.now in
    let z = sizes g.row.SPACES g.row.PAGES g.row.PLACES in
    let found = cond_some (pages_test z b.live (slot_at b.slots)) (pages_of z b.slots) c.in-Some.pages (sym c.in-Some.ensures) in
    rw found.0 (λ i. (sym found.1 i).frames)

pub returns-in-None : goal.returns-in-None
unfolding frames_found
returns-in-None g c =
    let b = c.args.self.now in
    let z = sizes g.row.SPACES g.row.PAGES g.row.PLACES in
    rw (none_false (pages_test z b.live (slot_at b.slots)) (pages_of z b.slots) c.in-None.ensures) (ap (λ (n : ℕ). replicate n 0) b.shape.is_model.slots_are)
