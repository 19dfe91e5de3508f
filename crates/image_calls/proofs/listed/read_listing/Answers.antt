-- `read_listing` meets its contract: the board that came back is written, and its number told.
use mathlib.Core.Path.{◌≡◌, refl, sym, ◌∙◌}
use Prim.Native.Nat.{ℕ}
use Rattle.std.specs.Prelude.{MatchOption, Option, Some, None}
use Rattle.lend.specs.declared.refusal.Refusal.{Refusal}
use Rattle.lend.specs.Refusals.{number_of}
use Rattle.listing_image.proofs.Listed.{other_length, read_over}
use Rattle.board.specs.Model.{sizes}
use Rattle.board_listing.specs.Answer.{number_told}
use Rattle.image_calls.proofs.listed.read_listing.Goals as goal

pub returns-then-image-image_bytes : goal.returns-then-image-image_bytes
returns-then-image-image_bytes g c =
    rw c.from.ensures (other_length (sizes g.row.SPACES g.row.PAGES g.row.PLACES) _ _ (λ e. c.if-image-image_bytes.true (e ∙ sym c.image_bytes.ensures)))

-- the number of what refused, where it is told by a match
number_is : (o : Option Refusal) {n : ℕ} {P : Refusal → ℕ → Type 0} → ((r : Refusal) (m : ℕ) → P r m → m ≡ number_of r)
    → MatchOption o (n ≡ 0) (λ r. P r n) → n ≡ number_told o
number_is None gives m = m
number_is (Some r) gives m = gives r _ m

pub returns : goal.returns
returns g c =
    rw (number_is _ (λ r m p. p) c.map_or.ensures)
    (read_over (sizes g.row.SPACES g.row.PAGES g.row.PLACES) _ _ (c.if-image-image_bytes.false ∙ c.image_bytes.ensures) c.read_or_start-read.ensures c.write_image.ensures)
