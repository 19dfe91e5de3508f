-- What a grant leaves of its giver (02, M-103): the page is given away.
use Rattle.std.specs.Prelude.{ℕ, ◌≡◌, T}
use Rattle.lend.specs.Sizes.{Sizes}
use Rattle.lend.specs.Slots.{Table, empty_slot}
use Rattle.lend.specs.Line.{below}

-- the table f became g by a grant of these rights from the giver's page to the taker's
pub record GivenAway (z : Sizes) (f g : Table) (giver taker rights : ℕ) : Type 0 where
  -- the giver's page is empty
  pub giver_empty : g giver ≡ empty_slot
  -- so is every page that stood below it, but for the taker
  pub below_empty : (k : ℕ) → T (below z f k giver) → (k ≡ taker → ⊥) → g k ≡ empty_slot
  -- and the taker has the giver's place, with the rights that were granted
  pub taker_has : g taker ≡ record { link = (f giver).link; rights = rights }
