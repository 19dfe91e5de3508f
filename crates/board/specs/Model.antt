-- The sizes of a model, from the numbers that its types are made with.
use Rattle.std.specs.Prelude.{ℕ, ◌≡◌, ◌*◌, ◌≤◌}
use Rattle.lend.specs.Sizes.{Sizes}

abbrev pub sizes : ℕ → ℕ → ℕ → Sizes
sizes spaces pages places = record { spaces = spaces; pages = pages; places = places }

-- four numbers are a model's: so many spaces of so many pages, as many slots as both make, so many places. They are small enough for the
-- types that the code counts with, where a space, a page, a frame and a place have a u8; and each number of a listing, the bits of the live
-- spaces too, has five digits at most.
pub record IsModel (spaces pages slots places : ℕ) : Type 0 where
  pub slots_are : slots ≡ spaces * pages
  pub two_spaces : 2 ≤ spaces
  pub some_pages : 1 ≤ pages
  pub some_places : 1 ≤ places
  pub few_spaces : spaces ≤ 16
  pub few_pages : pages ≤ 256
  pub few_slots : slots ≤ 8192
  pub few_places : places ≤ 255
