-- The numbers of a model's listing have five digits at most, so that they can be read.
use Prim.Native.Nat.{ℕ, ◌*◌, ◌≤◌}
use native.Mathlib.Nat.{mul-le-mul_right}
use native.Mathlib.Omega.{arith}
use Rattle.listing.proofs.Live.{few_set}
use Rattle.listing.proofs.Said.{Readable}
use Rattle.board.specs.Model.{sizes, IsModel}

pub readable : {spaces pages slots places : ℕ} → IsModel spaces pages slots places → Readable (sizes spaces pages places)
readable {spaces = spaces} m = record {
  some_page = m.some_pages;
  two_spaces = m.two_spaces;
  some_place = m.some_places;
  live_small = omega (arith, few_set spaces m.few_spaces);
  spaces_small = omega (arith, m.few_spaces);
  pages_small = omega (arith, m.few_pages);
  slots_small = omega (arith, m.slots_are, m.few_slots);
}

-- space 0 is one of the spaces
pub pool_within : {spaces pages slots places : ℕ} → IsModel spaces pages slots places → pages ≤ spaces * pages
pool_within {spaces = spaces} {pages = pages} m =
    let one : 1 ≤ spaces = omega (arith, m.two_spaces) in
    omega (arith, mul-le-mul_right pages one)
