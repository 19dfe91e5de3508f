-- `slot_of` meets its contract: the numbers of a row fit a byte.
use native.Mathlib.Omega.{arith}
use Rattle.listing.proofs.Said.{fits_back}
use Rattle.board_listing.proofs.read.slot_of.Goals as goal

pub overflow_cast-result : goal.overflow_cast-result
overflow_cast-result g c = let r = fits_back _ _ c.requires in omega (arith, r.parent_to, c.args._shape.is_model.few_spaces)

pub overflow_cast-result-2 : goal.overflow_cast-result-2
overflow_cast-result-2 g c = let r = fits_back _ _ c.requires in omega (arith, r.at_to, c.args._shape.is_model.few_pages)

pub overflow_cast-result-3 : goal.overflow_cast-result-3
overflow_cast-result-3 g c = let r = fits_back _ _ c.requires in omega (arith, r.rights_to)
