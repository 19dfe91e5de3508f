-- `held_line` meets its contract.
use Rattle.listing.proofs as own
use Rattle.listing.specs as spec
use spec.Read.{held_in}
use own.read.held_line.Goals as goal

pub returns : goal.returns
unfolding held_in
returns c = c.one_number.ensures
