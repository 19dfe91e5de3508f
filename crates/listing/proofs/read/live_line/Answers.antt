-- `live_line` meets its contract.
use Rattle.listing.proofs as own
use Rattle.listing.specs as spec
use spec.Read.{live_in}
use own.read.live_line.Goals as goal

pub returns : goal.returns
unfolding live_in
returns c = c.one_number.ensures
