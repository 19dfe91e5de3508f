-- `enough` meets its contract.
use Rattle.session.proofs.run.enough.Goals as goal

pub returns : goal.returns
returns g c = rw (← c.first.ensures.bytes) c.bound.ensures
