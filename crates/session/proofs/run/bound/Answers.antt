-- `bound` meets its contract.
use Rattle.script.specs.Bound.{output_bound}
use Rattle.session.proofs.run.bound.Goals as goal

pub returns : goal.returns
unfolding output_bound
returns g c = rw c.args._shape.is_model.slots_are
