-- `cut` meets its contract: what was lost is counted between the rights before the cut and those after it.
use Rattle.calls.proofs as own
use mathlib.Core.Path.{ap}
use Rattle.lend.specs.Tables.{Tables}
use own.Cuts.{lost_by_slots}
use own.relink.cut.Goals as goal

pub returns-clause-lost : goal.returns-clause-lost
returns-clause-lost g c =
    lost_by_slots _ _ _ _ _ _ _ _ c.rights-before.ensures (ap (λ (t : Tables). t.slots) c.cut.ensures) c.rights.ensures c.losses.ensures
