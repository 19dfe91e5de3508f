-- `first` meets its contract: a slice that is read whole, and the first part of a longer one.
use Rattle.script.proofs.Parts.{first_of}
use Rattle.session.proofs.run.first.Goals as goal

pub returns : goal.returns
returns c =
    let f = first_of c.args.bytes c.get.result c.get.ensures.lookup in
    rw c.unwrap_or.ensures (record { bytes = f.bytes; within = f.within })
