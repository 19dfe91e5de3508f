-- `finish` meets its contract: of a call that is done, and of a refused one.
use Rattle.image_calls.proofs.finish.finish.Goals as goal

pub returns-in-Ok : goal.returns-in-Ok
returns-in-Ok g c = rw c.in-Ok.is c.leave.ensures

pub returns-in-Err : goal.returns-in-Err
returns-in-Err g c = rw (c.in-Err.is, ← c.from.ensures) c.leave-in-Err.ensures
