-- `write_live` meets its contract. The invariant: the first s live bytes are written.
use Rattle.board_image.proofs as own
use Rattle.image.proofs.Runs.{LiveRun}
use own.write.write_live.Given as goal

abbrev pub invariant-loop-s : goal.invariant-loop-s
invariant-loop-s g l = LiveRun l.live l.part l.s
