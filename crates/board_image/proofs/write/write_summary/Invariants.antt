-- `write_summary` meets its contract. The invariant: the bytes of the first i counts are written.
use Rattle.board_image.proofs as own
use Rattle.image.specs.Image.{count_bytes}
use Rattle.image.proofs.Runs.{Run}
use own.write.write_summary.Given as goal

abbrev pub invariant-loop-i : goal.invariant-loop-i
invariant-loop-i g l = Run count_bytes 8 l.summary l.part l.i
