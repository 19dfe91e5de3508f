-- `write_slots` meets its contract. The invariant: the bytes of the first k slots are written.
use Rattle.board_image.proofs as own
use Rattle.image.specs.Image.{slot_bytes}
use Rattle.image.proofs.Runs.{Run}
use own.write.write_slots.Given as goal

abbrev pub invariant-loop-k : goal.invariant-loop-k
invariant-loop-k g l = Run slot_bytes 4 l.slots l.part l.k
