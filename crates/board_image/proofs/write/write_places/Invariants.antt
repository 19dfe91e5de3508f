-- `write_places` meets its contract. The invariant: the bytes of the first i places are written.
use Rattle.board_image.proofs as own
use Rattle.image.specs.Image.{place_bytes}
use Rattle.image.proofs.Runs.{Run}
use own.write.write_places.Given as goal

abbrev pub invariant-loop-i : goal.invariant-loop-i
invariant-loop-i g l = Run place_bytes 4 l.places l.part l.i
