-- `read_live` meets its contract. The invariant: the first s live bytes are read, and each is 0 or 1.
use Rattle.board_image.proofs as own
use mathlib.Core.Bool.{false}
use lib.Dec.{eqb, leb}
use lib.ListN.{get_or}
use Rattle.image.proofs.Taken.{Taken}
use own.read.read_live.Given as goal

abbrev pub invariant-loop-s : goal.invariant-loop-s
invariant-loop-s g l = Taken false g.row.SPACES (λ s. leb (get_or l.bytes s 0) 1) (λ s. eqb (get_or l.bytes s 0) 1) l.live l.s
