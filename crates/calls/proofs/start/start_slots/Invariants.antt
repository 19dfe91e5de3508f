-- `start_slots` meets its contract. The invariant: the pages of space 0 before k have their frames, the others are empty.
use Rattle.lend_code.proofs.Sets.{Framed}
use Rattle.board.specs.Model.{sizes}
use Rattle.calls.proofs.start.start_slots.Given as goal

abbrev pub invariant-loop-k : goal.invariant-loop-k
invariant-loop-k g l = Framed (sizes g.row.SPACES g.row.PAGES g.row.PLACES) l.slots l.k
