-- `rights` meets its contract. The invariant: the rights of the pages before k are in place.
use Rattle.board.proofs as own
use Rattle.lend.specs.Slots.{slot_at}
use Rattle.lend_basics.proofs.Loops.{Built}
use own.Board.rights.Given as goal

abbrev pub invariant-loop-k : goal.invariant-loop-k
invariant-loop-k g l = Built 0 g.row.SLOTS (λ j. (slot_at l.self.slots j).rights) l.rights l.k
