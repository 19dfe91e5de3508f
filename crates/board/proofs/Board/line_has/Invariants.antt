-- `line_has` meets its contract. The invariant: the lines before k are answered, and from k on stands whether the page itself is in the set.
use Rattle.lend.specs.Lists.{any}
use Rattle.lend.specs.Slots.{slot_at}
use Rattle.lend.specs.Line.{line_of}
use Rattle.lend_basics.proofs.Loops.{Changed}
use Rattle.lend_code.specs.Inner.{has}
use Rattle.board.specs.Model.{sizes}
use Rattle.std.proofs.Common.{false}
use Rattle.board.proofs.Board.line_has.Given as goal

abbrev pub invariant-loop-k : goal.invariant-loop-k
invariant-loop-k g l = Changed false (λ i. any (has l.set) (line_of (sizes g.row.SPACES g.row.PAGES g.row.PLACES) (slot_at l.self.slots) i)) l.set l.found l.k
