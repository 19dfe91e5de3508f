-- `tally` meets its contract. The invariant: the pages before k are counted.
use Rattle.board.proofs as own
use Rattle.board.specs as spec
use Rattle.lend_code.specs.Inner.{rights_of}
use Rattle.lend_code.proofs.Summary.{Tallied}
use spec.Model.{sizes}
use own.Board.tally.Given as goal

abbrev pub invariant-loop-k : goal.invariant-loop-k
invariant-loop-k g l =
    let z = sizes g.row.SPACES g.row.PAGES g.row.PLACES in
    Tallied z (rights_of z l.self.slots) l.frames l.counts l.k
