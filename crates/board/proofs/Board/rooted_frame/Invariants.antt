-- `rooted_frame` meets its contract. The invariant is `Rooting`: what is left to find, from the page at on, is what the walk is to find.
use Rattle.lend_code.proofs.LineFrames.{Rooting}
use Rattle.board.specs.Model.{sizes}
use Rattle.board.proofs.Board.rooted_frame.Given as goal

abbrev pub invariant-loop : goal.invariant-loop
invariant-loop g l = Rooting (sizes g.row.SPACES g.row.PAGES g.row.PLACES) l.self.slots l.k g.row.SLOTS l.at l.counter
