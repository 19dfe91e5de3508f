-- `lookup` meets its contract. The invariant is `Looking`: what is left of the line, from the page at on, has the frame of k, and with
-- the links gone over as many links.
use Rattle.lend_code.proofs.LineWalks.{Looking}
use Rattle.board.specs.Model.{sizes}
use Rattle.board.proofs.Board.lookup.Given as goal

abbrev pub invariant-loop : goal.invariant-loop
invariant-loop g l = Looking (sizes g.row.SPACES g.row.PAGES g.row.PLACES) l.self.slots l.k g.row.SLOTS l.at l.links l.counter
