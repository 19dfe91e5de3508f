-- `line_meets` meets its contract. The invariant is `Meeting`: what is left of the line, from the page at on, has the answer for all of it.
use Rattle.lend_code.proofs.LineWalks.{Meeting}
use Rattle.board.specs.Model.{sizes}
use Rattle.board.proofs.Board.line_meets.Given as goal

abbrev pub invariant-loop : goal.invariant-loop
invariant-loop g l = Meeting (sizes g.row.SPACES g.row.PAGES g.row.PLACES) l.self.slots l.set l.k g.row.SLOTS l.at l.counter
