-- `frames` meets its contract. The invariant is `Framing`: the lines before k are good, and their frames are found.
use Rattle.lend_code.proofs.LineFrames.{Framing}
use Rattle.board.specs.Model.{sizes}
use Rattle.board.proofs.Board.frames.Given as goal

abbrev pub invariant-loop-k : goal.invariant-loop-k
invariant-loop-k g l = Framing (sizes g.row.SPACES g.row.PAGES g.row.PLACES) l.self.slots g.row.SLOTS l.frames l.k
