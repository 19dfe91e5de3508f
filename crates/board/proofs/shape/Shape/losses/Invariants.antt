-- `losses` meets its contract. The invariant: each of the four counts the pages before k that lost what it is about.
use Rattle.board.proofs as own
use Rattle.lend_code.proofs.Summary.{Losing}
use own.shape.Shape.losses.Given as goal

abbrev pub invariant-loop-k : goal.invariant-loop-k
invariant-loop-k g l = Losing l.before l.after l.sum.held l.sum.read l.sum.write l.sum.execute l.k
