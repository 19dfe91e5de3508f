-- `lost_all` meets its contract. The invariant: n counts the pages before k that lost their last right.
use Rattle.board.proofs as own
use mathlib.Core.Bool.{not, ◌&&◌}
use lib.ListN.{get_or}
use lib.Dec.{eqb}
use Rattle.lend_basics.proofs.Loops.{Counted}
use own.shape.Shape.lost_all.Given as goal

abbrev pub invariant-loop-k : goal.invariant-loop-k
invariant-loop-k g l = Counted (λ j. not (eqb (get_or l.before j 0) 0) && eqb (get_or l.after j 0) 0) l.n l.k
