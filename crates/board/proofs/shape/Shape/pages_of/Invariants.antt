-- `pages_of` meets its contract: the set is built page by page.
use Rattle.board.proofs as own
use mathlib.Core.Bool.{false}
use lib.Dec.{eqb}
use Prim.Native.Nat.{◌/◌}
use Rattle.lend_basics.proofs.Loops.{Built}
use own.shape.Shape.pages_of.Given as goal

abbrev pub invariant-loop-k : goal.invariant-loop-k
invariant-loop-k g l = Built false g.row.SLOTS (λ j. eqb (j / g.row.PAGES) l.space) l.set l.k
