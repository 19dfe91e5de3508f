-- `rights_left` meets its contract. The invariant: before k stands what is left, from k on what was there.
use lib.ListN.{get_or}
use Rattle.lend_basics.proofs.Loops.{Changed}
use Rattle.lend_code.specs.Inner.{has, left_of}
use Rattle.board.proofs.shape.Shape.rights_left.Given as goal

abbrev pub invariant-loop-k : goal.invariant-loop-k
invariant-loop-k g l = Changed 0 (λ j. left_of (get_or l.initial.rights j 0) (has l.set j) l.d) l.initial.rights l.rights l.k
