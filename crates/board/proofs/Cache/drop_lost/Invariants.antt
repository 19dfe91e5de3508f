-- `drop_lost` meets its contract. The invariant: the places gone over are as they come to, the others as they were.
use Rattle.lend_code.specs.Inner.{lost_in}
use Rattle.lend_code.proofs.Drops.{Dropping}
use Rattle.board.specs.Model.{sizes}
use Rattle.board.proofs.Cache.drop_lost.Given as goal

abbrev pub invariant-loop-place : goal.invariant-loop-place
invariant-loop-place g l =
    Dropping (sizes g.row.SPACES g.row.PAGES g.row.PLACES) (lost_in l.before l.after) l.initial.place-items l.place-items l.place-index
