-- `other_in` meets its contract. The invariant: no page before k is in the space, in the set and another one.
use Rattle.calls.proofs as own
use Rattle.board.specs.Model.{sizes}
use Rattle.lend_code.proofs.Climbs.{Failed}
use own.Others.{asked}
use own.lines.other_in.Given as goal

abbrev pub invariant-loop-k : goal.invariant-loop-k
invariant-loop-k g l = Failed (asked (sizes g.row.SPACES g.row.PAGES g.row.PLACES) l.set l.space l.but) l.k
