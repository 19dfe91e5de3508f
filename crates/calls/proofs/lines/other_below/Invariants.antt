-- `other_below` meets its contract. The invariant: no page before k is in the space, has the source on its line and is another one.
use Rattle.calls.proofs as own
use Rattle.lend_code.specs.Inner.{line_has}
use Rattle.board.specs.Model.{sizes}
use Rattle.lend_code.proofs.Climbs.{Failed}
use own.Others.{asked}
use own.lines.other_below.Given as goal

abbrev pub invariant-loop-k : goal.invariant-loop-k
invariant-loop-k g l =
    Failed
    (asked (sizes g.row.SPACES g.row.PAGES g.row.PLACES) (line_has (sizes g.row.SPACES g.row.PAGES g.row.PLACES) l.b.slots l.source) l.space l.but) l.k
