-- `flush_range` meets its contract. The invariant is `Run`: the call has come as far as the rules, on a sound board.
use Rattle.lend.specs.Ranges.{FlushRange}
use Rattle.board.specs.Model.{sizes}
use Rattle.board.specs.Board.{tables}
use Rattle.calls.proofs.RangeRuns.{Run}
use Rattle.calls.proofs.flush_range.flush_range.Given as goal

abbrev pub invariant-loop-i : goal.invariant-loop-i
invariant-loop-i g l =
    Run (sizes g.row.SPACES g.row.PAGES g.row.PLACES) (tables l.fn.b) (FlushRange l.space l.base l.size l.rights) l.range.count l.run (tables l.b) l.i
