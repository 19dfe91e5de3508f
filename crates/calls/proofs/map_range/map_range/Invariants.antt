-- `map_range` meets its contract. The invariant is `Run`: the call has come as far as the rules, on a sound board.
use Rattle.lend.specs.Ranges.{MapRange}
use Rattle.board.specs.Model.{sizes}
use Rattle.board.specs.Board.{tables}
use Rattle.calls.proofs.RangeRuns.{Run}
use Rattle.calls.proofs.map_range.map_range.Given as goal

abbrev pub invariant-loop-i : goal.invariant-loop-i
invariant-loop-i g l =
    Run (sizes g.row.SPACES g.row.PAGES g.row.PLACES) (tables l.fn.b) (MapRange l.from l.base l.size l.to l.at_base l.at_size l.rights) l.given.count l.run (tables l.b) l.i
