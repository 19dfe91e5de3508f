-- `run_lines` meets its contract. The invariant: who prints the rest has printed all.
use Prim.Native.Nat.{◌-◌}
use lib.ListN.{length}
use Rattle.lend.specs.Tables.{alone}
use Rattle.script.proofs.Running.{Running}
use Rattle.board.specs.Model.{sizes}
use Rattle.board.specs.Board.{tables}
use Rattle.session.proofs.lines.run_lines.Given as goal

abbrev pub invariant-loop-from : goal.invariant-loop-from
invariant-loop-from g l =
    Running (sizes g.row.SPACES g.row.PAGES g.row.PLACES) (tables l.initial.b) l.input l.initial.out l.out (alone (tables l.b)) l.line l.from

abbrev pub decreases-loop-from : goal.decreases-loop-from
decreases-loop-from g l = length l.input - l.from
