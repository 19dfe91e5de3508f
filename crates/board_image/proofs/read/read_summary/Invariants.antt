-- `read_summary` meets its contract. The invariant: the first i counts are read.
use Rattle.board_image.proofs as own
use mathlib.Core.List.{[]}
use lib.ListN.{get_or}
use Rattle.lend.specs.Summary.{no_count}
use Rattle.lend_basics.proofs.Loops.{Built}
use Rattle.image.specs.Image.{count_in}
use own.read.read_summary.Given as goal

abbrev pub invariant-loop-i : goal.invariant-loop-i
invariant-loop-i g l = Built no_count g.row.PAGES (λ i. count_in (get_or l.bytes i []) 0) l.summary l.i
