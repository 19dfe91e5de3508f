-- `read_places` meets its contract. The invariant: the first i places are read.
use Rattle.board_image.proofs as own
use mathlib.Core.List.{[]}
use lib.ListN.{get_or}
use Rattle.lend.specs.Cache.{empty_place}
use Rattle.lend_basics.proofs.Loops.{Built}
use Rattle.image.specs.Image.{place_in}
use own.read.read_places.Given as goal

abbrev pub invariant-loop-i : goal.invariant-loop-i
invariant-loop-i g l = Built empty_place g.row.PLACES (λ i. place_in (get_or l.bytes i []) 0) l.places l.i
