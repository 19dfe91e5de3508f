-- `read_from` meets its contract. The invariant: what is left of the lines settles the answer.
use Prim.Native.Nat.{◌-◌}
use lib.ListN.{length}
use Rattle.listing.specs.Loop.{read_from}
use Rattle.listing.proofs.Loop.{Reading}
use Rattle.board.specs.Model.{sizes}
use Rattle.board_listing.proofs.read.read_from.Given as goal

abbrev pub invariant-loop-from : goal.invariant-loop-from
invariant-loop-from g l =
    let z = sizes g.row.SPACES g.row.PAGES g.row.PLACES in
    Reading z l.text (read_from z l.text l.live l.at) l.live l.rising l.last l.count l.slots l.from

abbrev pub decreases-loop-from : goal.decreases-loop-from
decreases-loop-from g l = length l.text - l.from
