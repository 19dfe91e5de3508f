-- `put_listing` meets its contract. The invariant: who lists the rest has listed all, and the pages so far are counted.
use Prim.Native.Nat.{◌+◌}
use lib.ListN.{length}
use Rattle.lend.specs.Slots.{slot_at}
use Rattle.listing.proofs.Writing.{Listing}
use Rattle.board.specs.Model.{sizes}
use Rattle.board_listing.proofs.write.put_listing.Given as goal

abbrev pub invariant-loop-k : goal.invariant-loop-k
invariant-loop-k g l =
    Listing (sizes g.row.SPACES g.row.PAGES g.row.PLACES) (slot_at l.fn.b.slots) l.initial.out l.out (g.row.PAGES + length l.yielded) l.held
