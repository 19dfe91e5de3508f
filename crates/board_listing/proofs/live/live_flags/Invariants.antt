-- `live_flags` meets its contract. The invariant: the first s flags are those of n, and the rest of the number has the others.
use Rattle.listing.proofs.Live.{Flagging}
use Rattle.board_listing.proofs.live.live_flags.Given as goal

abbrev pub invariant-loop-s : goal.invariant-loop-s
invariant-loop-s g l = Flagging g.row.SPACES l.n l.live l.rest l.s
