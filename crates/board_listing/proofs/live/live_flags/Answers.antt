-- `live_flags` meets its contract: the goals that are left, from the invariant.
use mathlib.Core.Path.{refl}
use mathlib.Core.Bool.{false}
use lib.ListN.{length-replicate}
use Rattle.listing.proofs.Live.{flag_none, flag_turn, flag_end}
use borrow.Author.Rules.{rules}
use Rattle.board_listing.proofs.live.live_flags.Goals as goal

pub loop-s-init : goal.loop-s-init
loop-s-init g c = flag_none _ _ _ (length-replicate g.row.SPACES false)

pub loop-s-preserved : goal.loop-s-preserved
loop-s-preserved g c = flag_turn c.loop-s.invariant (search rules) refl

pub returns : goal.returns
returns g c = flag_end c.loop-s.invariant (search rules)
