-- `live_number` meets its contract. The invariant: n is the number of the flags so far, the highest space's first.
use mathlib.Core.Path.{◌≡◌}
use mathlib.Core.Bool.{Bool}
use denote.Ref.{Bor}
use Rattle.std.specs.Prelude.{map, reverse}
use Rattle.listing.specs.Live.{live_number}
use Rattle.board_listing.proofs.live.live_number.Given as goal

abbrev pub invariant-loop-is : goal.invariant-loop-is
invariant-loop-is g l = l.n ≡ live_number (reverse (map (λ (is : Bor Bool). is.now) l.yielded))
