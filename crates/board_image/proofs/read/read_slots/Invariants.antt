-- `read_slots` meets its contract. The invariant: the first k slots are read, and all of them are slots.
use Rattle.board_image.proofs as own
use mathlib.Core.List.{[]}
use lib.ListN.{get_or}
use Rattle.lend.specs.Slots.{empty_slot}
use Rattle.image.specs.Image.{slot_reads, slot_in}
use Rattle.image.proofs.Taken.{Taken}
use own.read.read_slots.Given as goal

abbrev pub invariant-loop-k : goal.invariant-loop-k
invariant-loop-k g l = Taken empty_slot g.row.SLOTS (λ k. slot_reads (get_or l.bytes k []) 0) (λ k. slot_in (get_or l.bytes k []) 0) l.slots l.k
