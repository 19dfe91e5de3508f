-- `slots_with` meets its contract. The invariant: before k stand the new slots, from k on the old ones.
use lib.ListN.{get_or}
use Rattle.lend.specs.Slots.{empty_slot, slot_at, with_rights}
use Rattle.lend_basics.proofs.Loops.{Changed}
use Rattle.board.proofs.shape.Shape.slots_with.Given as goal

abbrev pub invariant-loop-k : goal.invariant-loop-k
invariant-loop-k g l = Changed empty_slot (λ j. with_rights (get_or l.rights j 0) (slot_at l.initial.slots j)) l.initial.slots l.slots l.k
