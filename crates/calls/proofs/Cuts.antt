-- What the pages of a set have lost, counted by the slots that a cut has left.
use mathlib.Core.Path.{◌≡◌, sym, ap, ◌∙◌, fun_ext}
use mathlib.Core.Bool.{Bool}
use mathlib.Core.List.{List}
use Prim.Native.Nat.{ℕ, ◌<◌}
use native.Mathlib.Decide.{dec_lt}
use native.Mathlib.Omega.{arith}
use lib.ListN.{get_or, set, get_or-eq_default}
use Rattle.lend.specs.declared.Slot.{Slot}
use Rattle.lend.specs.declared.Count.{Count}
use Rattle.lend.specs.Sizes.{Sizes, slot_count}
use Rattle.lend.specs.Slots.{empty_slot, slot_at}
use Rattle.lend.specs.Tables.{Tables}
use Rattle.lend.specs.Line.{frame_of}
use Rattle.lend_summary.specs.Counts.{lost_count, less_at}
use Rattle.lend_code.specs.Inner.{rights_of, rights_left, slots_with, losses_of, cut_slots, cut_lost, more_in, with_summary}
use Rattle.lend_code.specs.Lending.{linked_in}
use Rattle.board.specs.Board.{with_slots}
use Rattle.lend_code.proofs.Columns.{left_long, slots_long, slots_at, rights_at}

-- the rights of the slots that are left are the rights that are left
rights_cut : (z : Sizes) (b : List Slot) (set : List Bool) (d k : ℕ) → get_or (rights_of z (cut_slots z b set d)) k 0 ≡ get_or (rights_left z (rights_of z b) set d) k 0
unfolding cut_slots
rights_cut z b set d k = rights_at z (slots_with z b after) k (slots_long z b after) ∙ at (dec_lt k (slot_count z))
  where
    after : List ℕ
    after = rights_left z (rights_of z b) set d

    at : Dec (k < slot_count z) → (slot_at (slots_with z b after) k).rights ≡ get_or after k 0
    at (yes h) = ap (λ (s : Slot). s.rights) (slots_at z b after k h)
    at (no h) =
        ap (λ (s : Slot). s.rights) (get_or-eq_default (slots_with z b after) empty_slot {n = k} (omega (arith, slots_long z b after)))
        ∙ sym (get_or-eq_default after 0 {n = k} (omega (arith, left_long z (rights_of z b) set d)))

pub lost_by_slots : (z : Sizes) (b : List Slot) (set : List Bool) (d : ℕ) (before after : List ℕ) (new : List Slot) (lost : Count)
    → before ≡ rights_of z b → new ≡ cut_slots z b set d → after ≡ rights_of z new → lost ≡ losses_of z before after → lost ≡ cut_lost z b set d
unfolding losses_of cut_lost
lost_by_slots z b set d before after new lost hb hn ha hl =
    hl ∙ rw (ha, hn, hb) (ap (lost_count (slot_count z) (λ k. get_or (rights_of z b) k 0)) (fun_ext (rights_cut z b set d)))

-- what the code makes when it links the taker's page, piece by piece
pub linked_made : (z : Sizes) (b : Tables) (under : List Bool) (d taker giver : ℕ) (x : Slot) (old new from to : ℕ) (cut : Tables) (lost : Count) (less more : Tables)
    → from ≡ frame_of z (slot_at b.slots) taker → old ≡ from → to ≡ frame_of z (slot_at b.slots) giver → new ≡ to
    → cut ≡ with_slots b (cut_slots z b.slots under d) → lost ≡ cut_lost z b.slots under d
    → less ≡ with_summary (with_slots cut (set cut.slots taker x)) (less_at cut.summary old lost) → more ≡ with_summary less (more_in less.summary new x.rights)
    → more ≡ with_summary (with_slots b (set (cut_slots z b.slots under d) taker x)) (linked_in z b.slots b.summary taker giver (cut_lost z b.slots under d) x.rights)
unfolding linked_in
linked_made z b under d taker giver x old new from to cut lost less more hf ho ht hn hc hl he hm = rw (hm, he, hc, hl, ho, hf, hn, ht)
