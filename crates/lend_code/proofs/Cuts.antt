-- The slots that are left when the pages of a set lose rights, where the code changes them in place.
use mathlib.Core.Path.{◌≡◌, ap, ◌∙◌, fun_ext, sym}
use mathlib.Core.Bool.{Bool}
use mathlib.Core.List.{List}
use Prim.Native.Nat.{ℕ, ◌+◌, ◌≤◌, ◌<◌}
use native.Mathlib.Omega.{arith}
use lib.ListN.{length, get_or, set as set_at}
use Rattle.lend.specs.declared.Slot.{Slot}
use Rattle.lend.specs.Sizes.{Sizes, slot_count}
use Rattle.lend.specs.Lists.{tabulate}
use Rattle.lend.specs.Slots.{empty_slot, slot_at, with_rights}
use Rattle.lend_basics.proofs.Loops.{Changed, changed_more, changed_to}
use Rattle.lend_code.specs.Inner.{has, left_of, rights_of, rights_left, slots_with, cut_slots}
use Rattle.lend_code.proofs.Columns.{rights_long, rights_at, left_at}

-- what page k keeps then
abbrev pub cut_at : List Slot → List Bool → ℕ → ℕ → Slot
cut_at b set d k = with_rights (left_of (slot_at b k).rights (has set k) d) (slot_at b k)

-- below k the pages have been cut
abbrev pub Cutting : List Slot → List Bool → ℕ → List Slot → ℕ → Type 0
Cutting b set d out k = Changed empty_slot (cut_at b set d) b out k

-- one page more
pub cutting_turn : (b : List Slot) (set : List Bool) (d : ℕ) (out : List Slot) (k r : ℕ) (s : Slot) → Cutting b set d out k → k < length b
    → r ≡ left_of (slot_at out k).rights (has set k) d → s ≡ with_rights r (slot_at out k) → Cutting b set d (set_at out k s) (k + 1)
cutting_turn b set d out k r s w h er es = changed_more _ _ _ out k s w h (es ∙ (ap (λ (x : ℕ). with_rights x (slot_at out k)) er ∙ ap (λ (x : Slot). with_rights (left_of x.rights (has set k) d) x) (w.left k (omega arith))))

pub cutting_all : (z : Sizes) (b : List Slot) (set : List Bool) (d : ℕ) (out : List Slot) (k : ℕ) → Cutting b set d out k
    → length b ≡ slot_count z → slot_count z ≤ k → out ≡ cut_slots z b set d
unfolding cut_slots slots_with
cutting_all z b set d out k w long h = changed_to _ _ _ _ _ _ w long h ∙ ap (tabulate (slot_count z)) (fun_ext at)
  where
    at : (j : ℕ) → cut_at b set d j ≡ with_rights (get_or (rights_left z (rights_of z b) set d) j 0) (slot_at b j)
    at j = sym (ap (λ (r : ℕ). with_rights r (slot_at b j)) (left_at z (rights_of z b) set d j (rights_long z b) ∙ ap (λ (r : ℕ). left_of r (has set j) d) (rights_at z b j long)))
