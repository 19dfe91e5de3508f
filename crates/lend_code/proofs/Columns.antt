-- What the lists of the inner functions have at each page: how they stand to the rules, which speak of one page at a time.
use mathlib.Core.Path.{◌≡◌, refl, sym, ap, ◌∙◌, fun_ext}
use mathlib.Core.Bool.{Bool, true, false, cond}
use mathlib.Core.List.{List}
use Prim.Native.Nat.{ℕ, ◌≤◌, ◌<◌}
use native.Mathlib.Decide.{dec_lt}
use native.Mathlib.Omega.{arith}
use lib.Dec.{ltb}
use lib.ListN.{length, get_or, get_or-eq_default}
use borrow.Author.Tests.{ltb-true, ltb-false}
use Rattle.lend.specs.declared.Slot.{Slot}
use Rattle.lend.specs.Sizes.{Sizes, slot_count}
use Rattle.lend.specs.Lists.{any, tabulate}
use Rattle.lend.specs.Rights.{less}
use Rattle.lend.specs.Slots.{empty_slot, slot_at, with_rights, cut}
use Rattle.lend.specs.Line.{line_of}
use Rattle.lend_basics.proofs.Lists.{length_tabulate, tabulate_at, tabulate_past}
use Rattle.lend_summary.specs.Counts.{lost_count, lost_of}
use Rattle.lend_code.specs.Inner.{has, line_has, rights_of, left_of, rights_left, slots_with, losses_of, cut_slots, cut_lost}

-- a tabulated list is g everywhere, where g past the end is what a read there gives
at_all : {A : Type 0} (n : ℕ) (g : ℕ → A) (d : A) → ((k : ℕ) → n ≤ k → d ≡ g k) → (k : ℕ) → get_or (tabulate n g) k d ≡ g k
at_all n g d past k = go (ltb k n) refl
  where
    go : (b : Bool) → ltb k n ≡ b → get_or (tabulate n g) k d ≡ g k
    go true e = tabulate_at g n k d (ltb-true k n e)
    go false e = let h = ltb-false k n e in tabulate_past g n k d h ∙ past k h

-- where no right is, none is left
none_left : {r : ℕ} (loses : Bool) (d : ℕ) → r ≡ 0 → 0 ≡ left_of r loses d
unfolding less
none_left true d e = rw e
none_left false d e = sym e

-- ── lengths ──────────────────────────────────────────────────────────────
module _ (z : Sizes) where
  pub rights_long : (b : List Slot) → length (rights_of z b) ≡ slot_count z
  unfolding rights_of
  rights_long b = length_tabulate _ (slot_count z)

  pub left_long : (before : List ℕ) (set : List Bool) (d : ℕ) → length (rights_left z before set d) ≡ slot_count z
  unfolding rights_left
  left_long before set d = length_tabulate _ (slot_count z)

  pub slots_long : (b : List Slot) (after : List ℕ) → length (slots_with z b after) ≡ slot_count z
  unfolding slots_with
  slots_long b after = length_tabulate _ (slot_count z)

  pub line_has_long : (b : List Slot) (set : List Bool) → length (line_has z b set) ≡ slot_count z
  unfolding line_has
  line_has_long b set = length_tabulate _ (slot_count z)

-- ── what stands at a page ────────────────────────────────────────────────
module _ (z : Sizes) where
  pub rights_at : (b : List Slot) (k : ℕ) → length b ≡ slot_count z → get_or (rights_of z b) k 0 ≡ (slot_at b k).rights
  unfolding rights_of
  rights_at b k e =
      at_all (slot_count z) (λ j. (slot_at b j).rights) 0
      (λ j h. sym (ap (λ (s : Slot). s.rights) (get_or-eq_default b empty_slot {n = j} (omega arith)))) k

  pub left_at : (before : List ℕ) (set : List Bool) (d k : ℕ) → length before ≡ slot_count z
      → get_or (rights_left z before set d) k 0 ≡ left_of (get_or before k 0) (has set k) d
  unfolding rights_left
  left_at before set d k e =
      at_all (slot_count z) (λ j. left_of (get_or before j 0) (has set j) d) 0
      (λ j h. none_left (has set j) d (get_or-eq_default before 0 {n = j} (omega arith))) k

  pub slots_at : (b : List Slot) (after : List ℕ) (k : ℕ) → k < slot_count z → slot_at (slots_with z b after) k ≡ with_rights (get_or after k 0) (slot_at b k)
  unfolding slots_with
  slots_at b after k h = tabulate_at (λ j. with_rights (get_or after j 0) (slot_at b j)) (slot_count z) k empty_slot h

  pub line_has_at : (b : List Slot) (set : List Bool) (k : ℕ) → k < slot_count z → get_or (line_has z b set) k false ≡ any (has set) (line_of z (slot_at b) k)
  unfolding line_has
  line_has_at b set k h = tabulate_at (λ j. any (has set) (line_of z (slot_at b) j)) (slot_count z) k false h

-- the slots that are left when the pages of the set lose d
pub cut_slots_law : (z : Sizes) (b : List Slot) (set : List Bool) (d k : ℕ) → length b ≡ slot_count z → k < slot_count z
    → slot_at (slots_with z b (rights_left z (rights_of z b) set d)) k ≡ cond (has set k) (cut d (slot_at b k)) (with_rights (slot_at b k).rights (slot_at b k))
cut_slots_law z b set d k e h =
    slots_at z b (rights_left z (rights_of z b) set d) k h
    ∙ (ap (λ (r : ℕ). with_rights r (slot_at b k)) (left_at z (rights_of z b) set d k (rights_long z b) ∙ ap (λ (r : ℕ). left_of r (has set k) d) (rights_at z b k e))
    ∙ by_test (has set k))
  where
    by_test : (t : Bool) → with_rights (left_of (slot_at b k).rights t d) (slot_at b k) ≡ cond t (cut d (slot_at b k)) (with_rights (slot_at b k).rights (slot_at b k))
    by_test true = refl
    by_test false = refl

-- what they have lost is lost between the tables
pub lost_slots : (z : Sizes) (b : List Slot) (set : List Bool) (d : ℕ) → length b ≡ slot_count z
    → cut_lost z b set d ≡ lost_of (slot_count z) b (cut_slots z b set d)
unfolding cut_lost losses_of cut_slots
lost_slots z b set d e =
    ap (λ (f : ℕ → ℕ). lost_count (slot_count z) f (λ k. get_or after k 0)) (fun_ext (λ k. rights_at z b k e))
    ∙ ap (lost_count (slot_count z) (λ k. (slot_at b k).rights)) (fun_ext (λ k. left k (dec_lt k (slot_count z))))
  where
    after : List ℕ
    after = rights_left z (rights_of z b) set d

    left : (k : ℕ) → Dec (k < slot_count z) → get_or after k 0 ≡ (slot_at (slots_with z b after) k).rights
    left k (yes h) = sym (ap (λ (s : Slot). s.rights) (slots_at z b after k h))
    left k (no h) =
        get_or-eq_default after 0 {n = k} (omega (arith, left_long z (rights_of z b) set d))
        ∙ sym (ap (λ (s : Slot). s.rights) (get_or-eq_default (slots_with z b after) empty_slot {n = k} (omega (arith, slots_long z b after))))
