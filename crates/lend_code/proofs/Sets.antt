-- Sets of pages and the slots of the start board, as the code writes them into arrays of one value.
use mathlib.Core.Path.{◌≡◌, sym, ◌∙◌}
use mathlib.Core.Bool.{Bool, true, false, cond}
use mathlib.Core.List.{List}
use Prim.Native.Nat.{ℕ, ◌≤◌, ◌<◌}
use native.Mathlib.Decide.{dec_lt, ℕ_discrete}
use native.Mathlib.Omega.{arith}
use lib.Dec.{eqb, leb}
use lib.ListN.{length, get_or, set, replicate, length-set, length-replicate, get_or-replicate}
use lib.Seq.{ext_get_or, get_or-set_same, get_or-set_other}
use borrow.Author.Tests.{eq-eqb, ne_eqb, le-ltb}
use Rattle.lend.specs.declared.Slot.{Slot}
use Rattle.lend.specs.declared.Place.{Place}
use Rattle.lend.specs.Sizes.{Sizes, slot_count, in_pool}
use Rattle.lend.specs.Lists.{tabulate}
use Rattle.lend.specs.Slots.{empty_slot, frame_slot}
use Rattle.lend.specs.declared.Count.{Count}
use Rattle.lend.specs.Summary.{no_count}
use Rattle.lend.specs.Tables.{Tables}
use Rattle.lend.specs.Cache.{empty_place}
use Rattle.lend.specs.Start.{start_board}
use Rattle.lend_basics.proofs.Lists.{length_tabulate, tabulate_at}
use Rattle.lend_basics.proofs.Loops.{Changed, changed_none}
use Rattle.lend_code.specs.Inner.{only_page, start_slots}

module _ (z : Sizes) (y : ℕ) where
  -- one page is put in
  pub only_set : y < slot_count z → set (replicate (slot_count z) false) y true ≡ only_page z y
  unfolding only_page
  only_set h =
      ext_get_or false (set (replicate (slot_count z) false) y true) (only_page z y) (long ∙ sym (length_tabulate (λ k. eqb k y) (slot_count z)))
      (λ k l. at k (omega (arith, long)) (ℕ_discrete k y))
    where
      long : length (set (replicate (slot_count z) false) y true) ≡ slot_count z
      long = length-set (replicate (slot_count z) false) y true ∙ length-replicate (slot_count z) false

      at : (k : ℕ) → k < slot_count z → Dec (k ≡ y) → get_or (set (replicate (slot_count z) false) y true) k false ≡ get_or (only_page z y) k false
      at k l (yes e) =
          rw e (get_or-set_same (replicate (slot_count z) false) y true false (omega (arith, length-replicate (slot_count z) false)))
          ∙ sym (tabulate_at (λ j. eqb j y) (slot_count z) k false l ∙ eq-eqb k y e)
      at k l (no e) =
          get_or-set_other (replicate (slot_count z) false) y k true false e
          ∙ (get_or-replicate (slot_count z) k false false l ∙ sym (tabulate_at (λ j. eqb j y) (slot_count z) k false l ∙ ne_eqb k y e))

  -- a page past the table is not there to put in
  pub only_none : slot_count z ≤ y → replicate (slot_count z) false ≡ only_page z y
  unfolding only_page
  only_none h =
      ext_get_or false (replicate (slot_count z) false) (only_page z y) (length-replicate (slot_count z) false ∙ sym (length_tabulate (λ k. eqb k y) (slot_count z)))
      (λ k l. at k (omega (arith, length-replicate (slot_count z) false)))
    where
      at : (k : ℕ) → k < slot_count z → get_or (replicate (slot_count z) false) k false ≡ get_or (only_page z y) k false
      at k l = get_or-replicate (slot_count z) k false false l ∙ sym (tabulate_at (λ j. eqb j y) (slot_count z) k false l ∙ ne_eqb k y (λ e. omega arith))

-- ── the start board's slots ──────────────────────────────────────────────
module _ (z : Sizes) where
  -- what page k keeps at the start
  abbrev pub start_slot : ℕ → Slot
  start_slot k = cond (in_pool z k) (frame_slot k) empty_slot

  -- the first k pages of space 0 have their frames
  abbrev pub Framed : List Slot → ℕ → Type 0
  Framed slots k = Changed empty_slot start_slot (replicate (slot_count z) empty_slot) slots k

  pub framed_none : (x : Slot) → x ≡ empty_slot → Framed (replicate (slot_count z) x) 0
  framed_none x e = rw e (changed_none empty_slot start_slot (replicate (slot_count z) empty_slot))

  pub framed_all : (slots : List Slot) (k : ℕ) → Framed slots k → k ≡ z.pages → slots ≡ start_slots z
  unfolding start_slots start_board
  framed_all slots k w e =
      ext_get_or empty_slot slots (tabulate (slot_count z) start_slot) (long ∙ sym (length_tabulate start_slot (slot_count z)))
      (λ j l. at j (omega (arith, long)) (dec_lt j k) ∙ sym (tabulate_at start_slot (slot_count z) j empty_slot (omega (arith, long))))
    where
      long : length slots ≡ slot_count z
      long = w.long ∙ length-replicate (slot_count z) empty_slot

      at : (j : ℕ) → j < slot_count z → Dec (j < k) → get_or slots j empty_slot ≡ start_slot j
      at j l (yes h) = w.done j h
      at j l (no h) = w.left j (omega arith) ∙ (get_or-replicate (slot_count z) j empty_slot empty_slot l ∙ sym (rw (le-ltb j z.pages (omega arith))))

-- the start board, piece by piece
pub start_made : (z : Sizes) (slots : List Slot) (live : List Bool) (x : Place) (c : Count) → slots ≡ start_slots z → live ≡ tabulate z.spaces (λ s. leb s 1) → x ≡ empty_place → c ≡ no_count
    → ◌≡◌ {A = Tables} (record { slots = slots; live = live; places = replicate z.places x; next = 0; summary = replicate z.pages c }) (start_board z)
unfolding start_slots start_board
start_made z slots live x c hs hl hx hc = rw (hs, hl, hx, hc)
