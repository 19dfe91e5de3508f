-- The count of emptied pages: what each reply gives, and that it may count rights instead of links.
use mathlib.Core.Path.{◌≡◌, refl, sym, ap, fun_ext}
use mathlib.Core.Bool.{Bool, true, false, not, ◌&&◌, cond}
use mathlib.Core.List.{List}
use Prim.Native.Nat.{ℕ, zero, suc}
use native.Mathlib.Decide.{ℕ_discrete}
use native.Mathlib.Omega.{arith}
use lib.Dec.{eqb}
use lib.ListN.{length}
use Rattle.lend.specs.declared.Slot.{Slot}
use Rattle.lend.specs.Sizes.{Sizes}
use Rattle.lend.specs.Lists.{count}
use Rattle.lend.specs.Slots.{Table, slot_at, held}
use Rattle.lend.specs.Tables.{Tables, State}
use Rattle.lend.specs.Sound.{SoundPages}
use Rattle.lend.specs.Emptied.{emptied}
use Rattle.lend.specs.Translate.{address_page, entry_of, with_entry, looked, hit}
use Rattle.lend.specs.Calls.{Call, Create, Delete, Unmap, Flush, Map, Grant, Translate, Load, Store, number, board_after, report, step}
use Rattle.lend_basics.proofs.Bools.{same_test, differ, positive}
use Rattle.lend_laws.proofs.Withdraw.{held_pos, pos_held}
use Rattle.lend_laws.proofs.Accepted.{accepted, refused}

-- where no number passes, the count is 0
count_none : (n : ℕ) (t : ℕ → Bool) → ((k : ℕ) → t k ≡ false) → count n t ≡ 0
unfolding count
count_none zero t h = refl
count_none (suc n) t h = rw (h n) (count_none n t h)

and_not : (b : Bool) → (b && not b) ≡ false
and_not true = refl
and_not false = refl

-- slots that stay empty no page
pub emptied_none : (b : List Slot) → emptied b b ≡ 0
unfolding emptied
emptied_none b = count_none (length b) (λ k. held (slot_at b k) && not (held (slot_at b k))) (λ k. and_not (held (slot_at b k)))

-- a look at a page leaves the slots
pub looked_slots : (z : Sizes) (b : Tables) (space address : ℕ) → (looked z b space address).slots ≡ b.slots
unfolding looked
looked_slots z b space address = go (hit b space address)
  where
    go : (t : Bool) → (cond t b (with_entry b (entry_of z b space (address_page address)))).slots ≡ b.slots
    go true = refl
    go false = refl

-- the reply's count of an accepted call is that of its slots before and after
accepted_counts : (z : Sizes) (st : State) (c : Call)
    → (report z st c).emptied ≡ emptied st.board.slots (board_after z st.board c).slots
unfolding report board_after
accepted_counts z st (Create space) = refl
accepted_counts z st (Delete space) = refl
accepted_counts z st (Unmap space page rights) = refl
accepted_counts z st (Flush space page rights) = refl
accepted_counts z st (Map from page to at rights) = refl
accepted_counts z st (Grant from page to at rights) = refl
accepted_counts z st (Translate space address rights) = rw (looked_slots z st.board space address, emptied_none st.board.slots)
accepted_counts z st (Load space address) = rw (looked_slots z st.board space address, emptied_none st.board.slots)
accepted_counts z st (Store space address byte) = rw (looked_slots z st.board space address, emptied_none st.board.slots)

-- every reply, of an accepted call and of a refused one, counts the pages held before the call and empty after it
pub emptied_counts : (z : Sizes) (st : State) (c : Call)
    → (step z st c).reply.emptied ≡ emptied st.board.slots (step z st c).state.board.slots
emptied_counts z st c = go (ℕ_discrete (number z st c) 0)
  where
    go : Dec (number z st c ≡ 0) → (step z st c).reply.emptied ≡ emptied st.board.slots (step z st c).state.board.slots
    go (yes e) = rw (accepted z st c e) (accepted_counts z st c)
    go (no h) = rw (refused z st c h) (sym (emptied_none st.board.slots))

-- ── counted by rights ────────────────────────────────────────────────────
-- on a sound table a page is held just when it has a right
pub held_rights : (z : Sizes) (live : List Bool) (f : Table) → SoundPages z live f → (k : ℕ) → held (f k) ≡ not (eqb (f k).rights 0)
held_rights z live f sound k =
    same_test (held (f k)) (not (eqb (f k).rights 0))
    (λ h. let l = held_pos z live f sound k h in differ (f k).rights 0 (λ e. omega arith))
    (λ h. pos_held z live f sound k (positive (f k).rights h))

not_not_is : (b : Bool) → not (not b) ≡ b
not_not_is true = refl
not_not_is false = refl

-- so emptied counts the pages that had a right and have none
pub rights_count : (z : Sizes) (live more : List Bool) (b c : List Slot) → SoundPages z live (slot_at b) → SoundPages z more (slot_at c)
    → emptied b c ≡ count (length b) (λ k. not (eqb (slot_at b k).rights 0) && eqb (slot_at c k).rights 0)
unfolding emptied
rights_count z live more b c before after = ap (count (length b)) (fun_ext same)
  where
    same : (k : ℕ) → (held (slot_at b k) && not (held (slot_at c k))) ≡ (not (eqb (slot_at b k).rights 0) && eqb (slot_at c k).rights 0)
    same k =
        rw (held_rights z live (slot_at b) before k, held_rights z more (slot_at c) after k, not_not_is (eqb (slot_at c k).rights 0))
