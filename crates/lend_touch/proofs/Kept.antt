-- The customer's fault, as it happened, shut out: a reader never finds another frame behind a page that nobody lent it anew.
use mathlib.Core.Path.{◌≡◌, refl, ap, ◌∙◌}
use mathlib.Core.Bool.{not}
use mathlib.Core.List.{List, [], ◌∷◌}
use Prim.Native.Nat.{ℕ, ◌+◌, ◌*◌, ◌%◌, ◌≤◌}
use native.Mathlib.Decide.{ℕ_discrete}
use lib.Dec.{T, eqb, eqb→eq}
use borrow.Author.Tests.{eq-eqb}
use Rattle.lend.specs.declared.Slot.{Slot}
use Rattle.lend.specs.Sizes.{Sizes, key, page_bytes}
use Rattle.lend.specs.Slots.{Table, empty_slot, slot_at, held}
use Rattle.lend.specs.Tables.{State, table_of}
use Rattle.lend.specs.Line.{line_of, below, frame_of}
use Rattle.lend.specs.Sound.{Sound}
use Rattle.lend.specs.Translate.{page_at, physical, looked}
use Rattle.lend.specs.Calls.{Call, Create, Delete, Unmap, Flush, Map, Grant, Translate, Load, Store, number, board_after, report, step, steps}
use Rattle.lend_basics.proofs.Bools.{and_l, and_r, and_true}
use Rattle.lend_sound.proofs.SoundTest.{test_sound}
use Rattle.lend_laws.proofs.Accepted.{accepted, refused, tested}
use Rattle.lend_laws.proofs.Emptied.{looked_slots}
use Rattle.lend_laws.proofs.Keeps.{Plain, withdrawn_link, accepted_withdrawn}
use Rattle.lend_lending.proofs.Map.{map_fine}
use Rattle.lend_lending.proofs.Grant.{HandedOn, grant_fine, handed_on_law}
use Rattle.lend_lending.proofs.Taker.{same_behind, mapped_below, mapped_link, granted_below, granted_link}
use Rattle.lend_lending.proofs.Insert.{translate_fine}
use Rattle.lend_lending.proofs.Always.{step_sound}
use Rattle.lend_touch.specs.Anew.{is_taker, lends_anew, never_anew, Kept}

-- ── an accepted call ─────────────────────────────────────────────────────
module _ (z : Sizes) (st : State) where
  -- it was made on a sound board
  was_sound : (c : Call) → number z st c ≡ 0 → Sound z st.board
  was_sound c e = test_sound z st.board (tested z st c e)

  by_grant : (s p u v r : ℕ) → number z st (Grant s p u v r) ≡ 0 → HandedOn z st.board s p u v r
  by_grant s p u v r e =
      let g = grant_fine z st s p u v r e in
      handed_on_law z st.board (was_sound (Grant s p u v r) e) s p u v r g.lendable g.giver_out

  -- what stood below its taker is empty after it
  cleared : (c : Call) → number z st c ≡ 0 → (t k : ℕ) → T (is_taker z c t) → T (below z (table_of st.board) k t)
      → table_of (board_after z st.board c) k ≡ empty_slot
  unfolding board_after
  cleared (Create s) e t k y h = absurd y
  cleared (Delete s) e t k y h = absurd y
  cleared (Unmap s p d) e t k y h = absurd y
  cleared (Flush s p d) e t k y h = absurd y
  cleared (Map s p u v r) e t k y h =
      mapped_below z st.board (was_sound (Map s p u v r) e) s p u v r (map_fine z st s p u v r e).lendable k
      (rw (eqb→eq t (key z u v) y) at h)
  cleared (Grant s p u v r) e t k y h =
      granted_below z st.board (was_sound (Grant s p u v r) e) s p u v r (by_grant s p u v r e) k
      (rw (eqb→eq t (key z u v) y) at h)
  cleared (Translate s a d) e t k y h = absurd y
  cleared (Load s a) e t k y h = absurd y
  cleared (Store s a x) e t k y h = absurd y

module _ (z : Sizes) (some_page : 1 ≤ z.pages) (st : State) where
  plain_link : (c : Call) → Plain c → number z st c ≡ 0 → (k : ℕ) → T (held (table_of (board_after z st.board c) k))
      → (table_of (board_after z st.board c) k).link ≡ (table_of st.board k).link
  plain_link c y e =
      withdrawn_link z st.board.live (table_of st.board) (table_of (board_after z st.board c)) (was_sound z st c e).pages
      (accepted_withdrawn z some_page st (was_sound z st c e) c y e)

  looked_link : (space address k : ℕ) → (slot_at (looked z st.board space address).slots k).link ≡ (table_of st.board k).link
  looked_link space address k = ap (λ (l : List Slot). (slot_at l k).link) (looked_slots z st.board space address)

  -- a page that is held after it, and is not its taker, has its link
  links : (c : Call) → number z st c ≡ 0 → (k : ℕ) → T (not (is_taker z c k)) → T (held (table_of (board_after z st.board c) k))
      → (table_of (board_after z st.board c) k).link ≡ (table_of st.board k).link
  unfolding board_after
  links (Create s) e k n h = refl
  links (Delete s) e k n h = plain_link (Delete s) tt e k h
  links (Unmap s p d) e k n h = plain_link (Unmap s p d) tt e k h
  links (Flush s p d) e k n h = plain_link (Flush s p d) tt e k h
  links (Map s p u v r) e k n h =
      mapped_link z st.board (was_sound z st (Map s p u v r) e) s p u v r (map_fine z st s p u v r e).lendable k n h
  links (Grant s p u v r) e k n h =
      granted_link z st.board (was_sound z st (Grant s p u v r) e) s p u v r (by_grant z st s p u v r e) k n h
  links (Translate s a d) e k n h = looked_link s a k
  links (Load s a) e k n h = looked_link s a k
  links (Store s a x) e k n h = looked_link s a k

  -- so it has the line and the frame it had
  accepted_kept : (c : Call) → number z st c ≡ 0 → (k : ℕ) → T (not (is_taker z c k)) → T (held (table_of (board_after z st.board c) k))
      → Kept z (table_of st.board) (table_of (board_after z st.board c)) k
  accepted_kept c e k n h = record {
    was_held = rw (links c e k n h) at h;
    same_link = links c e k n h;
    same_line = behind.0;
    same_frame = behind.1;
  }
    where
      is_sound : Sound z (board_after z st.board c)
      is_sound = rw (accepted z st c e) at (step_sound z some_page st (was_sound z st c e) c)

      behind : (line_of z (table_of (board_after z st.board c)) k ≡ line_of z (table_of st.board) k)
          × (frame_of z (table_of (board_after z st.board c)) k ≡ frame_of z (table_of st.board) k)
      behind =
          same_behind z st.board.live (board_after z st.board c).live (table_of st.board) (table_of (board_after z st.board c))
          (was_sound z st c e).shape.live_long (was_sound z st c e).pages is_sound.pages
          (is_taker z c) (links c e) (cleared z st c e) k n h

-- ── every call ───────────────────────────────────────────────────────────
-- what stood below a page is empty after a call that lends the page anew
pub taker_cleared : (z : Sizes) (st : State) (c : Call) (t k : ℕ) → T (lends_anew z st c t) → T (below z (table_of st.board) k t)
    → table_of (step z st c).state.board k ≡ empty_slot
taker_cleared z st c t k y h =
    let e = eqb→eq (number z st c) 0 (and_r (is_taker z c t) (eqb (number z st c) 0) y) in
    rw (accepted z st c e) (cleared z st c e t k (and_l (is_taker z c t) (eqb (number z st c) 0) y) h)

-- no change keeps what stands behind a held page
nothing_moved : (z : Sizes) (f : Table) (k : ℕ) → T (held (f k)) → Kept z f f k
nothing_moved z f k h = record { was_held = h; same_link = refl; same_line = refl; same_frame = refl }

-- two changes that keep it are one
kept_twice : (z : Sizes) (f g h : Table) (k : ℕ) → Kept z f g k → Kept z g h k → Kept z f h k
kept_twice z f g h k a b = record {
  was_held = a.was_held;
  same_link = b.same_link ∙ a.same_link;
  same_line = b.same_line ∙ a.same_line;
  same_frame = b.same_frame ∙ a.same_frame;
}

-- a page that is held after a call which did not lend it anew was held before it, with the same link, line and frame
pub held_keeps_line : (z : Sizes) → 1 ≤ z.pages → (st : State) (c : Call) (k : ℕ) → T (not (lends_anew z st c k))
    → T (held (table_of (step z st c).state.board k)) → Kept z (table_of st.board) (table_of (step z st c).state.board) k
held_keeps_line z some_page st c k n h = go (ℕ_discrete (number z st c) 0)
  where
    go : Dec (number z st c ≡ 0) → Kept z (table_of st.board) (table_of (step z st c).state.board) k
    go (yes e) =
        rw (accepted z st c e)
        (accepted_kept z some_page st c e k (rw (eq-eqb (number z st c) 0 e, and_true (is_taker z c k)) at n)
        (rw (accepted z st c e) at h))
    go (no e) = rw (refused z st c e) (nothing_moved z (table_of st.board) k (rw (refused z st c e) at h))

-- ── every list of calls ──────────────────────────────────────────────────
-- a page that is held after a list of calls, of which none lent it anew, was held before it, with the same link, line and frame
pub never_another_frame : (z : Sizes) → 1 ≤ z.pages → (st : State) (cs : List Call) (k : ℕ) → T (never_anew z st cs k)
    → T (held (table_of (steps z st cs).board k)) → Kept z (table_of st.board) (table_of (steps z st cs).board) k
unfolding steps never_anew
never_another_frame z some_page st [] k n h = nothing_moved z (table_of st.board) k h
never_another_frame z some_page st (c ∷ cs) k n h =
    let now = and_l (not (lends_anew z st c k)) (never_anew z (step z st c).state cs k) n in
    let later = and_r (not (lends_anew z st c k)) (never_anew z (step z st c).state cs k) n in
    let rest = never_another_frame z some_page (step z st c).state cs k later h in
    kept_twice z (table_of st.board) (table_of (step z st c).state.board) (table_of (steps z (step z st c).state cs).board) k
    (held_keeps_line z some_page st c k now rest.was_held) rest

-- so an address that translates after such a list, hit or miss, gives the physical address that it had at the start
pub same_address : (z : Sizes) → 1 ≤ z.pages → (st : State) (cs : List Call) (space address rights : ℕ)
    → T (never_anew z st cs (page_at z space address)) → number z (steps z st cs) (Translate space address rights) ≡ 0
    → (step z (steps z st cs) (Translate space address rights)).reply.address ≡ physical z st.board space address
unfolding report physical
same_address z some_page st cs space address rights n e =
    let h = (translate_fine z (steps z st cs) space address rights e).is_held in
    let kept = never_another_frame z some_page st cs (page_at z space address) n h in
    rw (accepted z (steps z st cs) (Translate space address rights) e)
    (ap (λ (i : ℕ). page_bytes * i + address % page_bytes) kept.same_frame)
