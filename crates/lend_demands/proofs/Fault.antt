-- The customer's fault, shut out: an accepted grant leaves nothing of the giver's page and of what stood below it, and every
-- translation goes to the frame at the end of the page's line as the board now is.
use mathlib.Core.Path.{◌≡◌, refl, sym, subst, ap, ◌∙◌}
use mathlib.Core.Bool.{Bool, true, false, not, cond}
use mathlib.Core.List.{List}
use Prim.Native.Nat.{ℕ}
use lib.Dec.{T, eqb, eqb→eq, eqb_refl, T_not}
use Rattle.lend.specs.declared.Link.TheVariants.{Page}
use Rattle.lend.specs.declared.Slot.{Slot}
use Rattle.lend.specs.Sizes.{Sizes, key, space_of}
use Rattle.lend.specs.Rights.{all_rights}
use Rattle.lend.specs.Lists.{member}
use Rattle.lend.specs.Slots.{empty_slot, slot_at, held, cut}
use Rattle.lend.specs.Tables.{Tables, State, table_of}
use Rattle.lend.specs.Line.{line_of, is_on_line, meets}
use Rattle.lend.specs.Sound.{SoundPages, Sound}
use Rattle.lend.specs.Withdraw.{flushed}
use Rattle.lend.specs.Lending.{mapped}
use Rattle.lend.specs.Calls.{Call, Grant, Translate, number, step, steps, board_after}
use Rattle.lend_basics.proofs.Bools.{and_l, is_true, is_false, differ}
use Rattle.lend_basics.proofs.Lists.{any_of}
use Rattle.lend_basics.proofs.Rights.{less_all}
use Rattle.lend_sound.proofs.Lines.{space_of_key, line_self, line_step, line_apart}
use Rattle.lend_sound.proofs.SoundTest.{test_sound}
use Rattle.lend_laws.proofs.Withdraw.{rights_small, not_held, cut_zero, cut_empty}
use Rattle.lend_laws.proofs.Flush.{flushed_at}
use Rattle.lend_laws.proofs.Accepted.{accepted, tested}
use Rattle.lend_lending.proofs.Map.{Lendable}
use Rattle.lend_lending.proofs.Grant.{grant_fine, handed_on_law}
use Rattle.lend_lending.proofs.Taker.{one_sound, mapped_taker, mapped_apart, mapped_line}
use Rattle.lend_lending.proofs.Insert.{RightAnswer, translate_right}
use Rattle.lend_demands.specs.GivenAway.{GivenAway}

-- ── the grant ────────────────────────────────────────────────────────────
-- The taker (u, v) may be linked to the giver g, page p of space s, whose parent is page y of space x. It is linked to that parent, and
-- then g is flushed of every right.
module _ (z : Sizes) (b : Tables) (sound : Sound z b) (s p u v r : ℕ) (m : Lendable z b.live (table_of b) s p u v r)
    (x y : ℕ) (up : (table_of b (key z s p)).link ≡ Page x y) (n : Lendable z b.live (table_of b) x y u v r) where
  one : List Slot
  one = mapped z x y (key z u v) r b.slots

  one_is_sound : SoundPages z b.live (slot_at one)
  unfolding one
  one_is_sound = one_sound z b sound x y u v r n

  -- what each page has after the flush
  then : (k : ℕ) → slot_at (flushed z (key z s p) all_rights one) k ≡ cut (cond (is_on_line z (slot_at one) k (key z s p)) all_rights 0) (slot_at one k)
  unfolding one
  then k = flushed_at z b.live one sound.shape.live_long one_is_sound (key z s p) all_rights k

  -- a page that had the giver on its line is empty, but for the taker
  gone : (k : ℕ) → T (is_on_line z (table_of b) k (key z s p)) → T (not (eqb k (key z u v))) → slot_at (flushed z (key z s p) all_rights one) k ≡ empty_slot
  unfolding one
  gone k on other = then k ∙ go (held (slot_at one k)) refl
    where
      go : (h : Bool) → held (slot_at one k) ≡ h → cut (cond (is_on_line z (slot_at one) k (key z s p)) all_rights 0) (slot_at one k) ≡ empty_slot
      go true e =
          let l = mapped_line z b sound x y u v r n k other (rw e tt) in
          let o : T (is_on_line z (slot_at one) k (key z s p)) = subst (λ (q : List ℕ). T (member (key z s p) q)) (sym l) on in
          rw (is_true (is_on_line z (slot_at one) k (key z s p)) o, less_all (slot_at one k).rights (rights_small z b.live (slot_at one) one_is_sound k))
      go false e =
          let w : slot_at one k ≡ empty_slot = not_held z b.live (slot_at one) one_is_sound k (rw e tt) in
          ap (cut (cond (is_on_line z (slot_at one) k (key z s p)) all_rights 0)) w ∙ cut_empty (cond (is_on_line z (slot_at one) k (key z s p)) all_rights 0)

  -- no page on the giver's line is the taker: 13
  not_taker : (k : ℕ) → T (is_on_line z (table_of b) (key z s p) k) → eqb k (key z u v) ≡ false
  not_taker k on = is_false (eqb k (key z u v)) (λ e. T_not (meets z (table_of b) (key z s p) u) m.no_ring (met (eqb→eq k (key z u v) e)))
    where
      met : k ≡ key z u v → T (meets z (table_of b) (key z s p) u)
      met e =
          any_of (λ q. eqb (space_of z q) u) k (line_of z (table_of b) (key z s p)) on
          (rw (e, space_of_key z u v m.taker_page) (eqb_refl u))

  giver_self : T (is_on_line z (table_of b) (key z s p) (key z s p))
  giver_self = line_self z b.live (table_of b) sound.shape.live_long sound.pages (key z s p)

  -- the map leaves the giver as it is
  giver_same : slot_at one (key z s p) ≡ table_of b (key z s p)
  unfolding one
  giver_same =
      mapped_apart z b sound x y u v r n (key z s p)
      (λ on. let e = not_taker (key z u v) on in T_not (eqb (key z u v) (key z u v)) (rw e tt) (eqb_refl (key z u v)))

  -- so the giver is not on the taker's line, which goes on from the giver's parent
  taker_off : is_on_line z (slot_at one) (key z u v) (key z s p) ≡ false
  unfolding one
  taker_off =
      ap (λ (l : List ℕ). member (key z s p) l)
      (line_step z b.live (slot_at one) sound.shape.live_long one_is_sound (key z u v) x y (ap (λ (q : Slot). q.link) (mapped_taker z b sound x y u v r n)))
      ∙ rw (
        not_same,
        is_false (is_on_line z (slot_at one) (key z x y) (key z s p))
            (line_apart z b.live (slot_at one) sound.shape.live_long one_is_sound (key z s p) x y (ap (λ (q : Slot). q.link) giver_same ∙ up)),
      )
    where
      not_same : eqb (key z u v) (key z s p) ≡ false
      not_same = is_false (eqb (key z u v) (key z s p)) (λ e. let w = not_taker (key z s p) giver_self in T_not (eqb (key z s p) (key z u v)) (rw w tt) (rw (eqb→eq (key z u v) (key z s p) e) (eqb_refl (key z s p))))

  given_away : GivenAway z (table_of b) (slot_at (flushed z (key z s p) all_rights (mapped z x y (key z u v) r b.slots))) (key z s p) (key z u v) r
  unfolding one
  given_away = record {
    giver_empty = gone (key z s p) giver_self (rw (not_taker (key z s p) giver_self) tt);
    below_empty = λ k under other.
        gone k (and_l (is_on_line z (table_of b) k (key z s p)) (not (eqb k (key z s p))) under) (differ k (key z u v) other);
    taker_has = then (key z u v)
        ∙ (rw taker_off (cut_zero z b.live (slot_at one) one_is_sound (key z u v))
        ∙ (mapped_taker z b sound x y u v r n ∙ rw up));
  }

-- M-103: after an accepted grant the giver's page is empty, and so is every page that stood below it, but for the taker, which has the
-- giver's place with the rights that were granted
pub grant_withdraws : (z : Sizes) (st : State) (from page to at rights : ℕ) → number z st (Grant from page to at rights) ≡ 0
    → GivenAway z (table_of st.board) (table_of (step z st (Grant from page to at rights)).state.board) (key z from page) (key z to at) rights
unfolding board_after
grant_withdraws z st from page to at rights e =
    let fine = grant_fine z st from page to at rights e in
    let sound = test_sound z st.board (tested z st (Grant from page to at rights) e) in
    let a = handed_on_law z st.board sound from page to at rights fine.lendable fine.giver_out in
    rw (accepted z st (Grant from page to at rights) e, a.is)
    (given_away z st.board sound from page to at rights fine.lendable a.parent_space a.parent_page a.parent_is a.lendable)

-- after any list of calls whatever, a page that translates, hit or miss, does so to the frame at the end of its line on the board as it is
pub translates_now : (z : Sizes) (st : State) (cs : List Call) (space address rights : ℕ) → number z (steps z st cs) (Translate space address rights) ≡ 0
    → RightAnswer z (steps z st cs).board space address (step z (steps z st cs) (Translate space address rights))
translates_now z st cs space address rights e = translate_right z (steps z st cs) space address rights e
