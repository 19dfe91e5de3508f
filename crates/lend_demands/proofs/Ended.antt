-- Boards whose pages have lost rights: one call, two losses after each other, losses judged before and after.
use mathlib.Core.Path.{◌≡◌, refl, sym, subst, ap, ◌∙◌, fun_ext}
use mathlib.Core.Bool.{Bool, true, false, not, ◌&&◌, ◌||◌, cond}
use mathlib.Core.List.{List, [], ◌∷◌}
use Prim.Native.Nat.{ℕ, ◌<◌}
use native.Mathlib.Decide.{ℕ_discrete}
use lib.Dec.{T, eqb, eqb→eq}
use lib.ListN.{length}
use lib.Seq.{ext_get_or}
use borrow.Author.Tests.{eq-eqb, ne_eqb}
use Rattle.lend.specs.declared.Place.{Place}
use Rattle.lend.specs.declared.Slot.{Slot}
use Rattle.lend.specs.Sizes.{Sizes}
use Rattle.lend.specs.Rights.{less, within}
use Rattle.lend.specs.Slots.{Table, empty_slot, slot_at, cut, each_slot}
use Rattle.lend.specs.Tables.{Tables, alone, table_of}
use Rattle.lend.specs.Line.{is_on_line, below}
use Rattle.lend.specs.Summary.{summary_of}
use Rattle.lend.specs.Cache.{empty_place, page_named, dropped_where, lost_right}
use Rattle.lend.specs.Sound.{SoundPages, Sound}
use Rattle.lend.specs.SoundTest.{sound_test}
use Rattle.lend.specs.Calls.{Unmap, Flush, number, cases, with_slots, no_taker}
use Rattle.lend_basics.proofs.Bools.{same_test, is_true, or_false}
use Rattle.lend_basics.proofs.Rights.{join, less_lt, less_zero, less_less, less_whole, less_within, within_refl, within_antisym}
use Rattle.lend_sound.proofs.Lines.{line_self}
use Rattle.lend_sound.proofs.SoundTest.{sound_test_law}
use Rattle.lend_laws.proofs.Withdraw.{withdraw, rights_small, cut_zero, cut_empty, cut_cut}
use Rattle.lend_laws.proofs.Flush.{each_at, length_each}
use Rattle.lend_demands.specs.Demand3.{loses_some, less_board}

-- ── two losses of one page ───────────────────────────────────────────────
-- a right is lost exactly when the rights change
lost_changed : (r d : ℕ) → r < 8 → d < 8 → not (within r (less r d)) ≡ not (eqb (less r d) r)
lost_changed r d hr hd = ap not (same_test (within r (less r d)) (eqb (less r d) r)
    (λ w. rw (eq-eqb (less r d) r (sym (less_whole r d hr hd w))) tt)
    (λ e. subst (λ (x : ℕ). T (within r x)) (sym (eqb→eq (less r d) r e)) (within_refl r hr)))

-- rights that came back whole after two losses were whole between them
between : (r d e : ℕ) → r < 8 → d < 8 → e < 8 → less (less r d) e ≡ r → less r d ≡ r
between r d e hr hd he q =
    within_antisym (less r d) r (less_lt r d hr hd) hr (less_within r d hr hd)
    (subst (λ (x : ℕ). T (within x (less r d))) q (less_within (less r d) e (less_lt r d hr hd) he))

-- so the two together lose a right exactly when one of them does
either : (r d e : ℕ) → r < 8 → d < 8 → e < 8
    → not (eqb (less r (join d e)) r) ≡ (not (eqb (less r d) r) || not (eqb (less (less r d) e) (less r d)))
either r d e hr hd he = ap (λ (x : ℕ). not (eqb x r)) (sym (less_less r d e hr hd he)) ∙ go (ℕ_discrete (less r d) r)
  where
    go : Dec (less r d ≡ r) → not (eqb (less (less r d) e) r) ≡ (not (eqb (less r d) r) || not (eqb (less (less r d) e) (less r d)))
    go (yes q) = rw (eq-eqb (less r d) r q) (ap (λ (x : ℕ). not (eqb (less (less r d) e) x)) (sym q))
    go (no q) = rw (ne_eqb (less r d) r q, ne_eqb (less (less r d) e) r (λ x. q (between r d e hr hd he x)))

-- ── drops ────────────────────────────────────────────────────────────────
cond_same : (b : Bool) → cond b empty_place empty_place ≡ empty_place
cond_same true = refl
cond_same false = refl

drops_twice : (z : Sizes) (t u v : ℕ → Bool) → ((k : ℕ) → v k ≡ (t k || u k)) → (c : List Place) → dropped_where z u (dropped_where z t c) ≡ dropped_where z v c
drops_twice z t u v h [] = refl
drops_twice z t u v h (q ∷ c) =
    ap {B = List Place} (λ x. x ∷ dropped_where z u (dropped_where z t c)) (go (t (page_named z q)) refl)
    ∙ ap {B = List Place} (λ x. cond (v (page_named z q)) empty_place q ∷ x) (drops_twice z t u v h c)
  where
    go : (b : Bool) → t (page_named z q) ≡ b
        → cond (u (page_named z (cond (t (page_named z q)) empty_place q))) empty_place (cond (t (page_named z q)) empty_place q) ≡ cond (v (page_named z q)) empty_place q
    go true e = rw (h (page_named z q), e) (cond_same (u (page_named z empty_place)))
    go false e = rw (h (page_named z q), e)

drops_none : (z : Sizes) (t : ℕ → Bool) → ((k : ℕ) → t k ≡ false) → (c : List Place) → c ≡ dropped_where z t c
drops_none z t h [] = refl
drops_none z t h (q ∷ c) = rw (h (page_named z q)) (ap {B = List Place} (λ x. q ∷ x) (drops_none z t h c))

drops_same : (z : Sizes) (t u : ℕ → Bool) → ((k : ℕ) → t k ≡ u k) → (c : List Place) → dropped_where z t c ≡ dropped_where z u c
drops_same z t u h c = ap (λ (x : ℕ → Bool). dropped_where z x c) (fun_ext h)

-- ── the board after losses ───────────────────────────────────────────────
less_at_law : (z : Sizes) (b : Tables) (d : ℕ → ℕ) (k : ℕ) → table_of (less_board z b d) k ≡ cut (d k) (table_of b k)
unfolding less_board
less_at_law z b d k = each_at (λ k s. cut (d k) s) (λ k. cut_empty (d k)) b.slots k

pub less_is : (z : Sizes) (b : Tables) (d : ℕ → ℕ) → table_of (less_board z b d) ≡ withdraw d (table_of b)
less_is z b d = fun_ext (less_at_law z b d)

-- two amounts that leave the same of every page leave the same board
pub less_same : (z : Sizes) (b : Tables) (d e : ℕ → ℕ) → ((k : ℕ) → cut (d k) (table_of b k) ≡ cut (e k) (table_of b k)) → less_board z b d ≡ less_board z b e
unfolding less_board
less_same z b d e h = λ i. record {
  slots = slots i;
  live = b.live;
  places = drops_same z (loses_some (table_of b) d) (loses_some (table_of b) e) (λ k. ap (λ (s : Slot). not (eqb s.rights (table_of b k).rights)) (h k)) b.places i;
  next = b.next;
  summary = summary_of z (slot_at (slots i));
}
  where
    slots : each_slot (λ k s. cut (d k) s) b.slots ≡ each_slot (λ k s. cut (e k) s) b.slots
    slots = ext_get_or empty_slot (each_slot (λ k s. cut (d k) s) b.slots) (each_slot (λ k s. cut (e k) s) b.slots)
        (length_each (λ k s. cut (d k) s) b.slots ∙ sym (length_each (λ k s. cut (e k) s) b.slots))
        (λ k l. each_at (λ k s. cut (d k) s) (λ k. cut_empty (d k)) b.slots k ∙ (h k ∙ sym (each_at (λ k s. cut (e k) s) (λ k. cut_empty (e k)) b.slots k)))

-- one loss after another is the two of them joined
pub less_twice : (z : Sizes) (b : Tables) → Sound z b → (d e : ℕ → ℕ) → ((k : ℕ) → d k < 8) → ((k : ℕ) → e k < 8)
    → less_board z (less_board z b d) e ≡ less_board z b (λ k. join (d k) (e k))
unfolding less_board
less_twice z b sound d e hd he = λ i. record {
  slots = slots i;
  live = b.live;
  places = drops_twice z (loses_some f d) (loses_some (slot_at one) e) (loses_some f (λ k. join (d k) (e k))) parts b.places i;
  next = b.next;
  summary = summary_of z (slot_at (slots i));
}
  where
    f : Table
    f = table_of b

    one : List Slot
    one = each_slot (λ k s. cut (d k) s) b.slots

    small : (k : ℕ) → (f k).rights < 8
    small k = rights_small z b.live f sound.pages k

    at_one : (k : ℕ) → slot_at one k ≡ cut (d k) (f k)
    at_one k = each_at (λ k s. cut (d k) s) (λ k. cut_empty (d k)) b.slots k

    parts : (k : ℕ) → loses_some f (λ k. join (d k) (e k)) k ≡ (loses_some f d k || loses_some (slot_at one) e k)
    parts k = either (f k).rights (d k) (e k) (small k) (hd k) (he k)
        ∙ ap (λ (r : ℕ). loses_some f d k || not (eqb (less r (e k)) r)) (sym (ap (λ (s : Slot). s.rights) (at_one k)))

    slots : each_slot (λ k s. cut (e k) s) one ≡ each_slot (λ k s. cut (join (d k) (e k)) s) b.slots
    slots = ext_get_or empty_slot (each_slot (λ k s. cut (e k) s) one) (each_slot (λ k s. cut (join (d k) (e k)) s) b.slots)
        (length_each (λ k s. cut (e k) s) one ∙ (length_each (λ k s. cut (d k) s) b.slots ∙ sym (length_each (λ k s. cut (join (d k) (e k)) s) b.slots)))
        (λ k l. each_at (λ k s. cut (e k) s) (λ k. cut_empty (e k)) one k
        ∙ (ap (cut (e k)) (at_one k) ∙ (cut_cut (f k) (d k) (e k) (small k) (hd k) (he k)
        ∙ sym (each_at (λ k s. cut (join (d k) (e k)) s) (λ k. cut_empty (join (d k) (e k))) b.slots k))))

-- no loss at all
pub less_nothing : (z : Sizes) (b : Tables) → Sound z b → b ≡ less_board z b (λ k. 0)
unfolding less_board
less_nothing z b sound = λ i. record {
  slots = slots i;
  live = b.live;
  places = drops_none z (loses_some (table_of b) (λ k. 0)) (λ k. rw (eq-eqb (less (table_of b k).rights 0) (table_of b k).rights (less_zero (table_of b k).rights (rights_small z b.live (table_of b) sound.pages k)))) b.places i;
  next = b.next;
  summary = (sound.summary ∙ ap (λ (n : List Slot). summary_of z (slot_at n)) slots) i;
}
  where
    slots : b.slots ≡ each_slot (λ k s. cut 0 s) b.slots
    slots = ext_get_or empty_slot b.slots (each_slot (λ k s. cut 0 s) b.slots) (sym (length_each (λ k s. cut 0 s) b.slots))
        (λ k l. sym (each_at (λ k s. cut 0 s) (λ k. cut_empty 0) b.slots k ∙ cut_zero z b.live (table_of b) sound.pages k))

-- new slots that are what is left when each page loses d
pub slots_less : (z : Sizes) (b : Tables) → Sound z b → (d : ℕ → ℕ) → ((k : ℕ) → d k < 8) → (new : List Slot) → length new ≡ length b.slots
    → ((k : ℕ) → slot_at new k ≡ cut (d k) (table_of b k)) → with_slots z b new no_taker ≡ less_board z b d
unfolding less_board lost_right
slots_less z b sound d hd new long is = λ i. record {
  slots = slots i;
  live = b.live;
  places = drops_same z (λ k. lost_right (table_of b) (slot_at new) k || no_taker k) (loses_some (table_of b) d) tests b.places i;
  next = b.next;
  summary = summary_of z (slot_at (slots i));
}
  where
    tests : (k : ℕ) → (lost_right (table_of b) (slot_at new) k || no_taker k) ≡ loses_some (table_of b) d k
    tests k = or_false (lost_right (table_of b) (slot_at new) k)
        ∙ (ap (λ (s : Slot). not (within (table_of b k).rights s.rights)) (is k)
        ∙ lost_changed (table_of b k).rights (d k) (rights_small z b.live (table_of b) sound.pages k) (hd k))

    slots : new ≡ each_slot (λ k s. cut (d k) s) b.slots
    slots = ext_get_or empty_slot new (each_slot (λ k s. cut (d k) s) b.slots) (long ∙ sym (length_each (λ k s. cut (d k) s) b.slots))
        (λ k l. is k ∙ sym (each_at (λ k s. cut (d k) s) (λ k. cut_empty (d k)) b.slots k))

-- ── the page itself or a page below it ───────────────────────────────────
-- y is on the line of k exactly when k is below y or is y
pub on_or_below : (z : Sizes) (live : List Bool) (f : Table) → length live ≡ z.spaces → SoundPages z live f → (k y : ℕ) → (below z f k y || eqb k y) ≡ is_on_line z f k y
on_or_below z live f len sound k y = go (ℕ_discrete k y)
  where
    step_true : (a : Bool) → ((a && false) || true) ≡ true
    step_true true = refl
    step_true false = refl

    step_false : (a : Bool) → ((a && true) || false) ≡ a
    step_false true = refl
    step_false false = refl

    go : Dec (k ≡ y) → (below z f k y || eqb k y) ≡ is_on_line z f k y
    go (yes e) = rw (eq-eqb k y e) (step_true (is_on_line z f k y) ∙ sym (is_true (is_on_line z f k y) (subst (λ (q : ℕ). T (is_on_line z f k q)) e (line_self z live f len sound k))))
    go (no e) = rw (ne_eqb k y e) (step_false (is_on_line z f k y))

-- ── the number of an unmap or a flush ────────────────────────────────────
-- it is settled by the live spaces, as long as the boards are sound
pub same_number : (z : Sizes) (b c : Tables) → Sound z b → Sound z c → b.live ≡ c.live → (s p d : ℕ)
    → (number z (alone b) (Unmap s p d) ≡ number z (alone c) (Unmap s p d)) × (number z (alone b) (Flush s p d) ≡ number z (alone c) (Flush s p d))
unfolding number cases
same_number z b c sb sc e s p d =
    (rw (is_true (sound_test z b) (sound_test_law z b sb), is_true (sound_test z c) (sound_test_law z c sc), e), rw (is_true (sound_test z b) (sound_test_law z b sb), is_true (sound_test z c) (sound_test_law z c sc), e))
