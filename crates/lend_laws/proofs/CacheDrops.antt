-- The cache when places are dropped: those that stay still name their pages.
use mathlib.Core.Path.{◌≡◌, refl, sym, ap, ◌∙◌}
use mathlib.Core.Bool.{Bool, true, false, not, ◌||◌, cond}
use mathlib.Core.List.{List, [], ◌∷◌}
use Prim.Native.Nat.{ℕ, zero, suc, ◌≤◌}
use lib.Dec.{T}
use lib.ListN.{length}
use Rattle.lend.specs.declared.Place.{Place}
use Rattle.lend.specs.Sizes.{Sizes}
use Rattle.lend.specs.Rights.{within}
use Rattle.lend.specs.Slots.{Table, held}
use Rattle.lend.specs.Cache.{empty_place, filled, page_named, place_at, dropped_where, lost_right}
use Rattle.lend.specs.Sound.{SoundPages, Names, SoundCache}
use Rattle.lend.specs.Calls.{no_taker}
use Rattle.lend_basics.proofs.Bools.{not_not, not_or}
use Rattle.lend_basics.proofs.Rights.{less_whole}
use Rattle.lend_laws.proofs.Withdraw.{withdraw, Closed, withdraw_sound, frame_of_kept, rights_small, held_pos, pos_held}

-- ── places dropped by a test ─────────────────────────────────────────────
-- place i is emptied when its page passes the test, and else stays
pub at_dropped : (z : Sizes) (t : ℕ → Bool) (c : List Place) (i : ℕ)
    → place_at (dropped_where z t c) i ≡ cond (t (page_named z (place_at c i))) empty_place (place_at c i)
at_dropped z t [] i = go (t (page_named z empty_place))
  where
    go : (b : Bool) → empty_place ≡ cond b empty_place empty_place
    go true = refl
    go false = refl
at_dropped z t (q ∷ c) zero = refl
at_dropped z t (q ∷ c) (suc i) = at_dropped z t c i

-- the cache keeps its length
pub length_dropped : (z : Sizes) (t : ℕ → Bool) (c : List Place) → length (dropped_where z t c) ≡ length c
length_dropped z t [] = refl
length_dropped z t (q ∷ c) = ap suc (length_dropped z t c)

-- place i is as it was: filled, and its page failed the test
pub record Stays (z : Sizes) (t : ℕ → Bool) (c : List Place) (i : ℕ) : Type 0 where
  pub same : place_at (dropped_where z t c) i ≡ place_at c i
  pub was_filled : T (filled (place_at c i))
  pub not_dropped : T (not (t (page_named z (place_at c i))))

-- every place that is filled after the drop is such a one
pub stays : (z : Sizes) (t : ℕ → Bool) (c : List Place) (i : ℕ) → T (filled (place_at (dropped_where z t c) i)) → Stays z t c i
stays z t c i h = go (t (page_named z (place_at c i))) refl
  where
    go : (b : Bool) → t (page_named z (place_at c i)) ≡ b → Stays z t c i
    go true e = absurd (rw (at_dropped z t c i, e) at h)
    go false e =
        let q : place_at (dropped_where z t c) i ≡ place_at c i = at_dropped z t c i ∙ rw e in
        record { same = q; was_filled = rw q at h; not_dropped = rw e tt }

-- the table becomes another, and each place that is not dropped still names its page: the cache stays sound
pub drops_sound : (z : Sizes) (f g : Table) (t : ℕ → Bool) (c : List Place) (next : ℕ)
    → ((q : Place) → Names z f q → T (not (t (page_named z q))) → Names z g q) → SoundCache z f c next
    → SoundCache z g (dropped_where z t c) next
drops_sound z f g t c next keeps sound = record {
  filled_names = λ i h.
      let r = stays z t c i h in
      rw r.same (keeps (place_at c i) (sound.filled_names i r.was_filled) r.not_dropped);
  one_each = λ i j hi hj e.
      let ri = stays z t c i hi in
      let rj = stays z t c j hj in
      sound.one_each i j ri.was_filled rj.was_filled (rw (ri.same, rj.same) at e);
  empty_form = λ i. rw (at_dropped z t c i) (empty_form i (t (page_named z (place_at c i))));
  next_in = sound.next_in;
}
  where
    empty_form : (i : ℕ) (b : Bool) → T (not (filled (cond b empty_place (place_at c i)))) → cond b empty_place (place_at c i) ≡ empty_place
    empty_form i true h = refl
    empty_form i false h = sound.empty_form i h

-- ── after a withdrawal ───────────────────────────────────────────────────
-- a page has lost no right when each one is still there
pub none_lost : (f g : Table) (k : ℕ) → T (not (lost_right f g k)) → T (within (f k).rights (g k).rights)
unfolding lost_right
none_lost f g k h = not_not (within (f k).rights (g k).rights) h

module _ (z : Sizes) (live : List Bool) (f : Table) (sound : SoundPages z live f) (a : ℕ → ℕ) (closed : Closed z f a) where
  -- a page that lost no right has all its rights
  rights_kept : (k : ℕ) → T (not (lost_right f (withdraw a f) k)) → (f k).rights ≡ (withdraw a f k).rights
  rights_kept k h =
      less_whole (f k).rights (a k) (rights_small z live f sound k) (closed.small k) (none_lost f (withdraw a f) k h)

  -- a held page that lost no right is still held
  pub still_held : (k : ℕ) → T (held (f k)) → T (not (lost_right f (withdraw a f) k)) → T (held (withdraw a f k))
  still_held k t h =
      let p : 1 ≤ (f k).rights = held_pos z live f sound k t in
      pos_held z live (withdraw a f) (withdraw_sound z live f sound a closed) k (rw (← (rights_kept k h)) p)

  -- a place whose page lost no right still names it
  pub names_kept : (q : Place) → Names z f q → T (not (lost_right f (withdraw a f) (page_named z q))) → Names z (withdraw a f) q
  names_kept q n h =
      let still : T (held (withdraw a f (page_named z q))) = still_held (page_named z q) n.is_held h in
      record {
        space_in = n.space_in;
        page_in = n.page_in;
        is_held = still;
        its_frame = n.its_frame ∙ sym (frame_of_kept z live f sound a closed (page_named z q) still);
        its_rights = n.its_rights ∙ rights_kept (page_named z q) h;
      }

  -- a withdrawal that drops the entries of the pages that lose a right keeps the cache sound
  pub withdraw_cache : (c : List Place) (next : ℕ) → SoundCache z f c next
      → SoundCache z (withdraw a f) (dropped_where z (λ k. lost_right f (withdraw a f) k || no_taker k) c) next
  withdraw_cache c next =
      drops_sound z f (withdraw a f) (λ k. lost_right f (withdraw a f) k || no_taker k) c next
      (λ q n h. names_kept q n (not_or (lost_right f (withdraw a f) (page_named z q)) false h).0)
