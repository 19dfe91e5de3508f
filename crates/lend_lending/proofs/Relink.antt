-- An empty page is linked to a held one: what map and grant do to the taker's page once it was flushed.
use mathlib.Core.Path.{◌≡◌, refl, sym, ap, ◌∙◌}
use mathlib.Core.Bool.{Bool, not, cond}
use mathlib.Core.List.{List, ◌∷◌, map}
use Prim.Native.Nat.{ℕ, ◌≤◌, ◌<◌}
use native.Mathlib.Decide.{ℕ_discrete}
use native.Mathlib.Omega.{arith}
use lib.Dec.{T, eqb, T_not}
use lib.ListN.{length}
use borrow.Author.Tests.{eq-eqb, ne_eqb}
use Rattle.lend.specs.declared.Link.TheVariants.{Nothing, Frame, Page}
use Rattle.lend.specs.declared.Slot.{Slot}
use Rattle.lend.specs.declared.Place.{Place}
use Rattle.lend.specs.Sizes.{Sizes, key, space_of, in_pool}
use Rattle.lend.specs.Rights.{all_rights, within}
use Rattle.lend.specs.Lists.{any, member, distinct}
use Rattle.lend.specs.Slots.{Table, empty_slot, lent_slot, held}
use Rattle.lend.specs.Tables.{alive}
use Rattle.lend.specs.Line.{Line, climbs, line_of, meets, frame}
use Rattle.lend.specs.Cache.{page_named}
use Rattle.lend.specs.Sound.{Lent, Rooted, SoundPages, Names}
use Rattle.lend_basics.proofs.Bools.{and_i, or_r}
use Rattle.lend_basics.proofs.Lists.{any_map}
use Rattle.lend_sound.proofs.Lines.{is_line_same, frame_same, the_line, line_reaches, line_once}

-- page t gets the slot x, the others keep theirs
abbrev pub relink : ℕ → Slot → Table → Table
relink t x f = λ k. cond (eqb k t) x (f k)

-- page t has the new slot
pub relink_same : (t : ℕ) (x : Slot) (f : Table) → relink t x f t ≡ x
relink_same t x f = rw (eq-eqb t t refl)

-- every other page has its old one
pub relink_other : (t : ℕ) (x : Slot) (f : Table) (k : ℕ) → (k ≡ t → ⊥) → relink t x f k ≡ f k
relink_other t x f k h = rw (ne_eqb k t h)

-- ── held pages do not notice ─────────────────────────────────────────────
module _ (z : Sizes) (live : List Bool) (f : Table) (len : length live ≡ z.spaces) (sound : SoundPages z live f) (t : ℕ) (x : Slot) (gone : f t ≡ empty_slot) where
  -- a page that was held keeps its slot
  pub held_same : (k : ℕ) → T (held (f k)) → relink t x f k ≡ f k
  held_same k h = relink_other t x f k (λ e. let n : T (held empty_slot) = rw (e, gone) at h in n)

  held_link : (k : ℕ) → T (held (f k)) → (relink t x f k).link ≡ (f k).link
  held_link k h = ap (λ (y : Slot). y.link) (held_same k h)

  held_up : (k s p : ℕ) → (f k).link ≡ Page s p → T (held (f k)) → T (held (f (key z s p)))
  held_up k s p e h = (sound.lent k s p e).parent_held

  -- and its line
  held_line_law : {k : ℕ} {l : List ℕ} → Line z f k l → T (held (f k)) → Line z (relink t x f) k l
  held_line_law = is_line_same z f (relink t x f) (λ k. T (held (f k))) held_link held_up

  -- and its frame
  pub held_frame : (n k : ℕ) → T (held (f k)) → frame z (relink t x f) n k ≡ frame z f n k
  held_frame = frame_same z f (relink t x f) (λ k. T (held (f k))) held_link held_up

  -- so a place of the cache still names its page
  pub held_names : (q : Place) → Names z f q → Names z (relink t x f) q
  held_names q n = record {
    space_in = n.space_in;
    page_in = n.page_in;
    is_held = rw (held_same (page_named z q) n.is_held) n.is_held;
    its_frame = n.its_frame ∙ sym (held_frame z.spaces (page_named z q) n.is_held);
    its_rights = n.its_rights ∙ ap (λ (y : Slot). y.rights) (sym (held_same (page_named z q) n.is_held));
  }

-- ── the link ─────────────────────────────────────────────────────────────
-- what it takes to link the empty page t to page p of space s with the rights r
pub record Linkable (z : Sizes) (live : List Bool) (f : Table) (t s p r : ℕ) : Type 0 where
  pub taker_empty : f t ≡ empty_slot
  pub taker_out : z.pages ≤ t
  pub taker_live : T (alive live (space_of z t))
  pub space_in : s < z.spaces
  pub page_in : p < z.pages
  pub space_live : T (alive live s)
  pub giver_held : T (held (f (key z s p)))
  pub some_right : 1 ≤ r
  pub known_rights : r ≤ all_rights
  pub contained : T (within r (f (key z s p)).rights)
  pub no_ring : T (not (meets z f (key z s p) (space_of z t)))

module _ (z : Sizes) (live : List Bool) (f : Table) (len : length live ≡ z.spaces) (sound : SoundPages z live f) (t s p r : ℕ) (c : Linkable z live f t s p r) where
  after : Table
  after = relink t (lent_slot s p r) f

  same : after t ≡ lent_slot s p r
  unfolding after
  same = relink_same t (lent_slot s p r) f

  other : (k : ℕ) → (k ≡ t → ⊥) → after k ≡ f k
  unfolding after
  other k h = relink_other t (lent_slot s p r) f k h

  was : (k : ℕ) → T (held (f k)) → after k ≡ f k
  unfolding after
  was k h = held_same z live f len sound t (lent_slot s p r) c.taker_empty k h

  was_line : {k : ℕ} {l : List ℕ} → Line z f k l → T (held (f k)) → Line z after k l
  unfolding after
  was_line a h = held_line_law z live f len sound t (lent_slot s p r) c.taker_empty a h

  taker_line : Line z after t (t ∷ line_of z f (key z s p))
  taker_line = climbs {k = t} {q = key z s p} (rw same) (was_line (the_line z live f len sound (key z s p)) c.giver_held)

  taker_rooted : Rooted z after t
  taker_rooted = record {
    pages = t ∷ line_of z f (key z s p);
    is_line = taker_line;
    reaches = or_r (in_pool z t) (any (in_pool z) (line_of z f (key z s p))) (line_reaches z live f len sound (key z s p) c.giver_held);
    once = and_i (not (member (space_of z t) (map (space_of z) (line_of z f (key z s p))))) (distinct (map (space_of z) (line_of z f (key z s p))))
        (rw (any_map (space_of z) (λ y. eqb y (space_of z t)) (line_of z f (key z s p))) c.no_ring)
        (line_once z live f len sound (key z s p) c.giver_held);
  }

  taker_lent : Lent z live after t s p
  taker_lent = record {
    space_in = c.space_in;
    page_in = c.page_in;
    space_live = c.space_live;
    parent_held = rw (was (key z s p) c.giver_held) c.giver_held;
    some_right = rw same c.some_right;
    known_rights = rw same c.known_rights;
    contained = rw (same, was (key z s p) c.giver_held) c.contained;
  }

  -- the link keeps a sound table sound
  pub relink_sound : SoundPages z live (relink t (lent_slot s p r) f)
  unfolding after
  relink_sound = record {
    pool_live = sound.pool_live;
    first_live = sound.first_live;
    pool = λ k h. other k (λ e. omega (arith, c.taker_out)) ∙ sound.pool k h;
    no_frame = λ k i h. no_frame k i h (ℕ_discrete k t);
    not_live = λ k h. not_live k h (ℕ_discrete k t);
    no_link = λ k. no_link k (ℕ_discrete k t);
    lent = λ k u v e. lent k u v e (ℕ_discrete k t);
    rooted = λ k h. rooted k h (ℕ_discrete k t);
  }
    where
      no_frame : (k i : ℕ) → z.pages ≤ k → Dec (k ≡ t) → (after k).link ≡ Frame i → ⊥
      no_frame k i h (yes q) e = let n : Page s p ≡ Frame i = rw (q, same) at e in let x : ◌≡◌ {A = ℕ} 0 1 = cc in omega arith
      no_frame k i h (no q) e = sound.no_frame k i h (rw (other k q) at e)

      not_live : (k : ℕ) → T (not (alive live (space_of z k))) → Dec (k ≡ t) → after k ≡ empty_slot
      not_live k h (yes q) = absurd (T_not (alive live (space_of z k)) h (rw q c.taker_live))
      not_live k h (no q) = other k q ∙ sound.not_live k h

      no_link : (k : ℕ) → Dec (k ≡ t) → (after k).link ≡ Nothing → (after k).rights ≡ 0
      no_link k (yes q) e = let n : Page s p ≡ Nothing = rw (q, same) at e in let x : ◌≡◌ {A = ℕ} 0 1 = cc in absurd (omega arith)
      no_link k (no q) e = rw (other k q) (sound.no_link k (rw (other k q) at e))

      lent : (k u v : ℕ) → (after k).link ≡ Page u v → Dec (k ≡ t) → Lent z live after k u v
      lent k u v e (yes q) =
          let n : Page s p ≡ Page u v = rw (q, same) at e in
          let es : s ≡ u = cc in
          let ep : p ≡ v = cc in
          rw (q, ← es, ← ep) taker_lent
      lent k u v e (no q) =
          let x = sound.lent k u v (rw (other k q) at e) in
          record {
            space_in = x.space_in;
            page_in = x.page_in;
            space_live = x.space_live;
            parent_held = rw (was (key z u v) x.parent_held) x.parent_held;
            some_right = rw (other k q) x.some_right;
            known_rights = rw (other k q) x.known_rights;
            contained = rw (other k q, was (key z u v) x.parent_held) x.contained;
          }

      rooted : (k : ℕ) → T (held (after k)) → Dec (k ≡ t) → Rooted z after k
      rooted k h (yes q) = rw q taker_rooted
      rooted k h (no q) =
          let h' : T (held (f k)) = rw (other k q) at h in
          let r = sound.rooted k h' in
          record { pages = r.pages; is_line = was_line r.is_line h'; reaches = r.reaches; once = r.once }
