-- grant: what an accepted one has shown, and that it keeps a sound board sound.
use mathlib.Core.Path.{◌≡◌, refl, sym, subst, ◌∙◌}
use mathlib.Core.Bool.{Bool, not, ◌||◌, cond}
use mathlib.Core.List.{List}
use Prim.Native.Nat.{ℕ, ◌≤◌, ◌<◌}
use native.Mathlib.Omega.{arith}
use lib.Dec.{T, eqb}
use lib.ListN.{length}
use Rattle.lend.specs.declared.Link.{Link}
use Rattle.lend.specs.declared.Link.TheVariants.{Nothing, Frame, Page}
use Rattle.lend.specs.declared.Slot.{Slot}
use Rattle.lend.specs.declared.Place.{Place}
use Rattle.lend.specs.Sizes.{Sizes, slot_count, key, space_of}
use Rattle.lend.specs.Rights.{less, within}
use Rattle.lend.specs.Slots.{Table, held, linked, slot_at}
use Rattle.lend.specs.Tables.{Tables, State, table_of}
use Rattle.lend.specs.Line.{is_on_line, meets}
use Rattle.lend.specs.Cache.{page_named}
use Rattle.lend.specs.Sound.{Lent, SoundPages, Names, Sound}
use Rattle.lend.specs.Withdraw.{flushed}
use Rattle.lend.specs.Lending.{mapped, giver_loses, granted_by, granted, grant_source}
use Rattle.lend.specs.Numbers.{source_below_taker, taker_below_source}
use Rattle.lend.specs.Calls.{Grant, cases, number, with_slots, board_after}
use Rattle.lend_basics.proofs.Bools.{not_or, positive}
use Rattle.lend_basics.proofs.Rights.{less_lt, less_within, within_trans}
use Rattle.lend_sound.proofs.Lines.{line_step}
use Rattle.lend_laws.proofs.Withdraw.{rights_small, withdraw, Closed}
use Rattle.lend_laws.proofs.CacheDrops.{names_kept}
use Rattle.lend_laws.proofs.Flush.{length_flushed, flush_closed, flushed_is, flushed_sound}
use Rattle.lend_laws.proofs.Spaces.{out_of_pool}
use Rattle.lend_laws.proofs.Accepted.{no_case}
use Rattle.lend_lending.proofs.Map.{Lendable, lending_fine, whole_kept, taken_sound, length_mapped, amount, amount_closed, mapped_other, mapped_sound, mapped_names}

-- ── what an accepted grant has shown ─────────────────────────────────────
-- the giver, which is not in space 0, could be the parent; 14 and 15 speak of its parent
pub record GrantFine (z : Sizes) (b : Tables) (s p u v r : ℕ) : Type 0 where
  pub lendable : Lendable z b.live (table_of b) s p u v r
  pub giver_out : 1 ≤ s
  pub source_apart : T (not (source_below_taker z (table_of b) (grant_source z (table_of b (key z s p)).link (key z s p)) (key z u v)))
  pub taker_apart : T (not (taker_below_source z (table_of b) (grant_source z (table_of b (key z s p)).link (key z s p)) (key z u v)))

-- what an accepted grant has shown
pub grant_fine : (z : Sizes) (st : State) (s p u v r : ℕ) → number z st (Grant s p u v r) ≡ 0 → GrantFine z st.board s p u v r
unfolding cases
grant_fine z st s p u v r e =
    let n = no_case z st (Grant s p u v r) tt e in
    let o = not_or (eqb u 0) (eqb s 0) n.1.1.1.1.0 in
    record {
      lendable = lending_fine z st.board s p u v r (eqb u 0 || eqb s 0)
          (grant_source z (table_of st.board (key z s p)).link (key z s p)) n (positive u o.0);
      giver_out = positive s o.1;
      source_apart = n.1.1.1.1.1.1.1.1.0;
      taker_apart = n.1.1.1.1.1.1.1.1.1.0;
    }

-- ── the giver's parent ───────────────────────────────────────────────────
-- a held page outside space 0 was lent by a page
pub lent_by : (z : Sizes) (live : List Bool) (f : Table) → SoundPages z live f → (k : ℕ) → z.pages ≤ k → T (held (f k))
    → (s : ℕ) × (p : ℕ) × ((f k).link ≡ Page s p)
lent_by z live f sound k out h = go (f k).link refl h
  where
    go : (l : Link) → (f k).link ≡ l → T (linked l) → (s : ℕ) × (p : ℕ) × ((f k).link ≡ Page s p)
    go Nothing e t = absurd t
    go (Frame i) e t = absurd (sound.no_frame k i out e)
    go (Page s p) e t = (s, p, e)

-- where a page may be linked to the giver, it may be linked to the giver's parent
pub parent_lendable : (z : Sizes) (live : List Bool) (f : Table) → length live ≡ z.spaces → SoundPages z live f
    → (s p u v r : ℕ) → Lendable z live f s p u v r → (x y : ℕ) → (f (key z s p)).link ≡ Page x y → Lendable z live f x y u v r
parent_lendable z live f len sound s p u v r m x y e = record {
  giver_space = c.space_in;
  taker_space = m.taker_space;
  giver_live = c.space_live;
  taker_live = m.taker_live;
  giver_page = c.page_in;
  taker_page = m.taker_page;
  some_right = m.some_right;
  known_rights = m.known_rights;
  taker_out = m.taker_out;
  giver_held = c.parent_held;
  contained = within_trans r (f (key z s p)).rights (f (key z x y)).rights (omega (arith, m.known_rights))
      (rights_small z live f sound (key z s p)) (rights_small z live f sound (key z x y)) m.contained c.contained;
  no_ring = (not_or (eqb (space_of z (key z s p)) u) (meets z f (key z x y) u) above).1;
}
  where
    c : Lent z live f (key z s p) x y
    c = sound.lent (key z s p) x y e

    above : T (not (eqb (space_of z (key z s p)) u || meets z f (key z x y) u))
    above = rw (line_step z live f len sound (key z s p) x y e) at m.no_ring

-- ── a flush after a map ──────────────────────────────────────────────────
-- the rights that a grant takes from its giver are rights
pub giver_loses_small : (r : ℕ) → r < 8 → giver_loses r < 8
giver_loses_small r h = omega arith

module _ (z : Sizes) (live : List Bool) (b : List Slot) (len : length live ≡ z.spaces) (long : length b ≡ slot_count z) (sound : SoundPages z live (slot_at b))
    (s p u v r : ℕ) (m : Lendable z live (slot_at b) s p u v r) (g d : ℕ) (out : z.pages ≤ g) (small : d < 8) where
  one : List Slot
  one = mapped z s p (key z u v) r b

  one_sound : SoundPages z live (slot_at one)
  unfolding one
  one_sound = mapped_sound z live b len long sound s p u v r m

  loss : ℕ → ℕ
  loss k = cond (is_on_line z (slot_at one) k g) d 0

  loss_closed : Closed z (slot_at one) loss
  unfolding loss
  loss_closed = flush_closed z live (slot_at one) len one_sound g d out small

  two_is : slot_at (flushed z g d one) ≡ withdraw loss (slot_at one)
  unfolding loss
  two_is = flushed_is z live one len one_sound g d

  -- what the map left a page other than the taker is among what it had
  one_within : (k : ℕ) → (k ≡ key z u v → ⊥) → T (within (slot_at one k).rights (slot_at b k).rights)
  unfolding one
  one_within k h =
      subst (λ (x : Slot). T (within x.rights (slot_at b k).rights)) (sym (mapped_other z live b len long sound s p u v r m k h))
      (less_within (slot_at b k).rights (amount z live b len long sound s p u v r m k) (rights_small z live (slot_at b) sound k)
      ((amount_closed z live b len long sound s p u v r m).small k))

  -- after a map and a flush, a place whose page is not the taker and has all its rights still names it
  flushed_names : (q : Place) → Names z (slot_at b) q → (page_named z q ≡ key z u v → ⊥)
      → T (within (slot_at b (page_named z q)).rights (slot_at (flushed z g d (mapped z s p (key z u v) r b)) (page_named z q)).rights)
      → Names z (slot_at (flushed z g d (mapped z s p (key z u v) r b))) q
  unfolding one
  flushed_names q n apart h =
      rw two_is
      (names_kept z live (slot_at one) one_sound loss loss_closed q
      (mapped_names z live b len long sound s p u v r m q n apart (within_trans had left now hs ls ns kept less_now))
      (whole_kept (slot_at one) (withdraw loss (slot_at one)) k (within_trans now had left ns hs ls (one_within k apart) kept)))
    where
      k : ℕ
      k = page_named z q

      had : ℕ
      had = (slot_at b k).rights

      now : ℕ
      now = (slot_at one k).rights

      left : ℕ
      left = less now (loss k)

      hs : had < 8
      hs = rights_small z live (slot_at b) sound k

      ns : now < 8
      ns = rights_small z live (slot_at one) one_sound k

      ls : left < 8
      ls = less_lt now (loss k) ns (loss_closed.small k)

      less_now : T (within left now)
      less_now = less_within now (loss k) ns (loss_closed.small k)

      kept : T (within had left)
      kept = subst (λ (x : Table). T (within had (x k).rights)) two_is h

-- ── grant ────────────────────────────────────────────────────────────────
-- grant keeps the number of pages
pub length_granted : (z : Sizes) (g t r : ℕ) (b : List Slot) → length (granted z g t r b) ≡ length b
unfolding granted
length_granted z g t r b = go (slot_at b g).link
  where
    go : (l : Link) → length (granted_by z l g t r b) ≡ length b
    go Nothing = refl
    go (Frame i) = refl
    go (Page s p) = length_flushed z g (giver_loses r) (mapped z s p t r b) ∙ length_mapped z s p t r b

-- a grant of a page that was lent is a map from its parent, and then a flush of the giver
pub granted_is : (z : Sizes) (g t r : ℕ) (b : List Slot) (s p : ℕ) → (slot_at b g).link ≡ Page s p
    → granted z g t r b ≡ flushed z g (giver_loses r) (mapped z s p t r b)
unfolding granted
granted_is z g t r b s p e = rw e

-- what a grant does to the slots: a map to the taker from the giver's parent, and then a flush of the giver
pub record HandedOn (z : Sizes) (b : Tables) (s p u v r : ℕ) : Type 0 where
  pub parent_space : ℕ
  pub parent_page : ℕ
  pub parent_is : (table_of b (key z s p)).link ≡ Page parent_space parent_page
  pub lendable : Lendable z b.live (table_of b) parent_space parent_page u v r
  pub giver_out : z.pages ≤ key z s p
  pub loss_small : giver_loses r < 8
  pub is : granted z (key z s p) (key z u v) r b.slots
      ≡ flushed z (key z s p) (giver_loses r) (mapped z parent_space parent_page (key z u v) r b.slots)

-- every accepted grant does that
pub handed_on_law : (z : Sizes) (b : Tables) → Sound z b → (s p u v r : ℕ) → Lendable z b.live (table_of b) s p u v r → 1 ≤ s
    → HandedOn z b s p u v r
handed_on_law z b sound s p u v r m out =
    let l = lent_by z b.live (table_of b) sound.pages (key z s p) (out_of_pool z s p out) m.giver_held in
    record {
      parent_space = l.0;
      parent_page = l.1;
      parent_is = l.2;
      lendable = parent_lendable z b.live (table_of b) sound.shape.live_long sound.pages s p u v r m l.0 l.1 l.2;
      giver_out = out_of_pool z s p out;
      loss_small = giver_loses_small r (omega (arith, m.known_rights));
      is = granted_is z (key z s p) (key z u v) r b.slots l.0 l.1 l.2;
    }

-- an accepted grant keeps a sound board sound
pub grant_sound : (z : Sizes) (b : Tables) → Sound z b → (s p u v r : ℕ) → Lendable z b.live (table_of b) s p u v r → 1 ≤ s
    → Sound z (board_after z b (Grant s p u v r))
unfolding board_after
grant_sound z b sound s p u v r m out = go (handed_on_law z b sound s p u v r m out)
  where
    go : HandedOn z b s p u v r → Sound z (with_slots z b (granted z (key z s p) (key z u v) r b.slots) (λ k. eqb k (key z u v)))
    go h =
        let x : ℕ = h.parent_space in
        let y : ℕ = h.parent_page in
        subst (λ (new : List Slot). Sound z (with_slots z b new (λ k. eqb k (key z u v)))) (sym h.is)
        (taken_sound z b sound (flushed z (key z s p) (giver_loses r) (mapped z x y (key z u v) r b.slots)) (key z u v)
        (length_flushed z (key z s p) (giver_loses r) (mapped z x y (key z u v) r b.slots) ∙ length_mapped z x y (key z u v) r b.slots)
        (flushed_sound z b.live (mapped z x y (key z u v) r b.slots) sound.shape.live_long
        (mapped_sound z b.live b.slots sound.shape.live_long sound.shape.slots_long sound.pages x y u v r h.lendable)
        (key z s p) (giver_loses r) h.giver_out h.loss_small)
        (flushed_names z b.live b.slots sound.shape.live_long sound.shape.slots_long sound.pages x y u v r h.lendable
        (key z s p) (giver_loses r) h.giver_out h.loss_small))
