-- What a map or a grant leaves of the pages other than the taker: those below the taker are empty, the others keep their links.
use mathlib.Core.Path.{◌≡◌, refl, sym, ap, ◌∙◌}
use mathlib.Core.Bool.{Bool, true, false, not, cond}
use mathlib.Core.List.{List}
use Prim.Native.Nat.{ℕ}
use lib.Dec.{T, eqb, eqb→eq, eqb_refl, T_not}
use lib.ListN.{length}
use Rattle.lend.specs.declared.Link.TheVariants.{Page}
use Rattle.lend.specs.declared.Slot.{Slot}
use Rattle.lend.specs.Sizes.{Sizes, key}
use Rattle.lend.specs.Rights.{less}
use Rattle.lend.specs.Slots.{Table, empty_slot, lent_slot, slot_at, held, cut}
use Rattle.lend.specs.Tables.{Tables, table_of}
use Rattle.lend.specs.Line.{line_of, is_on_line, below, frame_of}
use Rattle.lend.specs.Sound.{SoundPages, Sound}
use Rattle.lend.specs.Withdraw.{flushed}
use Rattle.lend.specs.Lending.{mapped, granted, giver_loses}
use Rattle.lend_basics.proofs.Bools.{and_l, and_r, is_true, is_false, differ}
use Rattle.lend_basics.proofs.Rights.{less_all}
use Rattle.lend_sound.proofs.Lines.{line_same, frame_same, below_up, line_self}
use Rattle.lend_laws.proofs.Withdraw.{left_link, rights_small, cut_zero, cut_empty, withdraw}
use Rattle.lend_laws.proofs.Flush.{flushed_at}
use Rattle.lend_lending.proofs.Relink.{relink_same}
use Rattle.lend_lending.proofs.Map.{Lendable, amount, mapped_is, mapped_other, mapped_sound}
use Rattle.lend_lending.proofs.Grant.{HandedOn}

-- a slot that came out of another by a cut, and is held, has its link
cut_link : (s old : Slot) (d : ℕ) → s ≡ cut d old → T (held s) → s.link ≡ old.link
cut_link s old d e h =
    let g : T (held (cut d old)) = rw e at h in
    ap (λ (x : Slot). x.link) e ∙ left_link (less old.rights d) old.link g

-- a slot that came out of another by a cut, and is held, came out of a held one
cut_held : (s old : Slot) (d : ℕ) → s ≡ cut d old → T (held s) → T (held old)
cut_held s old d e h = rw (cut_link s old d e h) at h

-- ── behind the other pages ───────────────────────────────────────────────
-- A sound table f became g. Pages that are held now and are no taker have their old links, and what was below a taker is empty.
module _ (z : Sizes) (live more : List Bool) (f g : Table)
    (len : length live ≡ z.spaces) (before : SoundPages z live f) (after : SoundPages z more g)
    (taker : ℕ → Bool) (links : (k : ℕ) → T (not (taker k)) → T (held (g k)) → (g k).link ≡ (f k).link)
    (cleared : (t k : ℕ) → T (taker t) → T (below z f k t) → g k ≡ empty_slot) where
  Stays : ℕ → Type 0
  Stays k = T (not (taker k)) × T (held (g k))

  same : (k : ℕ) → Stays k → (g k).link ≡ (f k).link
  unfolding Stays
  same k h = links k h.0 h.1

  -- the parent of such a page is one too: had it been a taker, the page would be empty
  up : (k s p : ℕ) → (f k).link ≡ Page s p → Stays k → Stays (key z s p)
  unfolding Stays
  up k s p e h = (go (taker (key z s p)) refl, (after.lent k s p (links k h.0 h.1 ∙ e)).parent_held)
    where
      go : (b : Bool) → taker (key z s p) ≡ b → T (not b)
      go true q =
          let parent : ℕ = key z s p in
          let under : T (below z f k parent) = rw (below_up z live f len before k s p parent e) (line_self z live f len before parent) in
          let gone : g k ≡ empty_slot = cleared parent k (rw q tt) under in
          rw gone at h.1
      go false q = tt

  -- so they have the lines and the frames they had
  pub same_behind : (k : ℕ) → T (not (taker k)) → T (held (g k)) → (line_of z g k ≡ line_of z f k) × (frame_of z g k ≡ frame_of z f k)
  unfolding Stays
  same_behind k n h = (line_same z f g Stays same up z.spaces k (n, h), frame_same z f g Stays same up z.spaces k (n, h))

-- ── map ──────────────────────────────────────────────────────────────────
module _ (z : Sizes) (b : Tables) (sound : Sound z b) (s p u v r : ℕ) (m : Lendable z b.live (table_of b) s p u v r) where
  -- the slots after the map
  abbrev one : List Slot
  one = mapped z s p (key z u v) r b.slots

  -- they make a sound table
  pub one_sound : SoundPages z b.live (slot_at (mapped z s p (key z u v) r b.slots))
  one_sound = mapped_sound z b.live b.slots sound.shape.live_long sound.shape.slots_long sound.pages s p u v r m

  -- what the flush of the taker takes
  abbrev taken : ℕ → ℕ
  taken = amount z b.live b.slots sound.shape.live_long sound.shape.slots_long sound.pages s p u v r m

  other : (k : ℕ) → T (not (eqb k (key z u v))) → slot_at one k ≡ cut (taken k) (table_of b k)
  other k n =
      mapped_other z b.live b.slots sound.shape.live_long sound.shape.slots_long sound.pages s p u v r m k
      (λ e. T_not (eqb k (key z u v)) n (rw e (eqb_refl (key z u v))))

  -- the taker has its new link
  pub mapped_taker : slot_at (mapped z s p (key z u v) r b.slots) (key z u v) ≡ lent_slot s p r
  mapped_taker =
      ap (λ (g : Table). g (key z u v))
      (mapped_is z b.live b.slots sound.shape.live_long sound.shape.slots_long sound.pages s p u v r m)
      ∙ relink_same (key z u v) (lent_slot s p r) (withdraw taken (table_of b))

  -- a page whose line does not have the taker keeps its slot
  pub mapped_apart : (k : ℕ) → (T (is_on_line z (table_of b) k (key z u v)) → ⊥) → slot_at (mapped z s p (key z u v) r b.slots) k ≡ table_of b k
  unfolding amount
  mapped_apart k off =
      other k (differ k (key z u v) (λ e. off (rw (sym e) (line_self z b.live (table_of b) sound.shape.live_long sound.pages k))))
      ∙ rw (is_false (is_on_line z (table_of b) k (key z u v)) off) (cut_zero z b.live (table_of b) sound.pages k)

  -- what stood below the taker is empty
  pub mapped_below : (k : ℕ) → T (below z (table_of b) k (key z u v)) → slot_at (mapped z s p (key z u v) r b.slots) k ≡ empty_slot
  unfolding amount
  mapped_below k h =
      other k (and_r (is_on_line z (table_of b) k (key z u v)) (not (eqb k (key z u v))) h)
      ∙ rw (
        is_true (is_on_line z (table_of b) k (key z u v)) (and_l (is_on_line z (table_of b) k (key z u v)) (not (eqb k (key z u v))) h),
        less_all (table_of b k).rights (rights_small z b.live (table_of b) sound.pages k),
      )

  -- a held page other than the taker has its link
  pub mapped_link : (k : ℕ) → T (not (eqb k (key z u v))) → T (held (slot_at (mapped z s p (key z u v) r b.slots) k))
      → (slot_at (mapped z s p (key z u v) r b.slots) k).link ≡ (table_of b k).link
  mapped_link k n h = cut_link _ _ _ (other k n) h

  -- and its line
  pub mapped_line : (k : ℕ) → T (not (eqb k (key z u v))) → T (held (slot_at (mapped z s p (key z u v) r b.slots) k))
      → line_of z (slot_at (mapped z s p (key z u v) r b.slots)) k ≡ line_of z (table_of b) k
  mapped_line k n h =
      (same_behind z b.live b.live (table_of b) (slot_at one) sound.shape.live_long sound.pages one_sound
      (λ j. eqb j (key z u v)) mapped_link (λ t j e i. mapped_below j (rw (eqb→eq t (key z u v) e) at i)) k n h).0

  -- ── and then a flush of some page ──────────────────────────────────────
  module _ (g d : ℕ) where
    loss : ℕ → ℕ
    loss k = cond (is_on_line z (slot_at one) k g) d 0

    then : (k : ℕ) → slot_at (flushed z g d one) k ≡ cut (loss k) (slot_at one k)
    unfolding loss
    then k = flushed_at z b.live one sound.shape.live_long one_sound g d k

    -- what stood below the taker is empty
    handed_below : (k : ℕ) → T (below z (table_of b) k (key z u v))
        → slot_at (flushed z g d (mapped z s p (key z u v) r b.slots)) k ≡ empty_slot
    handed_below k h = then k ∙ (ap (cut (loss k)) (mapped_below k h) ∙ cut_empty (loss k))

    -- a held page other than the taker has its link
    handed_link : (k : ℕ) → T (not (eqb k (key z u v))) → T (held (slot_at (flushed z g d (mapped z s p (key z u v) r b.slots)) k))
        → (slot_at (flushed z g d (mapped z s p (key z u v) r b.slots)) k).link ≡ (table_of b k).link
    handed_link k n h = cut_link _ _ _ (then k) h ∙ mapped_link k n (cut_held _ _ _ (then k) h)

-- ── grant ────────────────────────────────────────────────────────────────
module _ (z : Sizes) (b : Tables) (sound : Sound z b) (s p u v r : ℕ) (a : HandedOn z b s p u v r) where
  -- what stood below the taker is empty
  pub granted_below : (k : ℕ) → T (below z (table_of b) k (key z u v))
      → slot_at (granted z (key z s p) (key z u v) r b.slots) k ≡ empty_slot
  granted_below k h =
      ap (λ (l : List Slot). slot_at l k) a.is
      ∙ handed_below z b sound a.parent_space a.parent_page u v r a.lendable (key z s p) (giver_loses r) k h

  -- a held page other than the taker has its link
  pub granted_link : (k : ℕ) → T (not (eqb k (key z u v))) → T (held (slot_at (granted z (key z s p) (key z u v) r b.slots) k))
      → (slot_at (granted z (key z s p) (key z u v) r b.slots) k).link ≡ (table_of b k).link
  granted_link =
      rw a.is
      (handed_link z b sound a.parent_space a.parent_page u v r a.lendable (key z s p) (giver_loses r))
