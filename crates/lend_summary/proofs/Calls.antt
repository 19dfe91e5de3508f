-- The summary after each withdrawal and lending of one page, on the slots: only the counts of one frame move.
use mathlib.Core.Path.{◌≡◌, refl, sym, subst, ap, ◌∙◌}
use mathlib.Core.Bool.{Bool, true, false, not, cond}
use mathlib.Core.List.{List}
use Prim.Native.Nat.{ℕ, ◌≤◌, ◌<◌}
use native.Mathlib.Decide.{dec_lt}
use native.Mathlib.Omega.{arith}
use lib.Dec.{T, eqb, lit<}
use lib.ListN.{length}
use Rattle.lend.specs.declared.Link.TheVariants.{Frame, Page}
use Rattle.lend.specs.declared.Slot.{Slot}
use Rattle.lend.specs.declared.Count.{Count}
use Rattle.lend.specs.Sizes.{Sizes, slot_count, key}
use Rattle.lend.specs.Rights.{all_rights}
use Rattle.lend.specs.Slots.{Table, slot_at, lent_slot}
use Rattle.lend.specs.Line.{is_on_line, below, frame_of}
use Rattle.lend.specs.Summary.{count_at, summary_of}
use Rattle.lend.specs.Sound.{SoundPages}
use Rattle.lend.specs.Withdraw.{unmapped, flushed}
use Rattle.lend.specs.Lending.{mapped, giver_loses, granted}
use Rattle.lend_basics.proofs.Bools.{and_l}
use Rattle.lend_basics.proofs.Rights.{less_zero}
use Rattle.lend_sound.proofs.Lines.{frame_step}
use Rattle.lend_laws.proofs.Withdraw.{rights_small, withdraw, Closed, frame_of_kept, withdraw_sound}
use Rattle.lend_laws.proofs.Flush.{unmap_closed, flush_closed, unmapped_is, flushed_is}
use Rattle.lend_laws.proofs.Spaces.{out_of_pool}
use Rattle.lend_lending.proofs.Relink.{held_frame}
use Rattle.lend_lending.proofs.Map.{Lendable, key_in, amount, amount_closed, linkable, mapped_is, mapped_sound}
use Rattle.lend_lending.proofs.Grant.{parent_lendable, giver_loses_small, granted_is}
use Rattle.lend_lending.proofs.Frames.{same_frame}
use Rattle.lend_summary.specs.Counts.{lost_count, lost_of, less_at, more_at, CountWithin}
use Rattle.lend_summary.proofs.Cut.{cut_summary, cut_within}
use Rattle.lend_summary.proofs.Link.{link_summary}

-- ── unmap and flush ──────────────────────────────────────────────────────
module _ (z : Sizes) (live : List Bool) (b : List Slot) (len : length live ≡ z.spaces) (sound : SoundPages z live (slot_at b)) where
  -- what is taken from pages that have y on their line is lost at y's frame
  one_frame : (y d : ℕ) (t : ℕ → Bool) → ((k : ℕ) → T (t k) → T (is_on_line z (slot_at b) k y)) → (k : ℕ)
      → ((withdraw (λ j. cond (t j) d 0) (slot_at b) k).rights ≡ (slot_at b k).rights → ⊥) → frame_of z (slot_at b) k ≡ frame_of z (slot_at b) y
  one_frame y d t on k h = go (t k) refl
    where
      go : (x : Bool) → t k ≡ x → frame_of z (slot_at b) k ≡ frame_of z (slot_at b) y
      go true e = same_frame z live (slot_at b) len sound k y (on k (rw e tt))
      go false e = absurd (h (rw e (less_zero (slot_at b k).rights (rights_small z live (slot_at b) sound k))))

  -- slots that came by such a withdrawal
  module _ (y d : ℕ) (t : ℕ → Bool) (on : (k : ℕ) → T (t k) → T (is_on_line z (slot_at b) k y)) (closed : Closed z (slot_at b) (λ k. cond (t k) d 0))
      (new : List Slot) (is : slot_at new ≡ withdraw (λ k. cond (t k) d 0) (slot_at b)) where
    by_test : less_at (summary_of z (slot_at b)) (frame_of z (slot_at b) y) (lost_of (slot_count z) b new) ≡ summary_of z (slot_at new)
    by_test =
        subst (λ (g : Table). less_at (summary_of z (slot_at b)) (frame_of z (slot_at b) y) (lost_count (slot_count z) (λ k. (slot_at b k).rights) (λ k. (g k).rights)) ≡ summary_of z g)
        (sym is) (cut_summary z live (slot_at b) sound (λ k. cond (t k) d 0) closed (frame_of z (slot_at b) y) (one_frame y d t on))

    within_test : frame_of z (slot_at b) y < z.pages → CountWithin (lost_of (slot_count z) b new) (count_at (summary_of z (slot_at b)) (frame_of z (slot_at b) y))
    within_test l =
        subst (λ (g : Table). CountWithin (lost_count (slot_count z) (λ k. (slot_at b k).rights) (λ k. (g k).rights)) (count_at (summary_of z (slot_at b)) (frame_of z (slot_at b) y)))
        (sym is) (cut_within z live (slot_at b) sound (λ k. cond (t k) d 0) closed (frame_of z (slot_at b) y) (one_frame y d t on) l)

  below_on : (y k : ℕ) → T (below z (slot_at b) k y) → T (is_on_line z (slot_at b) k y)
  below_on y k h = and_l (is_on_line z (slot_at b) k y) (not (eqb k y)) h

  -- after an unmap of y
  pub unmap_summary : (y d : ℕ) → d < 8
      → less_at (summary_of z (slot_at b)) (frame_of z (slot_at b) y) (lost_of (slot_count z) b (unmapped z y d b)) ≡ summary_of z (slot_at (unmapped z y d b))
  unmap_summary y d h =
      by_test y d (λ k. below z (slot_at b) k y) (below_on y) (unmap_closed z live (slot_at b) len sound y d h) (unmapped z y d b) (unmapped_is z live b len sound y d)

  -- what it takes was counted
  pub unmap_within : (y d : ℕ) → d < 8 → frame_of z (slot_at b) y < z.pages
      → CountWithin (lost_of (slot_count z) b (unmapped z y d b)) (count_at (summary_of z (slot_at b)) (frame_of z (slot_at b) y))
  unmap_within y d h =
      within_test y d (λ k. below z (slot_at b) k y) (below_on y) (unmap_closed z live (slot_at b) len sound y d h) (unmapped z y d b) (unmapped_is z live b len sound y d)

  -- after a flush of y, which is outside space 0
  pub flush_summary : (y d : ℕ) → z.pages ≤ y → d < 8
      → less_at (summary_of z (slot_at b)) (frame_of z (slot_at b) y) (lost_of (slot_count z) b (flushed z y d b)) ≡ summary_of z (slot_at (flushed z y d b))
  flush_summary y d out h =
      by_test y d (λ k. is_on_line z (slot_at b) k y) (λ k m. m) (flush_closed z live (slot_at b) len sound y d out h) (flushed z y d b) (flushed_is z live b len sound y d)

  -- what it takes was counted
  pub flush_within : (y d : ℕ) → z.pages ≤ y → d < 8 → frame_of z (slot_at b) y < z.pages
      → CountWithin (lost_of (slot_count z) b (flushed z y d b)) (count_at (summary_of z (slot_at b)) (frame_of z (slot_at b) y))
  flush_within y d out h =
      within_test y d (λ k. is_on_line z (slot_at b) k y) (λ k m. m) (flush_closed z live (slot_at b) len sound y d out h) (flushed z y d b) (flushed_is z live b len sound y d)

-- ── map ──────────────────────────────────────────────────────────────────
module _ (z : Sizes) (live : List Bool) (b : List Slot) (len : length live ≡ z.spaces) (long : length b ≡ slot_count z) (sound : SoundPages z live (slot_at b))
    (s p u v r : ℕ) (m : Lendable z live (slot_at b) s p u v r) where
  -- the pages after the flush of the taker
  abbrev mid : Table
  mid = withdraw (amount z live b len long sound s p u v r m) (slot_at b)

  mid_sound : SoundPages z live mid
  mid_sound = withdraw_sound z live (slot_at b) sound (amount z live b len long sound s p u v r m) (amount_closed z live b len long sound s p u v r m)

  -- the giver has the frame it had
  giver_frame : frame_of z mid (key z s p) ≡ frame_of z (slot_at b) (key z s p)
  giver_frame =
      frame_of_kept z live (slot_at b) sound (amount z live b len long sound s p u v r m) (amount_closed z live b len long sound s p u v r m) (key z s p)
      (linkable z live b len long sound s p u v r m).giver_held

  -- after a map: the flush of the taker, and then its link
  pub map_summary : more_at (less_at (summary_of z (slot_at b)) (frame_of z (slot_at b) (key z u v)) (lost_of (slot_count z) b (flushed z (key z u v) all_rights b)))
      (frame_of z (slot_at b) (key z s p)) r
      ≡ summary_of z (slot_at (mapped z s p (key z u v) r b))
  unfolding amount
  map_summary =
      ap (λ (l : List Count). more_at l (frame_of z (slot_at b) (key z s p)) r)
      (flush_summary z live b len sound (key z u v) all_rights (out_of_pool z u v m.taker_out) (lit< tt)
      ∙ ap (summary_of z) (flushed_is z live b len sound (key z u v) all_rights))
      ∙ (ap (λ (i : ℕ). more_at (summary_of z mid) i r) (sym giver_frame)
      ∙ (link_summary z live mid len mid_sound (key z u v) s p r (linkable z live b len long sound s p u v r m) (key_in z u v m.taker_space m.taker_page)
      ∙ ap (summary_of z) (sym (mapped_is z live b len long sound s p u v r m))))

-- ── grant ────────────────────────────────────────────────────────────────
module _ (z : Sizes) (live : List Bool) (b : List Slot) (len : length live ≡ z.spaces) (long : length b ≡ slot_count z) (sound : SoundPages z live (slot_at b))
    (s p u v r : ℕ) (m : Lendable z live (slot_at b) s p u v r) (x y : ℕ) (e : (slot_at b (key z s p)).link ≡ Page x y) where
  -- the taker may be linked to the giver's parent
  from_parent : Lendable z live (slot_at b) x y u v r
  from_parent = parent_lendable z live (slot_at b) len sound s p u v r m x y e

  -- once it is, the giver has the frame it had
  pub frame_stays : frame_of z (slot_at (mapped z x y (key z u v) r b)) (key z s p) ≡ frame_of z (slot_at b) (key z s p)
  unfolding amount
  frame_stays =
      ap (λ (g : Table). frame_of z g (key z s p)) (mapped_is z live b len long sound x y u v r from_parent)
      ∙ (held_frame z live (mid z live b len long sound s p u v r m) len (mid_sound z live b len long sound s p u v r m) (key z u v) (lent_slot x y r) (linkable z live b len long sound s p u v r m).taker_empty z.spaces (key z s p)
      (linkable z live b len long sound s p u v r m).giver_held
      ∙ giver_frame z live b len long sound s p u v r m)

  -- a page that was lent is outside space 0
  giver_out : z.pages ≤ key z s p
  giver_out = go (dec_lt (key z s p) z.pages)
    where
      go : Dec (key z s p < z.pages) → z.pages ≤ key z s p
      go (yes l) =
          let n : Frame (key z s p) ≡ Page x y = sym (ap (λ (k : Slot). k.link) (sound.pool (key z s p) l)) ∙ e in
          let i : ◌≡◌ {A = ℕ} 0 1 = cc in
          absurd (omega arith)
      go (no l) = omega arith

  -- after a grant: the map from the giver's parent, and then the flush of the giver
  pub grant_summary : less_at (more_at (less_at (summary_of z (slot_at b)) (frame_of z (slot_at b) (key z u v)) (lost_of (slot_count z) b (flushed z (key z u v) all_rights b)))
      (frame_of z (slot_at b) (key z s p)) r)
      (frame_of z (slot_at b) (key z s p))
      (lost_of (slot_count z) (mapped z x y (key z u v) r b) (flushed z (key z s p) (giver_loses r) (mapped z x y (key z u v) r b)))
      ≡ summary_of z (slot_at (granted z (key z s p) (key z u v) r b))
  grant_summary =
      ap (λ (i : ℕ). less_at (more_at start i r) (frame_of z (slot_at b) (key z s p)) lost) (frame_step z live (slot_at b) len sound (key z s p) x y e)
      ∙ (ap (λ (l : List Count). less_at l (frame_of z (slot_at b) (key z s p)) lost) (map_summary z live b len long sound x y u v r from_parent)
      ∙ (ap (λ (i : ℕ). less_at (summary_of z (slot_at one)) i lost) (sym frame_stays)
      ∙ (flush_summary z live one len (mapped_sound z live b len long sound x y u v r from_parent) (key z s p) (giver_loses r) giver_out (giver_loses_small r (omega (arith, m.known_rights)))
      ∙ ap (λ (l : List Slot). summary_of z (slot_at l)) (sym (granted_is z (key z s p) (key z u v) r b x y e)))))
    where
      start : List Count
      start = less_at (summary_of z (slot_at b)) (frame_of z (slot_at b) (key z u v)) (lost_of (slot_count z) b (flushed z (key z u v) all_rights b))

      one : List Slot
      one = mapped z x y (key z u v) r b

      lost : Count
      lost = lost_of (slot_count z) one (flushed z (key z s p) (giver_loses r) one)
