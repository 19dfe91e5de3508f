-- An empty page is linked to a held one: the counts of that one's frame go up by a page of the rights lent, the others stay.
use mathlib.Core.Path.{◌≡◌, refl, sym, ap, ◌∙◌}
use mathlib.Core.Bool.{Bool, true, false, not, ◌&&◌, cond}
use mathlib.Core.List.{List}
use Prim.Native.Nat.{ℕ, ◌<◌}
use lib.Dec.{T, eqb}
use lib.ListN.{length}
use borrow.Author.Tests.{eq-eqb, ne_eqb, le-ltb}
use Rattle.lend.specs.declared.Slot.{Slot}
use Rattle.lend.specs.Sizes.{Sizes, slot_count, key, in_pool}
use Rattle.lend.specs.Rights.{read_right, write_right, execute_right, within}
use Rattle.lend.specs.Lists.{count}
use Rattle.lend.specs.Slots.{Table, lent_slot, held}
use Rattle.lend.specs.Line.{frame_of}
use Rattle.lend.specs.Summary.{ends_at, count_of, count_at, more, counted, summary_of}
use Rattle.lend.specs.Sound.{SoundPages}
use Rattle.lend_basics.proofs.Bools.{and_false}
use Rattle.lend_basics.proofs.Counting.{count_one_more}
use Rattle.lend_sound.proofs.Lines.{frame_step}
use Rattle.lend_sound.proofs.Summary.{summary_long, summary_counts}
use Rattle.lend_lending.proofs.Relink.{relink, relink_same, held_frame, Linkable, relink_sound}
use Rattle.lend_summary.specs.Counts.{more_at}
use Rattle.lend_summary.proofs.Cut.{set_counts}

module _ (z : Sizes) (live : List Bool) (f : Table) (len : length live ≡ z.spaces) (sound : SoundPages z live f) (t s p r : ℕ) (c : Linkable z live f t s p r)
    (in_range : t < slot_count z) where
  abbrev after : Table
  after = relink t (lent_slot s p r) f

  -- the frame of the giver
  abbrev at : ℕ
  at = frame_of z f (key z s p)

  frame_kept : (k : ℕ) → T (held (f k)) → frame_of z after k ≡ frame_of z f k
  frame_kept k h = held_frame z live f len sound t (lent_slot s p r) c.taker_empty z.spaces k h

  -- the taker has the giver's frame
  taker_frame : frame_of z after t ≡ at
  taker_frame =
      frame_step z live after len (relink_sound z live f len sound t s p r c) t s p (ap (λ (x : Slot). x.link) (relink_same t (lent_slot s p r) f))
      ∙ frame_kept (key z s p) c.giver_held

  taker_ends : (j : ℕ) → ends_at z after j t ≡ eqb at j
  taker_ends j = rw (le-ltb t z.pages c.taker_out, taker_frame, relink_same t (lent_slot s p r) f)

  taker_did_not : (j : ℕ) → ends_at z f j t ≡ false
  taker_did_not j = rw (c.taker_empty, and_false (not (in_pool z t)))

  -- all other pages end where they did
  others_end : (j k : ℕ) → (k ≡ t → ⊥) → ends_at z after j k ≡ ends_at z f j k
  others_end j k apart = go (held (f k)) refl
    where
      go : (b : Bool) → held (f k) ≡ b → ends_at z after j k ≡ ends_at z f j k
      go true e = rw (frame_kept k (rw e tt), ne_eqb k t apart)
      go false e = rw (ne_eqb k t apart, e, and_false (not (in_pool z k)))

  -- ── the counts ─────────────────────────────────────────────────────────
  held_more : (j : ℕ) (b : Bool) → eqb at j ≡ b → count (slot_count z) (ends_at z after j) ≡ more b (count (slot_count z) (ends_at z f j))
  held_more j b e =
      count_one_more (slot_count z) t (ends_at z f j) (ends_at z after j) in_range (taker_did_not j) (others_end j)
      ∙ ap (λ (x : Bool). more x (count (slot_count z) (ends_at z f j))) (taker_ends j ∙ e)

  right_more : (j : ℕ) (b : Bool) → eqb at j ≡ b → (d : ℕ)
      → count (slot_count z) (λ k. ends_at z after j k && within d (after k).rights)
      ≡ more (b && within d r) (count (slot_count z) (λ k. ends_at z f j k && within d (f k).rights))
  right_more j b e d =
      count_one_more (slot_count z) t had has in_range (rw (taker_did_not j)) (λ k apart. rw (others_end j k apart, ne_eqb k t apart))
      ∙ ap (λ (x : Bool). more x (count (slot_count z) had)) of_taker
    where
      had : ℕ → Bool
      had k = ends_at z f j k && within d (f k).rights

      has : ℕ → Bool
      has k = ends_at z after j k && within d (after k).rights

      of_taker : has t ≡ (b && within d r)
      of_taker = rw (taker_ends j, e, relink_same t (lent_slot s p r) f)

  count_more : (j : ℕ) (b : Bool) → eqb at j ≡ b → count_of z after j ≡ cond b (counted r (count_of z f j)) (count_of z f j)
  unfolding count_of
  count_more j true e = λ x. record {
    held = held_more j true e x;
    read = right_more j true e read_right x;
    write = right_more j true e write_right x;
    execute = right_more j true e execute_right x;
  }
  count_more j false e = λ x. record {
    held = held_more j false e x;
    read = right_more j false e read_right x;
    write = right_more j false e write_right x;
    execute = right_more j false e execute_right x;
  }

  -- the summary after the link
  pub link_summary : more_at (summary_of z f) (frame_of z f (key z s p)) r ≡ summary_of z (relink t (lent_slot s p r) f)
  link_summary =
      set_counts z (summary_of z f) (summary_of z after) at (counted r (count_at (summary_of z f) at)) (summary_long z f) (summary_long z after)
      (λ l. ap (counted r) (summary_counts z f at l) ∙ (sym (count_more at true (eq-eqb at at refl)) ∙ sym (summary_counts z after at l)))
      (λ j l apart. summary_counts z f j l ∙ (sym (count_more j false (ne_eqb at j (λ e. apart (sym e)))) ∙ sym (summary_counts z after j l)))
