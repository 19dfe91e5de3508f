-- The summary at larger sizes: the frames that both sizes have keep their counts, and no page ends at another.
use mathlib.Core.Path.{◌≡◌, sym, ap, ◌∙◌}
use mathlib.Core.Bool.{Bool, false, not, ◌&&◌}
use mathlib.Core.List.{List}
use Prim.Native.Nat.{ℕ, ◌≤◌, ◌<◌}
use native.Mathlib.Decide.{dec_lt}
use native.Mathlib.Nat.{lt_irrefl}
use native.Mathlib.Omega.{arith}
use lib.Dec.{T, eqb→eq}
use lib.ListN.{length, get_or-eq_default}
use lib.Seq.{ext_get_or}
use borrow.Author.Tests.{lt-ltb, le-ltb}
use Rattle.lend.specs.declared.Count.{Count}
use Rattle.lend.specs.declared.Slot.{Slot}
use Rattle.lend.specs.Sizes.{Sizes, slot_count}
use Rattle.lend.specs.Rights.{read_right, write_right, execute_right, within}
use Rattle.lend.specs.Slots.{Table, slot_at}
use Rattle.lend.specs.Tables.{Tables}
use Rattle.lend.specs.Line.{frame_of}
use Rattle.lend.specs.Summary.{ends_at, endings, endings_with, count_of, no_count, count_at, summary_of}
use Rattle.lend.specs.Sound.{SoundPages, Sound}
use Rattle.lend_basics.proofs.Bools.{is_false, and_l, and_r}
use Rattle.lend_basics.proofs.Counting.{count_none}
use Rattle.lend_basics.proofs.Lists.{length_tabulate, tabulate_at, tabulate_past}
use Rattle.lend_sound.proofs.Summary.{summary_long, summary_counts}
use Rattle.lend_lending.proofs.Frames.{frame_in_law}
use Rattle.lend_models.specs.Embedding.{Fits, shared, wide_slots, wide_summary}
use Rattle.lend_models.proofs.Wide.{widen}
use Rattle.lend_models.proofs.WidePages.{wide_table, pool_widened, rest_either, slot_widened}
use Rattle.lend_models.proofs.WideLines.{frame_widened}
use Rattle.lend_models.proofs.Counts.{count_wide}

-- ── the list of counts ───────────────────────────────────────────────────
-- it has a count for each frame of the larger sizes
pub length_wide_summary : (w : Sizes) (s : List Count) → length (wide_summary w s) ≡ w.pages
unfolding wide_summary
length_wide_summary w s = length_tabulate (count_at s) w.pages

-- each count is what it was; past the smaller summary there is none
pub wide_count : (w : Sizes) (s : List Count) → length s ≤ w.pages → (i : ℕ) → count_at (wide_summary w s) i ≡ count_at s i
unfolding wide_summary
wide_count w s fit i = go (dec_lt i w.pages)
  where
    go : Dec (i < w.pages) → count_at (wide_summary w s) i ≡ count_at s i
    go (yes l) = tabulate_at (count_at s) w.pages i no_count l
    go (no l) = tabulate_past (count_at s) w.pages i no_count (omega arith) ∙ sym (get_or-eq_default s no_count {n = i} (omega arith))

-- ── the counts ───────────────────────────────────────────────────────────
-- a frame at which no page ends has no count
none_ends : (z : Sizes) (f : Table) (i : ℕ) → ((k : ℕ) → ends_at z f i k ≡ false) → count_of z f i ≡ no_count
unfolding count_of
none_ends z f i h = λ j. record { held = plain j; read = with read_right j; write = with write_right j; execute = with execute_right j }
  where
    plain : endings z f i ≡ 0
    plain = count_none (slot_count z) (ends_at z f i) (λ k l. h k)

    with : (r : ℕ) → endings_with z f r i ≡ 0
    with r = count_none (slot_count z) (λ k. ends_at z f i k && within r (f k).rights) (λ k l. rw (h k))

module _ (z w : Sizes) (fits : Fits z w) (some_page : 1 ≤ z.pages) (live : List Bool) (b : List Slot)
    (len : length live ≡ z.spaces) (long : length b ≡ slot_count z) (sound : SoundPages z live (slot_at b)) where
  -- a page ends at a frame at both sizes or at neither
  ends_widened : (i k : ℕ) → ends_at w (wide_table z w b) i (widen z w k) ≡ ends_at z (slot_at b) i k
  ends_widened i k =
      rw (pool_widened z w fits some_page k, slot_widened z w fits some_page live b len long sound k, frame_widened z w fits some_page live b len long sound k)

  -- a page that is not shared ends at none
  ends_rest : (i k : ℕ) → T (not (shared z w k)) → ends_at w (wide_table z w b) i k ≡ false
  ends_rest i k n =
      rest_either z w fits some_page live b len long sound k (ends_at w (wide_table z w b) i k ≡ false) n
      (λ h e. rw (lt-ltb k w.pages h))
      (λ h e. rw (le-ltb k w.pages h, e))

  -- so every frame has the same counts
  count_widened : (i : ℕ) → count_of w (wide_table z w b) i ≡ count_of z (slot_at b) i
  unfolding count_of
  count_widened i = λ j. record { held = plain j; read = with read_right j; write = with write_right j; execute = with execute_right j }
    where
      plain : endings w (wide_table z w b) i ≡ endings z (slot_at b) i
      plain =
          count_wide z w fits some_page (ends_at z (slot_at b) i) (ends_at w (wide_table z w b) i) (λ k l. ends_widened i k) (λ k l n. ends_rest i k n)

      with : (r : ℕ) → endings_with w (wide_table z w b) r i ≡ endings_with z (slot_at b) r i
      with r =
          count_wide z w fits some_page (λ k. ends_at z (slot_at b) i k && within r (slot_at b k).rights)
          (λ k. ends_at w (wide_table z w b) i k && within r (wide_table z w b k).rights)
          (λ k l. rw (ends_widened i k, slot_widened z w fits some_page live b len long sound k))
          (λ k l n. rw (ends_rest i k n))

  -- no page ends past the frames
  ends_past : (i k : ℕ) → z.pages ≤ i → ends_at z (slot_at b) i k ≡ false
  ends_past i k past = is_false (ends_at z (slot_at b) i k) no_end
    where
      no_end : T (ends_at z (slot_at b) i k) → ⊥
      no_end h =
          let l : frame_of z (slot_at b) k < z.pages = frame_in_law z live (slot_at b) len sound k (search (and_l, and_r) depth 12) in
          let e : frame_of z (slot_at b) k ≡ i = eqb→eq (frame_of z (slot_at b) k) i (search (and_l, and_r) depth 12) in
          lt_irrefl i (omega arith)

  -- the count of a frame in the summary; past the frames there is none
  count_is : (i : ℕ) → count_at (summary_of z (slot_at b)) i ≡ count_of z (slot_at b) i
  count_is i = go (dec_lt i z.pages)
    where
      go : Dec (i < z.pages) → count_at (summary_of z (slot_at b)) i ≡ count_of z (slot_at b) i
      go (yes l) = summary_counts z (slot_at b) i l
      go (no l) =
          get_or-eq_default (summary_of z (slot_at b)) no_count {n = i} (omega (arith, summary_long z (slot_at b)))
          ∙ sym (none_ends z (slot_at b) i (λ k. ends_past i k (omega arith)))

  -- the summary at the larger sizes has the counts of the smaller one
  pub summary_widened : summary_of w (wide_table z w b) ≡ wide_summary w (summary_of z (slot_at b))
  summary_widened =
      ext_get_or no_count (summary_of w (wide_table z w b)) (wide_summary w s) (summary_long w (wide_table z w b) ∙ sym (length_wide_summary w s))
      (λ i l. summary_counts w (wide_table z w b) i (omega (arith, summary_long w (wide_table z w b)))
      ∙ (count_widened i ∙ sym (wide_count w s (omega (arith, fits.pages_fit, summary_long z (slot_at b))) i ∙ count_is i)))
    where
      s : List Count
      s = summary_of z (slot_at b)

-- sound boards with the same pages have the same counts
pub same_summary : (z w : Sizes) → Fits z w → 1 ≤ z.pages → (small large : Tables) → Sound z small → Sound w large
    → large.slots ≡ wide_slots z w small.slots → large.summary ≡ wide_summary w small.summary
same_summary z w fits some_page small large sound sound_large e =
    sound_large.summary
    ∙ (ap (λ (b : List Slot). summary_of w (slot_at b)) e
    ∙ (summary_widened z w fits some_page small.live small.slots sound.shape.live_long sound.shape.slots_long sound.pages
    ∙ ap (wide_summary w) (sym sound.summary)))
