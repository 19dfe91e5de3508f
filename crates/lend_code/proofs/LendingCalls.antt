-- A map and a grant of the code from their numbers to their outcomes: refused, or accepted with all that the number 0 has shown.
use mathlib.Core.Path.{◌≡◌, sym, subst, ap, ◌∙◌}
use mathlib.Core.Bool.{Bool, ◌||◌}
use mathlib.Core.List.{List}
use Prim.Native.Nat.{ℕ, ◌≤◌, ◌<◌}
use native.Mathlib.Omega.{arith}
use lib.Dec.{eqb, lit<}
use lib.ListN.{length, set}
use Rattle.lend.specs.declared.Link.{Link}
use Rattle.lend.specs.declared.Link.TheVariants.{Page}
use Rattle.lend.specs.declared.Slot.{Slot}
use Rattle.lend.specs.declared.Count.{Count}
use Rattle.lend.specs.Sizes.{Sizes, slot_count, key}
use Rattle.lend.specs.Rights.{all_rights}
use Rattle.lend.specs.Slots.{slot_at, lent_slot}
use Rattle.lend.specs.Tables.{Tables, alone, table_of}
use Rattle.lend.specs.Line.{frame_of}
use Rattle.lend.specs.Summary.{count_at, summary_of}
use Rattle.lend.specs.Sound.{SoundPages, Sound}
use Rattle.lend.specs.Withdraw.{flushed}
use Rattle.lend.specs.Lending.{mapped, granted, giver_loses, grant_source}
use Rattle.lend.specs.Calls.{Map, Grant, number, step, accept, refuse, board_after, memory_after, report}
use Rattle.lend_laws.proofs.Flush.{flushed_sound}
use Rattle.lend_laws.proofs.Spaces.{out_of_pool}
use Rattle.lend_lending.proofs.Map.{Lendable, MapFine, map_fine, length_mapped, mapped_sound}
use Rattle.lend_lending.proofs.Grant.{GrantFine, grant_fine, lent_by, parent_lendable, giver_loses_small, length_granted, granted_is}
use Rattle.lend_summary.specs.Counts.{lost_of, less_at, more_at, CountBelow}
use Rattle.lend_summary.proofs.Bounds.{counts_small}
use Rattle.lend_summary.proofs.Calls.{flush_summary, map_summary, grant_summary}
use Rattle.lend_code.specs.Inner.{line_has, only_page, more_in, cut_slots, cut_lost}
use Rattle.lend_code.specs.Lending.{named_checks, named_number, lines_number, linked_in, taken_of}
use Rattle.lend_code.proofs.Fits.{key_in}
use Rattle.lend_code.proofs.Columns.{lost_slots}
use Rattle.lend_code.proofs.Summary.{counted_fits}
use Rattle.lend_code.proofs.Calls.{call_refused, call_accepted, sound_true}
use Rattle.lend_code.proofs.Taken.{cut_flushed, taken_is}
use Rattle.lend_code.proofs.LendingNumbers.{map_named, map_named_fine, map_lines, grant_named, grant_named_fine, grant_lines}

-- ── the slots ────────────────────────────────────────────────────────────
-- the pages with page y on their line lose d
abbrev pub cut_below : Sizes → List Slot → ℕ → ℕ → List Slot
cut_below z b y d = cut_slots z b (line_has z b (only_page z y)) d

-- what the code makes of the slots in a map: the taker's are cut, then it gets the slot
abbrev pub linked_slots : Sizes → List Slot → ℕ → Slot → List Slot
linked_slots z b t x = set (cut_below z b t all_rights) t x

module _ (z : Sizes) (b : Tables) (sound : Sound z b) (s p u v r : ℕ) (m : Lendable z b.live (table_of b) s p u v r) where
  -- it is the map of the rules
  linked_mapped : linked_slots z b.slots (key z u v) (lent_slot s p r) ≡ mapped z s p (key z u v) r b.slots
  unfolding mapped
  linked_mapped =
      ap (λ (l : List Slot). set l (key z u v) (lent_slot s p r))
      (cut_flushed z b.live b.slots sound.shape.live_long sound.shape.slots_long sound.pages (key z u v) all_rights (key_in z u v m.taker_space m.taker_page))

  after_map : SoundPages z b.live (slot_at (mapped z s p (key z u v) r b.slots))
  after_map = mapped_sound z b.live b.slots sound.shape.live_long sound.shape.slots_long sound.pages s p u v r m

  long_map : length (mapped z s p (key z u v) r b.slots) ≡ slot_count z
  long_map = length_mapped z s p (key z u v) r b.slots ∙ sound.shape.slots_long

  -- an accepted map
  map_is : (counts : List Count) → counts ≡ summary_of z (slot_at (mapped z s p (key z u v) r b.slots))
      → taken_of z b (linked_slots z b.slots (key z u v) (lent_slot s p r)) counts u v ≡ accept z (alone b) (Map s p u v r)
  unfolding board_after memory_after report
  map_is counts e =
      ap (λ (l : List Slot). taken_of z b l counts u v) linked_mapped
      ∙ taken_is z b sound (mapped z s p (key z u v) r b.slots) u v m.taker_page long_map after_map counts e

-- ── the counts ───────────────────────────────────────────────────────────
-- what the pages with y on their line lose with d
abbrev lost_below : Sizes → List Slot → ℕ → ℕ → Count
lost_below z b y d = cut_lost z b (line_has z b (only_page z y)) d

-- it is what a flush of y takes
lost_flushed : (z : Sizes) (live : List Bool) (b : List Slot) → length live ≡ z.spaces → length b ≡ slot_count z → SoundPages z live (slot_at b) → (y d : ℕ) → y < slot_count z
    → lost_below z b y d ≡ lost_of (slot_count z) b (flushed z y d b)
lost_flushed z live b len long sound y d h =
    lost_slots z b (line_has z b (only_page z y)) d long
    ∙ ap (lost_of (slot_count z) b) (cut_flushed z live b len long sound y d h)

-- the counts when page t is flushed
abbrev freed_counts : Sizes → Tables → ℕ → List Count
freed_counts z b t = less_at b.summary (frame_of z (table_of b) t) (lost_below z b.slots t all_rights)

-- and when it is linked to page g, by the tables
abbrev linked_counts : Sizes → Tables → ℕ → ℕ → ℕ → List Count
linked_counts z b g t r =
    more_at (less_at (summary_of z (table_of b)) (frame_of z (table_of b) t) (lost_of (slot_count z) b.slots (flushed z t all_rights b.slots))) (frame_of z (table_of b) g) r

module _ (z : Sizes) (few : slot_count z < 65535) (b : Tables) (sound : Sound z b) (s p u v r : ℕ) (m : Lendable z b.live (table_of b) s p u v r) where
  abbrev taker : ℕ
  taker = key z u v

  abbrev giver : ℕ
  giver = key z s p

  freed_by_lost : (freed_counts z b taker) ≡ less_at (summary_of z (table_of b)) (frame_of z (table_of b) taker) (lost_of (slot_count z) b.slots (flushed z taker all_rights b.slots))
  freed_by_lost =
      ap (λ (c : List Count). less_at c (frame_of z (table_of b) taker) (lost_below z b.slots taker all_rights)) sound.summary
      ∙ ap (less_at (summary_of z (table_of b)) (frame_of z (table_of b) taker))
      (lost_flushed z b.live b.slots sound.shape.live_long sound.shape.slots_long sound.pages taker all_rights (key_in z u v m.taker_space m.taker_page))

  freed_counts_law : (freed_counts z b taker) ≡ summary_of z (slot_at (flushed z taker all_rights b.slots))
  freed_counts_law =
      freed_by_lost
      ∙ flush_summary z b.live b.slots sound.shape.live_long sound.pages taker all_rights (out_of_pool z u v m.taker_out) (lit< tt)

  -- and when the link is made: one page more fits into 16 bits
  linked_counts_law : more_in (freed_counts z b taker) (frame_of z (table_of b) giver) r
      ≡ linked_counts z b giver taker r
  unfolding more_in
  linked_counts_law =
      ap (set (freed_counts z b taker) (frame_of z (table_of b) giver))
      (counted_fits r (count_at (freed_counts z b taker) (frame_of z (table_of b) giver)) (subst (λ (c : List Count). CountBelow 65535 (count_at c (frame_of z (table_of b) giver))) (sym freed_counts_law) (counts_small z (slot_at (flushed z taker all_rights b.slots)) 65535 few (frame_of z (table_of b) giver))))
      ∙ ap (λ (c : List Count). more_at c (frame_of z (table_of b) giver) r) freed_by_lost

  mapped_counts : more_in (freed_counts z b taker) (frame_of z (table_of b) giver) r ≡ summary_of z (slot_at (mapped z s p taker r b.slots))
  mapped_counts = linked_counts_law ∙ map_summary z b.live b.slots sound.shape.live_long sound.shape.slots_long sound.pages s p u v r m

-- what the code makes of the slots in a grant: the taker gets the giver's link, then the giver's are cut
abbrev pub granted_slots : Sizes → List Slot → ℕ → ℕ → ℕ → List Slot
granted_slots z b g t r = cut_below z (linked_slots z b t (record { link = (slot_at b g).link; rights = r })) g (giver_loses r)

module _ (z : Sizes) (b : Tables) (sound : Sound z b) (s p u v r : ℕ) (m : Lendable z b.live (table_of b) s p u v r) (out : 1 ≤ s)
    (x y : ℕ) (e : (table_of b (key z s p)).link ≡ Page x y) where
  by_parent : Lendable z b.live (table_of b) x y u v r
  by_parent = parent_lendable z b.live (table_of b) sound.shape.live_long sound.pages s p u v r m x y e

  one : List Slot
  one = mapped z x y (key z u v) r b.slots

  -- it is the grant of the rules
  slots_granted : granted_slots z b.slots (key z s p) (key z u v) r ≡ granted z (key z s p) (key z u v) r b.slots
  unfolding one
  slots_granted =
      ap (λ (l : Link). cut_below z (linked_slots z b.slots (key z u v) (record { link = l; rights = r })) (key z s p) (giver_loses r)) e
      ∙ (ap (λ (l : List Slot). cut_below z l (key z s p) (giver_loses r)) (linked_mapped z b sound x y u v r by_parent)
      ∙ (cut_flushed z b.live one sound.shape.live_long (long_map z b sound x y u v r by_parent) (after_map z b sound x y u v r by_parent)
      (key z s p) (giver_loses r) (key_in z s p m.giver_space m.giver_page)
      ∙ sym (granted_is z (key z s p) (key z u v) r b.slots x y e)))

  after_grant : SoundPages z b.live (slot_at (granted z (key z s p) (key z u v) r b.slots))
  unfolding one
  after_grant =
      rw (granted_is z (key z s p) (key z u v) r b.slots x y e)
      (flushed_sound z b.live one sound.shape.live_long (after_map z b sound x y u v r by_parent) (key z s p) (giver_loses r) (out_of_pool z s p out)
      (giver_loses_small r (omega (arith, m.known_rights))))

  -- the counts when the giver is flushed as well
  granted_counts : (few : slot_count z < 65535) → less_at (more_in (freed_counts z b (key z u v)) (frame_of z (table_of b) (key z s p)) r) (frame_of z (table_of b) (key z s p)) (lost_below z one (key z s p) (giver_loses r))
      ≡ summary_of z (slot_at (granted z (key z s p) (key z u v) r b.slots))
  unfolding one
  granted_counts few =
      ap (λ (c : List Count). less_at c (frame_of z (table_of b) (key z s p)) (lost_below z one (key z s p) (giver_loses r))) (linked_counts_law z few b sound s p u v r m)
      ∙ (ap (less_at (linked_counts z b (key z s p) (key z u v) r) (frame_of z (table_of b) (key z s p)))
      (lost_flushed z b.live one sound.shape.live_long (long_map z b sound x y u v r by_parent) (after_map z b sound x y u v r by_parent) (key z s p) (giver_loses r) (key_in z s p m.giver_space m.giver_page))
      ∙ grant_summary z b.live b.slots sound.shape.live_long sound.shape.slots_long sound.pages s p u v r m x y e)

  -- an accepted grant
  grant_is : (counts : List Count) → counts ≡ summary_of z (slot_at (granted z (key z s p) (key z u v) r b.slots))
      → taken_of z b (granted_slots z b.slots (key z s p) (key z u v) r) counts u v ≡ accept z (alone b) (Grant s p u v r)
  unfolding board_after memory_after report
  grant_is counts q =
      ap (λ (l : List Slot). taken_of z b l counts u v) slots_granted
      ∙ taken_is z b sound (granted z (key z s p) (key z u v) r b.slots) u v m.taker_page
      (length_granted z (key z s p) (key z u v) r b.slots ∙ sound.shape.slots_long) after_grant counts q

  -- the slots in which the giver is cut, as the code has them
  linked_by_parent : linked_slots z b.slots (key z u v) (record { link = (table_of b (key z s p)).link; rights = r }) ≡ one
  unfolding one
  linked_by_parent =
      ap (λ (l : Link). linked_slots z b.slots (key z u v) (record { link = l; rights = r })) e ∙ linked_mapped z b sound x y u v r by_parent

-- ── the calls, piece by piece ────────────────────────────────────────────
-- on a sound board the checks of what is named are all of its number
pub named_checked : (z : Sizes) (b : Tables) → Sound z b → (s p u v r : ℕ) (shut : Bool)
    → named_checks z b.live s p u v r shut ≡ named_number z b s p u v r shut
unfolding named_checks named_number
named_checked z b sound s p u v r shut = rw (sound_true z b sound)

-- n is the number of what is named; itself is the set of the taker alone, and m the number of the lines
module _ (z : Sizes) (few : slot_count z < 65535) (b : Tables) (s p u v r n : ℕ) (is : n ≡ named_number z b s p u v r (eqb u 0)) where
  pub map_refused : (n ≡ 0 → ⊥) → refuse (alone b) n ≡ step z (alone b) (Map s p u v r)
  map_refused h = call_refused z b (Map s p u v r) n (map_named z b s p u v r n is h) h

  module _ (none : n ≡ 0) (itself under : List Bool) (m : ℕ) (is-itself : itself ≡ only_page z (key z u v)) (is-under : under ≡ line_has z b.slots itself)
      (is_m : m ≡ lines_number z b.slots under (key z s p) (key z s p) (key z u v) r) where
    map_counted : m ≡ number z (alone b) (Map s p u v r)
    map_counted = map_lines z b s p u v r n is none m (is_m ∙ rw (is-under, is-itself))

    pub map_refused_lines : (m ≡ 0 → ⊥) → refuse (alone b) m ≡ step z (alone b) (Map s p u v r)
    map_refused_lines h = call_refused z b (Map s p u v r) m map_counted h

    -- what is freed and lost when the taker is flushed, and the counts that then are right
    pub map_done : m ≡ 0 → (freed : List Slot) → freed ≡ cut_slots z b.slots under all_rights → (lost : Count) → lost ≡ cut_lost z b.slots under all_rights
        → (counts : List Count) → counts ≡ linked_in z b.slots b.summary (key z u v) (key z s p) lost r
        → taken_of z b (set freed (key z u v) (lent_slot s p r)) counts u v ≡ step z (alone b) (Map s p u v r)
    unfolding linked_in
    map_done h freed is-freed lost is_lost counts is-counts =
        rw (is-freed, is-under, is-itself)
        (map_is z b sound s p u v r fine.lendable counts
        (is-counts ∙ (rw (is_lost, is-under, is-itself) (mapped_counts z few b sound s p u v r fine.lendable)))
        ∙ call_accepted z b (Map s p u v r) m map_counted h)
      where
        fine : MapFine z b s p u v r
        fine = map_fine z (alone b) s p u v r (sym map_counted ∙ h)

        sound : Sound z b
        sound = (map_named_fine z b s p u v r n is none).sound

module _ (z : Sizes) (few : slot_count z < 65535) (b : Tables) (s p u v r n : ℕ) (is : n ≡ named_number z b s p u v r (eqb u 0 || eqb s 0)) where
  pub grant_refused : (n ≡ 0 → ⊥) → refuse (alone b) n ≡ step z (alone b) (Grant s p u v r)
  grant_refused h = call_refused z b (Grant s p u v r) n (grant_named z b s p u v r n is h) h

  module _ (none : n ≡ 0) (itself under : List Bool) (source m : ℕ) (is-itself : itself ≡ only_page z (key z u v)) (is-under : under ≡ line_has z b.slots itself)
      (is-source : source ≡ grant_source z (table_of b (key z s p)).link (key z s p)) (is_m : m ≡ lines_number z b.slots under (key z s p) source (key z u v) r) where
    grant_counted : m ≡ number z (alone b) (Grant s p u v r)
    grant_counted = grant_lines z b s p u v r n is none m (is_m ∙ rw (is-source, is-under, is-itself))

    pub grant_refused_lines : (m ≡ 0 → ⊥) → refuse (alone b) m ≡ step z (alone b) (Grant s p u v r)
    grant_refused_lines h = call_refused z b (Grant s p u v r) m grant_counted h

    -- the giver alone, and the pages with the giver on their line once the link is made; the counts after each of the three
    pub grant_done : m ≡ 0 → (freed : List Slot) → freed ≡ cut_slots z b.slots under all_rights → (lost : Count) → lost ≡ cut_lost z b.slots under all_rights
        → (new : List Slot) → new ≡ set freed (key z u v) (record { link = (table_of b (key z s p)).link; rights = r })
        → (giver : List Bool) → giver ≡ only_page z (key z s p) → (below : List Bool) → below ≡ line_has z new giver
        → (d : ℕ) → d ≡ giver_loses r → (last : List Slot) → last ≡ cut_slots z new below d → (given : Count) → given ≡ cut_lost z new below d
        → (more : List Count) → more ≡ linked_in z b.slots b.summary (key z u v) (key z s p) lost r
        → (j : ℕ) → j ≡ frame_of z (table_of b) (key z s p) → (counts : List Count) → counts ≡ less_at more j given
        → taken_of z b last counts u v ≡ step z (alone b) (Grant s p u v r)
    unfolding linked_in
    grant_done h freed is-freed lost is_lost new is-new giver is-giver below is_below d is-d last is_last given is-given more is-more j is-j counts is-counts =
        rw (is_last, is-d, is_below, is-giver, is-new, is-freed, is-under, is-itself)
        (grant_is z b sound s p u v r fine.lendable fine.giver_out lent.0 lent.1 lent.2 counts
        (is-counts
        ∙ rw (is-more, is_lost, is-given, is-j, is-d, is_below, is-giver, is-new, is-freed, is-under, is-itself, linked_by_parent z b sound s p u v r fine.lendable fine.giver_out lent.0 lent.1 lent.2)
        (granted_counts z b sound s p u v r fine.lendable fine.giver_out lent.0 lent.1 lent.2 few))
        ∙ call_accepted z b (Grant s p u v r) m grant_counted h)
      where
        fine : GrantFine z b s p u v r
        fine = grant_fine z (alone b) s p u v r (sym grant_counted ∙ h)

        sound : Sound z b
        sound = (grant_named_fine z b s p u v r n is none).sound

        lent : (x : ℕ) × (y : ℕ) × ((table_of b (key z s p)).link ≡ Page x y)
        lent = lent_by z b.live (table_of b) sound.pages (key z s p) (out_of_pool z s p fine.giver_out) fine.lendable.giver_held
