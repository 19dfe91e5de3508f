-- A sound board for each model whose listing is as long as one can be.
use Prim.Native.Nat.{ℕ, ◌-◌}
use mathlib.Core.Path.{◌≡◌, refl}
use mathlib.Core.Bool.{true, ◌&&◌, cond}
use lib.ListN.{length, set, replicate}
use lib.Dec.{eqb, leb}
use Rattle.lend.specs.declared.Slot.{Slot}
use Rattle.lend.specs.declared.Count.{Count}
use Rattle.lend.specs.Sizes.{Sizes, slot_count, space_of, in_pool, entry, premium}
use Rattle.lend.specs.Lists.{tabulate, tabulate_from, every, some, count}
use Rattle.lend.specs.Rights.{all_rights, less, within}
use Rattle.lend.specs.Slots.{frame_slot, lent_slot}
use Rattle.lend.specs.Tables.{Tables}
use Rattle.lend.specs.Cache.{empty_place, place_for, cached, empty_in}
use Rattle.lend.specs.Line.{line, frame}
use Rattle.lend.specs.Summary.{no_count, summary_to}
use Rattle.lend.specs.Sound.{Sound}
use Rattle.lend.specs.SoundTest.{slot_test, pages_test, cache_test, summary_test, sound_test}
use Rattle.lend_sound.proofs.SoundTest.{test_sound}
use Rattle.text.specs.Decimal.{decimal_in, decimal}
use Rattle.text.specs.Write.{live_line, page_line, held_line}
use Rattle.text.specs.Write as write
use Rattle.listing.specs.Live.{live_number}
use Rattle.listing.specs.Listing.{page_in, slot_line, pages_from, pages_listed, held_outside, listing_of}

-- the last pages of the last two spaces come from space 0; the other pages of the last space come from the one of these that is not
-- in their space, and all others from the last page of the last space
abbrev pub full_slot : Sizes → ℕ → Slot
full_slot z k =
    cond (in_pool z k) (frame_slot k)
    (cond (eqb (page_in z k) (z.pages - 1) && leb (z.spaces - 2) (space_of z k)) (lent_slot 0 (z.pages - 1) all_rights)
    (cond (eqb (space_of z k) (z.spaces - 1)) (lent_slot (z.spaces - 2) (z.pages - 1) all_rights) (lent_slot (z.spaces - 1) (z.pages - 1) all_rights)))

-- so every page ends at the last frame, with every right
abbrev pub full_count : Sizes → Count
full_count z =
    let n = slot_count z - z.pages in
    record { held = n; read = n; write = n; execute = n }

-- every page held, every space live
unfoldable pub full : Sizes → Tables
full z = record {
  slots = tabulate (slot_count z) (full_slot z);
  live = replicate z.spaces true;
  places = replicate z.places empty_place;
  next = 0;
  summary = set (replicate z.pages no_count) (z.pages - 1) (full_count z);
}

-- both are sound, by their tests
pub entry_full : Sound entry (full entry)
unfolding full place_for cached empty_in line frame every some count tabulate_from less within slot_test pages_test cache_test sound_test summary_test summary_to
entry_full = test_sound entry (full entry) tt

-- its listing has as many bytes as entry_longest allows
pub entry_reached : length (listing_of entry (full entry)) ≡ 8908
unfolding full every some count tabulate_from live_line page_line held_line write.entry decimal decimal_in live_number slot_line pages_from pages_listed held_outside listing_of
entry_reached = refl

-- and as premium_longest does
pub premium_reached : length (listing_of premium (full premium)) ≡ 39612
unfolding full every some count tabulate_from live_line page_line held_line write.entry decimal decimal_in live_number slot_line pages_from pages_listed held_outside listing_of
premium_reached = refl

pub premium_full : Sound premium (full premium)
unfolding full place_for cached empty_in line frame every some count tabulate_from less within slot_test pages_test cache_test sound_test summary_test summary_to
premium_full = test_sound premium (full premium) tt
