-- What the inner functions of map and grant compute. Only their contracts speak of these; no caller has to read them.
use Rattle.std.specs.Prelude.{ℕ, Bool, not, ◌&&◌, ◌||◌, List, [], ◌∷◌, eqb}
use Rattle.lend.specs.declared.Slot.{Slot}
use Rattle.lend.specs.declared.Count.{Count}
use Rattle.lend.specs.Sizes.{Sizes, slot_count, space_of}
use Rattle.lend.specs.Rights.{within}
use Rattle.lend.specs.Lists.{any, some}
use Rattle.lend.specs.Slots.{slot_at, held}
use Rattle.lend.specs.Tables.{Tables, alone, alive}
use Rattle.lend.specs.Line.{line_of, frame_of}
use Rattle.lend.specs.Cache.{place_for, dropped, dropped_where}
use Rattle.lend.specs.SoundTest.{sound_test}
use Rattle.lend.specs.Numbers.{Case, ◌when◌, first_number, no_space, no_page, bad_rights}
use Rattle.lend.specs.Calls.{Outcome, plain_reply}
use Rattle.lend_summary.specs.Counts.{less_at}
use Rattle.lend_code.specs.Inner.{has, inside_of, line_has, rights_of, lost_all, lost_in, only_page, space_pages, more_in}

-- a page of the table on the line of page k is in the space
unfoldable pub meets_in : Sizes → List Slot → ℕ → ℕ → Bool
meets_in z b k space = any (has (space_pages z space)) (line_of z (slot_at b) k)

-- a page of the space, other than this one, is in the set
unfoldable pub other_in : Sizes → List Bool → ℕ → ℕ → Bool
other_in z set space but = some (slot_count z) (λ k. has set k && eqb (space_of z k) space && not (eqb k but))

-- ── the numbers ──────────────────────────────────────────────────────────
-- what is judged of the numbers that a map or a grant names; first on a board that is known to be sound
abbrev pub checked_cases : Sizes → List Bool → ℕ → ℕ → ℕ → ℕ → ℕ → Bool → List Case
checked_cases z live from page to at rights shut =
    (3 when (no_space z from || no_space z to))
    ∷ (4 when (not (alive live from) || not (alive live to)))
    ∷ (5 when (no_page z page || no_page z at))
    ∷ (6 when bad_rights rights)
    ∷ (9 when shut)
    ∷ []

unfoldable pub named_checks : Sizes → List Bool → ℕ → ℕ → ℕ → ℕ → ℕ → Bool → ℕ
named_checks z live from page to at rights shut = first_number (checked_cases z live from page to at rights shut)

abbrev pub named_cases : Sizes → Tables → ℕ → ℕ → ℕ → ℕ → ℕ → Bool → List Case
named_cases z b from page to at rights shut = (1 when not (sound_test z b)) ∷ checked_cases z b.live from page to at rights shut

unfoldable pub named_number : Sizes → Tables → ℕ → ℕ → ℕ → ℕ → ℕ → Bool → ℕ
named_number z b from page to at rights shut = first_number (named_cases z b from page to at rights shut)

-- and then of the pages; under tells which pages have the taker on their line
unfoldable pub lines_number : Sizes → List Slot → List Bool → ℕ → ℕ → ℕ → ℕ → ℕ
lines_number z b under giver source taker rights =
    first_number
    ((11 when not (held (slot_at b (inside_of z giver))))
    ∷ (12 when not (within rights (slot_at b (inside_of z giver)).rights))
    ∷ (13 when meets_in z b giver (space_of z taker))
    ∷ (14 when other_in z under (space_of z source) taker)
    ∷ (15 when other_in z (line_has z b (only_page z source)) (space_of z taker) taker)
    ∷ [])

-- ── what is done ─────────────────────────────────────────────────────────
-- the counts when page t, which lost so much, is linked to page g with the rights r
unfoldable pub linked_in : Sizes → List Slot → List Count → ℕ → ℕ → Count → ℕ → List Count
linked_in z b counts t g lost r = more_in (less_at counts (frame_of z (slot_at b) t) lost) (frame_of z (slot_at b) g) r

-- the board gets new slots and counts: the taker's entry goes, and that of each page that lost a right
unfoldable pub taken_of : Sizes → Tables → List Slot → List Count → ℕ → ℕ → Outcome
taken_of z b new counts to at =
    let before : List ℕ = rights_of z b.slots in
    let after : List ℕ = rights_of z new in
    record {
      reply = plain_reply 0 (lost_all z before after);
      state = alone (record {
        slots = new;
        live = b.live;
        places = dropped_where z (lost_in before after) (dropped b.places (place_for to at b.places));
        next = b.next;
        summary = counts;
      });
    }
