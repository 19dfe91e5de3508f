-- What a listing says, and its board (02, M-102): how it is spelt, which numbers are in their fields, which order is right.
use Rattle.std.specs.Prelude.{ℕ, ◌-◌, ◌≤◌, ◌<◌, ◌≡◌, Bool, true, ◌&&◌, List, [], ◌∷◌, ◌++◌, length, set, replicate, T, ltb}
use Rattle.lend.specs.declared.Slot.{Slot}
use Rattle.lend.specs.Sizes.{Sizes, slot_count, key}
use Rattle.lend.specs.Rights.{all_rights}
use Rattle.lend.specs.Slots.{lent_slot, slot_at}
use Rattle.lend.specs.Tables.{Tables}
use Rattle.lend.specs.Summary.{summary_of}
use Rattle.lend.specs.Cache.{empty_place}
use Rattle.lend.specs.Start.{start_board}
use Rattle.text.specs.Write.{live_line, page_line, held_line}
use Rattle.listing.specs.declared.read.Row.{Row}
use Rattle.listing.specs.Live.{live_flags, all_live}

-- what a whole listing says
pub record Content : Type 0 where
  pub live : ℕ
  pub rows : List Row
  pub held : ℕ

-- ── spelt ────────────────────────────────────────────────────────────────
-- a page line with its newline
abbrev pub row_line : Row → List ℕ
row_line r = page_line r.space r.page r.parent r.at r.rights

-- one line after the other
unfoldable pub row_lines : List Row → List ℕ
row_lines [] = []
row_lines (r ∷ rest) = row_line r ++ row_lines rest

-- `live=` first, `held=` last, page lines alone between, each with its newline
unfoldable pub spelt : Content → List ℕ
spelt c = live_line c.live ++ (row_lines c.rows ++ held_line c.held)

-- ── in their fields ──────────────────────────────────────────────────────
-- the numbers of a page line
pub record RowFits (z : Sizes) (r : Row) : Type 0 where
  pub space_from : 1 ≤ r.space
  pub space_to : r.space < z.spaces
  pub page_to : r.page < z.pages
  pub parent_to : r.parent < z.spaces
  pub at_to : r.at < z.pages
  pub rights_from : 1 ≤ r.rights
  pub rights_to : r.rights ≤ all_rights

-- every row does
pub data AllFit (z : Sizes) : List Row → Type 0 where
  no_rows : AllFit z []
  one_row : {r : Row} {rest : List Row} → RowFits z r → AllFit z rest → AllFit z (r ∷ rest)

-- and the first and the last line
pub record Fits (z : Sizes) (c : Content) : Type 0 where
  pub live_to : c.live ≤ all_live z
  pub rows_fit : AllFit z c.rows
  pub held_to : c.held ≤ slot_count z - z.pages

-- the text says this and nothing else: well formed, every number in its field
pub record Says (z : Sizes) (s : List ℕ) (c : Content) : Type 0 where
  pub is_spelt : s ≡ spelt c
  pub fits : Fits z c

-- ── in order ─────────────────────────────────────────────────────────────
-- the page of a row, as one number
abbrev pub row_key : Sizes → Row → ℕ
row_key z r = key z r.space r.page

-- each page above the one before it, the first above k
unfoldable pub rising_above : Sizes → ℕ → List Row → Bool
rising_above z k [] = true
rising_above z k (r ∷ rest) = ltb k (row_key z r) && rising_above z (row_key z r) rest

-- pages by rising space, then page, none twice (every page outside space 0 is above 0); and as many as held says
pub record Ordered (z : Sizes) (c : Content) : Type 0 where
  pub rising : T (rising_above z 0 c.rows)
  pub all_counted : length c.rows ≡ c.held

-- ── its board ────────────────────────────────────────────────────────────
-- what the page of a row keeps
abbrev pub row_slot : Row → Slot
row_slot r = lent_slot r.parent r.at r.rights

-- the slots with those of the rows put in
unfoldable pub placed : Sizes → List Slot → List Row → List Slot
placed z slots [] = slots
placed z slots (r ∷ rest) = placed z (set slots (row_key z r) (row_slot r)) rest

-- a board with these slots and their summary, the live spaces of a number, and an empty cache
abbrev pub board_with : Sizes → List Slot → ℕ → Tables
board_with z slots live = record {
  slots = slots;
  live = live_flags z.spaces live;
  places = replicate z.places empty_place;
  next = 0;
  summary = summary_of z (slot_at slots);
}

-- space 0 holds its frames, the rows are lent, all else is empty
unfoldable pub board_of : Sizes → Content → Tables
board_of z c = board_with z (placed z (start_board z).slots c.rows) c.live

-- a board with an empty cache and next place 0
abbrev pub cleared : Sizes → Tables → Tables
cleared z b = record { slots = b.slots; live = b.live; places = replicate z.places empty_place; next = 0; summary = b.summary }
