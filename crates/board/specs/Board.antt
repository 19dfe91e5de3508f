-- A board as the tables that the rules speak of.
use Rattle.std.specs.Prelude.{ℕ, ◌≡◌, refl, List}
use Rattle.lend.specs.declared.Slot.{Slot}
use Rattle.lend.specs.declared.Place.{Place}
use Rattle.lend.specs.Tables.{Tables}
use Rattle.board.specs.declared.Board.{Board}
use Rattle.board.specs.declared.shape.Shape.{Shape}

abbrev pub tables : {spaces pages slots places : ℕ} → Board spaces pages slots places → Tables
tables b = record { slots = b.slots; live = b.live; places = b.cache.places; next = b.cache.next; summary = b.summary }

-- tables with other slots, and with other places
abbrev pub with_slots : Tables → List Slot → Tables
with_slots t slots = record { slots = slots; live = t.live; places = t.places; next = t.next; summary = t.summary }

abbrev pub with_places : Tables → List Place → Tables
with_places t places = record { slots = t.slots; live = t.live; places = places; next = t.next; summary = t.summary }

-- and back, for a shape: nothing is lost either way
abbrev pub board_of : {spaces pages slots places : ℕ} → Shape spaces pages slots places → Tables → Board spaces pages slots places
board_of shape t = record {
  shape = shape;
  slots = t.slots;
  live = t.live;
  cache = record { places = t.places; next = t.next };
  summary = t.summary;
}

pub tables_board_of : {spaces pages slots places : ℕ} (shape : Shape spaces pages slots places) (t : Tables) → tables (board_of shape t) ≡ t
tables_board_of shape t = refl

pub board_of_tables : {spaces pages slots places : ℕ} (b : Board spaces pages slots places) → board_of b.shape (tables b) ≡ b
board_of_tables b = refl
