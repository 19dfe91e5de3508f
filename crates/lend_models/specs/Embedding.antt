-- A board of the sizes z as a board of larger sizes w (02, M-100): the same spaces and pages, and all else as at the start.
use Rattle.std.specs.Prelude.{ℕ, ◌%◌, ◌≤◌, Bool, ◌&&◌, cond, List, ltb}
use Rattle.lend.specs.declared.Slot.{Slot}
use Rattle.lend.specs.declared.Place.{Place}
use Rattle.lend.specs.declared.Count.{Count}
use Rattle.lend.specs.Sizes.{Sizes, slot_count, key, space_of}
use Rattle.lend.specs.Lists.{tabulate}
use Rattle.lend.specs.Slots.{slot_at}
use Rattle.lend.specs.Tables.{Tables, alive}
use Rattle.lend.specs.Summary.{count_at}
use Rattle.lend.specs.Cache.{place_at}
use Rattle.lend.specs.Start.{start_board}

-- nothing in z is larger than in w
pub record Fits (z w : Sizes) : Type 0 where
  pub spaces_fit : z.spaces ≤ w.spaces
  pub pages_fit : z.pages ≤ w.pages
  pub places_fit : z.places ≤ w.places

-- the number that page k has in its space
abbrev pub page_of : Sizes → ℕ → ℕ
page_of z k = k % z.pages

-- page k of the sizes w is one that the sizes z have too
unfoldable pub shared : Sizes → Sizes → ℕ → Bool
shared z w k = ltb (space_of w k) z.spaces && ltb (page_of w k) z.pages

-- the number that this page has at the sizes z
abbrev pub narrow : Sizes → Sizes → ℕ → ℕ
narrow z w k = key z (space_of w k) (page_of w k)

-- a shared page keeps what it keeps; every other is as at the start
unfoldable pub wide_slots : Sizes → Sizes → List Slot → List Slot
wide_slots z w slots = tabulate (slot_count w) (λ k. cond (shared z w k) (slot_at slots (narrow z w k)) (slot_at (start_board w).slots k))

-- a space of z is live where it was; every other is as at the start
unfoldable pub wide_live : Sizes → Sizes → List Bool → List Bool
wide_live z w live = tabulate w.spaces (λ s. cond (ltb s z.spaces) (alive live s) (alive (start_board w).live s))

-- the places of the smaller cache, and empty ones after them
unfoldable pub wide_places : Sizes → List Place → List Place
wide_places w places = tabulate w.places (place_at places)

-- the counts of the smaller board's frames, and none for those after them
unfoldable pub wide_summary : Sizes → List Count → List Count
wide_summary w summary = tabulate w.pages (count_at summary)

abbrev pub wide : Sizes → Sizes → Tables → Tables
wide z w b = record {
  slots = wide_slots z w b.slots;
  live = wide_live z w b.live;
  places = wide_places w b.places;
  next = b.next;
  summary = wide_summary w b.summary;
}
