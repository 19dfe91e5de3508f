-- The byte image of a board, byte by byte as include/lend.h has it: what stands in it, and which bytes are one.
use Rattle.std.specs.Prelude.{ℕ, ◌+◌, ◌*◌, ◌/◌, ◌%◌, Bool, false, ◌&&◌, ◌||◌, cond, List, [], ◌∷◌, ◌++◌, map, length, get_or, replicate, eqb, leb}
use Rattle.lend.specs.declared.Link.{Link}
use Rattle.lend.specs.declared.Link.TheVariants.{Nothing, Frame, Page}
use Rattle.lend.specs.declared.Slot.{Slot}
use Rattle.lend.specs.declared.Place.{Place}
use Rattle.lend.specs.declared.Count.{Count}
use Rattle.lend.specs.Sizes.{Sizes, slot_count}
use Rattle.lend.specs.Lists.{every, tabulate}
use Rattle.lend.specs.Slots.{empty_slot}
use Rattle.lend.specs.Tables.{Tables}
use Rattle.lend.specs.Summary.{no_count}
use Rattle.lend.specs.Cache.{empty_place}

-- ── the image of a board ─────────────────────────────────────────────────
-- a link is a kind and two numbers; those that a kind does not use are 0
abbrev pub kind_of : Link → ℕ
kind_of Nothing = 0
kind_of (Frame i) = 1
kind_of (Page s p) = 2

abbrev pub first_in : Link → ℕ
first_in Nothing = 0
first_in (Frame i) = i
first_in (Page s p) = s

abbrev pub second_in : Link → ℕ
second_in Nothing = 0
second_in (Frame i) = 0
second_in (Page s p) = p

abbrev pub slot_bytes : Slot → List ℕ
slot_bytes s = kind_of s.link ∷ first_in s.link ∷ second_in s.link ∷ s.rights ∷ []

abbrev pub live_byte : Bool → ℕ
live_byte is = cond is 1 0

abbrev pub place_bytes : Place → List ℕ
place_bytes q = q.space ∷ q.page ∷ q.frame ∷ q.rights ∷ []

-- a number of the summary is two bytes, the low one first
abbrev pub low_byte : ℕ → ℕ
low_byte n = n % 256

abbrev pub high_byte : ℕ → ℕ
high_byte n = n / 256

abbrev pub count_bytes : Count → List ℕ
count_bytes c =
    low_byte c.held ∷ high_byte c.held ∷ low_byte c.read ∷ high_byte c.read
    ∷ low_byte c.write ∷ high_byte c.write ∷ low_byte c.execute ∷ high_byte c.execute ∷ []

-- the bytes of all elements, one after the other
unfoldable pub joined : {A : Type 0} → (A → List ℕ) → List A → List ℕ
joined f [] = []
joined f (x ∷ xs) = f x ++ joined f xs

-- slots, live spaces, places, next place, summary
unfoldable pub image_of : Tables → List ℕ
image_of t =
    joined slot_bytes t.slots ++ (map live_byte t.live ++ (joined place_bytes t.places ++ (t.next ∷ joined count_bytes t.summary)))

-- where each part begins, and how many bytes there are
abbrev pub live_from : Sizes → ℕ
live_from z = 4 * slot_count z

abbrev pub cache_from : Sizes → ℕ
cache_from z = live_from z + z.spaces

abbrev pub next_from : Sizes → ℕ
next_from z = cache_from z + 4 * z.places

abbrev pub summary_from : Sizes → ℕ
summary_from z = next_from z + 1

abbrev pub image_bytes : Sizes → ℕ
image_bytes z = summary_from z + 8 * z.pages

-- ── the board of an image ────────────────────────────────────────────────
abbrev pub byte_at : List ℕ → ℕ → ℕ
byte_at bytes j = get_or bytes j 0

-- a kind is at most 2, and a number that the kind does not use is 0
abbrev pub link_reads : ℕ → ℕ → ℕ → Bool
link_reads kind x y = leb kind 2 && (leb 1 kind || eqb x 0) && (leb 2 kind || eqb y 0)

abbrev pub link_from : ℕ → ℕ → ℕ → Link
link_from kind x y = cond (eqb kind 1) (Frame x) (cond (eqb kind 2) (Page x y) Nothing)

abbrev pub slot_from : ℕ → ℕ → ℕ → ℕ → Slot
slot_from kind x y r = record { link = link_from kind x y; rights = r }

abbrev pub place_from : ℕ → ℕ → ℕ → ℕ → Place
place_from space page frame r = record { space = space; page = page; frame = frame; rights = r }

abbrev pub number_from : ℕ → ℕ → ℕ
number_from low high = low + 256 * high

-- the four bytes that begin at a place
abbrev pub slot_reads : List ℕ → ℕ → Bool
slot_reads bytes at = link_reads (byte_at bytes at) (byte_at bytes (at + 1)) (byte_at bytes (at + 2))

abbrev pub slot_in : List ℕ → ℕ → Slot
slot_in bytes at = slot_from (byte_at bytes at) (byte_at bytes (at + 1)) (byte_at bytes (at + 2)) (byte_at bytes (at + 3))

abbrev pub place_in : List ℕ → ℕ → Place
place_in bytes at = place_from (byte_at bytes at) (byte_at bytes (at + 1)) (byte_at bytes (at + 2)) (byte_at bytes (at + 3))

-- the eight bytes that begin at a place: any two of them are a number
abbrev pub count_in : List ℕ → ℕ → Count
count_in bytes at = record {
  held = number_from (byte_at bytes at) (byte_at bytes (at + 1));
  read = number_from (byte_at bytes (at + 2)) (byte_at bytes (at + 3));
  write = number_from (byte_at bytes (at + 4)) (byte_at bytes (at + 5));
  execute = number_from (byte_at bytes (at + 6)) (byte_at bytes (at + 7));
}

-- every slot of the image is one, and every live byte is 0 or 1
unfoldable pub slots_read : Sizes → List ℕ → Bool
slots_read z bytes = every (slot_count z) (λ k. slot_reads bytes (4 * k))

unfoldable pub live_reads : Sizes → List ℕ → Bool
live_reads z bytes = every z.spaces (λ s. leb (byte_at bytes (live_from z + s)) 1)

-- the bytes are a board's image
unfoldable pub is_image : Sizes → List ℕ → Bool
is_image z bytes = eqb (length bytes) (image_bytes z) && slots_read z bytes && live_reads z bytes

-- the tables that stand in an image
unfoldable pub slots_in : Sizes → List ℕ → List Slot
slots_in z bytes = tabulate (slot_count z) (λ k. slot_in bytes (4 * k))

unfoldable pub live_in : Sizes → List ℕ → List Bool
live_in z bytes = tabulate z.spaces (λ s. eqb (byte_at bytes (live_from z + s)) 1)

unfoldable pub places_in : Sizes → List ℕ → List Place
places_in z bytes = tabulate z.places (λ i. place_in bytes (cache_from z + 4 * i))

unfoldable pub summary_in : Sizes → List ℕ → List Count
summary_in z bytes = tabulate z.pages (λ i. count_in bytes (summary_from z + 8 * i))

unfoldable pub tables_in : Sizes → List ℕ → Tables
tables_in z bytes = record {
  slots = slots_in z bytes;
  live = live_in z bytes;
  places = places_in z bytes;
  next = byte_at bytes (next_from z);
  summary = summary_in z bytes;
}

-- A board that is not sound, as no space is live: it stands for bytes that are no board's image, so that every call on them gives 1.
unfoldable pub no_board : Sizes → Tables
no_board z = record {
  slots = replicate (slot_count z) empty_slot;
  live = replicate z.spaces false;
  places = replicate z.places empty_place;
  next = 0;
  summary = replicate z.pages no_count;
}

-- the board of any bytes
unfoldable pub board_from : Sizes → List ℕ → Tables
board_from z bytes = cond (is_image z bytes) (tables_in z bytes) (no_board z)

-- bytes over which a board is written: bytes of another length stay
unfoldable pub written : Sizes → List ℕ → Tables → List ℕ
written z bytes t = cond (eqb (length bytes) (image_bytes z)) (image_of t) bytes
