-- What the inner functions of translate, load and store compute. Only their contracts speak of these; no caller has to read them.
use Rattle.std.specs.Prelude.{ℕ, ◌+◌, ◌*◌, ◌%◌, Bool, not, cond, List, ltb}
use Rattle.lend.specs.declared.Place.{Place}
use Rattle.lend.specs.declared.Slot.{Slot}
use Rattle.lend.specs.Sizes.{Sizes, page_bytes, key}
use Rattle.lend.specs.Rights.{within}
use Rattle.lend.specs.Slots.{held, slot_at}
use Rattle.lend.specs.Tables.{Tables, table_of}
use Rattle.lend.specs.Line.{frame_of, links_of}
use Rattle.lend.specs.Cache.{place_at, place_for, cached}
use Rattle.lend.specs.SoundTest.{sound_test}
use Rattle.lend.specs.Numbers.{no_space, not_live, no_address, bad_rights}
use Rattle.lend.specs.Translate.{page_at, with_entry}
use Rattle.lend_code.specs.Inner.{inside_of}

-- the place after this one, and the first after the last
unfoldable pub place_after : Sizes → ℕ → ℕ
place_after z place = cond (ltb (place + 1) z.places) (place + 1) 0

-- the numbers of translate, load and store: fits is whether memory has its length (a translate takes none, so it is true), and
-- the rights that load and store ask for are never bad
unfoldable pub access_number : Sizes → Tables → Bool → ℕ → ℕ → ℕ → ℕ
access_number z b fits space address rights =
    cond (not (sound_test z b)) 1
    (cond (not fits) 2
    (cond (no_space z space) 3
    (cond (not_live b space) 4
    (cond (no_address z address) 5
    (cond (bad_rights rights) 6
    (cond (not (held (table_of b (inside_of z (page_at z space address))))) 11
    (cond (not (within rights (table_of b (inside_of z (page_at z space address))).rights)) 12 0)))))))

-- what a look at a page finds: the next board, the page's frame, the links that were followed to it, and whether the page was in the cache
pub record Look : Type 0 where
  pub board : Tables
  pub frame : ℕ
  pub links : ℕ
  pub hit : Bool

-- the entry of a page, by reads in the table alone
abbrev pub new_entry : Sizes → Tables → ℕ → ℕ → Place
new_entry z b space page = record {
  space = space;
  page = page;
  frame = frame_of z (table_of b) (key z space page);
  rights = (table_of b (inside_of z (key z space page))).rights;
}

-- a hit takes the frame from the cache, follows no link and changes nothing; a miss follows the line and puts the entry in
abbrev pub look_if : Bool → Sizes → Tables → ℕ → ℕ → Look
look_if found z b space page = record {
  board = cond found b (with_entry b (new_entry z b space page));
  frame = cond found (place_at b.places (place_for space page b.places)).frame (frame_of z (table_of b) (key z space page));
  links = cond found 0 (links_of z (table_of b) (key z space page));
  hit = found;
}

unfoldable pub look_at : Sizes → Tables → ℕ → ℕ → Look
look_at z b space page = look_if (cached space page b.places) z b space page

-- the links of a page: those that a miss has followed, and for a hit the line's own
unfoldable pub counted_of : Sizes → List Slot → ℕ → ℕ → Bool → ℕ → ℕ
counted_of z b space page hit followed = cond hit (links_of z (slot_at b) (key z space page)) followed

-- the byte of a frame that is as far in as the address is in its page
abbrev pub byte_at : ℕ → ℕ → ℕ
byte_at frame address = page_bytes * frame + address % page_bytes
