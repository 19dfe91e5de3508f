-- The listing of a board as bytes: the live spaces, the held pages outside space 0, and their number (01, 'The script program';
-- 02, M-102).
use Rattle.std.specs.Prelude.{ℕ, zero, suc, ◌-◌, ◌%◌, not, ◌&&◌, List, [], ◌++◌}
use Rattle.lend.specs.declared.Link.{Link}
use Rattle.lend.specs.declared.Link.TheVariants.{Nothing, Frame, Page}
use Rattle.lend.specs.declared.Slot.{Slot}
use Rattle.lend.specs.Sizes.{Sizes, slot_count, space_of, in_pool}
use Rattle.lend.specs.Lists.{count}
use Rattle.lend.specs.Slots.{Table, held}
use Rattle.lend.specs.Tables.{Tables, table_of}
use Rattle.text.specs.Write.{live_line, page_line, held_line}
use Rattle.listing.specs.Live.{live_number}

-- the line of a held page by its link; the parent of a frame's page is named 0, and such pages are in space 0 only
abbrev pub link_line : ℕ → ℕ → ℕ → Link → List ℕ
link_line space page rights Nothing = []
link_line space page rights (Frame i) = page_line space page 0 0 rights
link_line space page rights (Page s p) = page_line space page s p rights

-- the line of a page that keeps this slot, and none where it is empty
unfoldable pub slot_line : ℕ → ℕ → Slot → List ℕ
slot_line space page slot = link_line space page slot.rights slot.link

-- the number that page k has in its space
abbrev pub page_in : Sizes → ℕ → ℕ
page_in z k = k % z.pages

-- the lines of n pages from page k on
unfoldable pub pages_from : Sizes → Table → ℕ → ℕ → List ℕ
pages_from z f k zero = []
pages_from z f k (suc n) = slot_line (space_of z k) (page_in z k) (f k) ++ pages_from z f (suc k) n

-- all held pages outside space 0, by rising space, then page
unfoldable pub pages_listed : Sizes → Table → List ℕ
pages_listed z f = pages_from z f z.pages (slot_count z - z.pages)

-- their number
unfoldable pub held_outside : Sizes → Table → ℕ
held_outside z f = count (slot_count z) (λ k. not (in_pool z k) && held (f k))

-- the whole
unfoldable pub listing_of : Sizes → Tables → List ℕ
listing_of z b = live_line (live_number b.live) ++ (pages_listed z (table_of b) ++ held_line (held_outside z (table_of b)))
