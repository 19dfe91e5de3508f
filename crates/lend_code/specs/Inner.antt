-- What the inner functions of a model's code compute. Only their contracts speak of these; no caller has to read them.
use Rattle.std.specs.Prelude.{ℕ, zero, suc, ◌+◌, ◌-◌, ◌<◌, ◌≡◌, Bool, true, false, not, ◌&&◌, ◌||◌, cond, List, get_or, set, replicate, T, eqb, ltb, leb}
use Rattle.lend.specs.declared.Link.{Link}
use Rattle.lend.specs.declared.Link.TheVariants.{Nothing, Frame, Page}
use Rattle.lend.specs.declared.Slot.{Slot}
use Rattle.lend.specs.declared.Place.{Place}
use Rattle.lend.specs.declared.Count.{Count}
use Rattle.lend.specs.Sizes.{Sizes, slot_count, key, space_of, in_pool}
use Rattle.lend.specs.Rights.{read_right, write_right, execute_right, all_rights, less, within}
use Rattle.lend.specs.Lists.{any, every, count, tabulate}
use Rattle.lend.specs.Slots.{Table, slot_at, held, with_rights}
use Rattle.lend.specs.Tables.{Tables, alone, alive}
use Rattle.lend.specs.Line.{line, line_of, frame_of}
use Rattle.lend.specs.Summary.{no_count, count_at}
use Rattle.lend.specs.Cache.{filled, page_named, place_at, place_for, dropped_where}
use Rattle.lend.specs.SoundTest.{slot_test, is_empty_place, sound_test}
use Rattle.lend.specs.Start.{start_board}
use Rattle.lend.specs.Numbers.{no_space, no_page, bad_rights}
use Rattle.lend.specs.Calls.{Outcome, plain_reply}
use Rattle.lend_summary.specs.Counts.{lost_count, more_at}

-- a page of the table itself, for any other the first one
abbrev pub inside_of : Sizes → ℕ → ℕ
inside_of z k = cond (ltb k (slot_count z)) k 0

-- a set of pages as a list of tests, false past its end
abbrev pub has : List Bool → ℕ → Bool
has set k = get_or set k false

-- for each page, whether its line has a page of the set
unfoldable pub line_has : Sizes → List Slot → List Bool → List Bool
line_has z b set = tabulate (slot_count z) (λ k. any (has set) (line_of z (slot_at b) k))

-- the rights of each page
unfoldable pub rights_of : Sizes → List Slot → List ℕ
rights_of z b = tabulate (slot_count z) (λ k. (slot_at b k).rights)

-- what is left of a page's rights when it loses d, if it does
abbrev pub left_of : ℕ → Bool → ℕ → ℕ
left_of r loses d = cond loses (less r d) r

-- the rights of each page when those of the set have lost d
unfoldable pub rights_left : Sizes → List ℕ → List Bool → ℕ → List ℕ
rights_left z before set d = tabulate (slot_count z) (λ k. left_of (get_or before k 0) (has set k) d)

-- each slot with these rights
unfoldable pub slots_with : Sizes → List Slot → List ℕ → List Slot
slots_with z b after = tabulate (slot_count z) (λ k. with_rights (get_or after k 0) (slot_at b k))

-- how many pages had a right before and have none after
unfoldable pub lost_all : Sizes → List ℕ → List ℕ → ℕ
lost_all z before after = count (slot_count z) (λ k. not (eqb (get_or before k 0) 0) && eqb (get_or after k 0) 0)

-- page k has lost a right
abbrev pub lost_in : List ℕ → List ℕ → ℕ → Bool
lost_in before after k = not (within (get_or before k 0) (get_or after k 0))

-- ── the summary ──────────────────────────────────────────────────────────
-- where page k is counted: at its frame; past the last frame where it is in space 0 or has no right
abbrev pub counts_at : Sizes → ℕ → ℕ → ℕ → ℕ
counts_at z k r frame = cond (in_pool z k || eqb r 0) z.pages frame

-- the summary of the first n pages, by the rights and frames of all
unfoldable pub summary_by : Sizes → List ℕ → List ℕ → ℕ → List Count
summary_by z rights frames zero = replicate z.pages no_count
summary_by z rights frames (suc k) =
    let s : List Count = summary_by z rights frames k in
    let i : ℕ = counts_at z k (get_or rights k 0) (get_or frames k 0) in
    more_at s i (get_or rights k 0)

abbrev pub summary_with : Sizes → List ℕ → List ℕ → List Count
summary_with z rights frames = summary_by z rights frames (slot_count z)

-- one more where the test holds, as far as 16 bits go
abbrev pub more_in16 : Bool → ℕ → ℕ
more_in16 t n = cond (t && ltb n 65535) (n + 1) n

-- a count with one page more, of the rights r, as far as 16 bits go
unfoldable pub counted_in16 : ℕ → Count → Count
counted_in16 r c = record {
  held = more_in16 true c.held;
  read = more_in16 (within read_right r) c.read;
  write = more_in16 (within write_right r) c.write;
  execute = more_in16 (within execute_right r) c.execute;
}

-- the counts of all frames with one page more at frame i
unfoldable pub more_in : List Count → ℕ → ℕ → List Count
more_in s i r = set s i (counted_in16 r (count_at s i))

-- what was lost between two arrays of rights
unfoldable pub losses_of : Sizes → List ℕ → List ℕ → Count
losses_of z before after = lost_count (slot_count z) (λ k. get_or before k 0) (λ k. get_or after k 0)

-- frames has the frame of every held page of the table
pub record Framed (z : Sizes) (f : Table) (frames : List ℕ) : Type 0 where
  pub right : (k : ℕ) → T (held (f k)) → get_or frames k 0 ≡ frame_of z f k

-- ── the test of soundness ────────────────────────────────────────────────
-- lent_test, where the parent's slot is at hand
unfoldable pub lent_fits : Sizes → List Bool → Slot → ℕ → ℕ → ℕ → ℕ → Bool
lent_fits z live up k r s p =
    alive live (space_of z k) && ltb s z.spaces && ltb p z.pages && alive live s && held up && leb 1 r && leb r all_rights
    && within r up.rights

-- every slot fits its page, for some live spaces
pub record Fitting (z : Sizes) (b : List Slot) : Type 0 where
  pub live : List Bool
  pub fits : (k : ℕ) → k < slot_count z → T (slot_test z live (slot_at b) k)

-- the line above page k, with n pages left to visit from k on, comes to space 0 and has no page in the space of k
abbrev pub rest_ok : Sizes → Table → ℕ → ℕ → Link → Bool
rest_ok z f k n Nothing = true
rest_ok z f k n (Frame i) = true
rest_ok z f k n (Page s p) =
    any (in_pool z) (line z f (n - 1) (key z s p)) && not (any (λ q. eqb (space_of z q) (space_of z k)) (line z f (n - 1) (key z s p)))

unfoldable pub quick_line : Sizes → Table → ℕ → Bool
quick_line z f k = rest_ok z f k z.spaces (f k).link

-- the place names a page with these rights and this frame
unfoldable pub place_fits : Sizes → ℕ → ℕ → Place → Bool
place_fits z r frame q = filled q && ltb q.space z.spaces && ltb q.page z.pages && eqb q.frame frame && eqb q.rights r

-- place i fits, by arrays of all pages' rights and frames
unfoldable pub place_ok : Sizes → List ℕ → List ℕ → List Place → ℕ → Place → Bool
place_ok z rights frames c i q =
    is_empty_place q
    || (place_fits z (get_or rights (inside_of z (page_named z q)) 0) (get_or frames (inside_of z (page_named z q)) 0) q && eqb (place_for q.space q.page c) i)

unfoldable pub places_fit : Sizes → List ℕ → List ℕ → List Place → Bool
places_fit z rights frames c = every z.places (λ i. place_ok z rights frames c i (place_at c i))

-- ── the calls ────────────────────────────────────────────────────────────
-- the numbers of a call that names a page and rights, with the rest of them; first on a board that is known to be sound
unfoldable pub page_checks : Sizes → List Bool → ℕ → ℕ → ℕ → ℕ → ℕ
page_checks z live space page rights rest =
    cond (no_space z space) 3 (cond (not (alive live space)) 4 (cond (no_page z page) 5 (cond (bad_rights rights) 6 rest)))

unfoldable pub page_number : Sizes → Tables → ℕ → ℕ → ℕ → ℕ → ℕ
page_number z b space page rights rest = cond (not (sound_test z b)) 1 (page_checks z b.live space page rights rest)

-- the page y alone
unfoldable pub only_page : Sizes → ℕ → List Bool
only_page z y = tabulate (slot_count z) (λ k. eqb k y)

-- the pages of a space
unfoldable pub space_pages : Sizes → ℕ → List Bool
space_pages z space = tabulate (slot_count z) (λ k. eqb (space_of z k) space)

-- the slots when the pages of a set have lost d, and what they have lost
unfoldable pub cut_slots : Sizes → List Slot → List Bool → ℕ → List Slot
cut_slots z b set d = slots_with z b (rights_left z (rights_of z b) set d)

unfoldable pub cut_lost : Sizes → List Slot → List Bool → ℕ → Count
cut_lost z b set d = losses_of z (rights_of z b) (rights_left z (rights_of z b) set d)

-- the board then, its summary aside
unfoldable pub cut_of : Sizes → Tables → List Bool → ℕ → Tables
cut_of z b set d = record {
  slots = cut_slots z b.slots set d;
  live = b.live;
  places = dropped_where z (lost_in (rights_of z b.slots) (rights_left z (rights_of z b.slots) set d)) b.places;
  next = b.next;
  summary = b.summary;
}

-- a board with another summary
abbrev pub with_summary : Tables → List Count → Tables
with_summary b counts = record { slots = b.slots; live = b.live; places = b.places; next = b.next; summary = counts }

-- done, with the pages of a set that lost d, and the counts that are then right
unfoldable pub withdrawn_of : Sizes → Tables → List Bool → ℕ → List Count → Outcome
withdrawn_of z b set d counts = record {
  reply = plain_reply 0 (cut_lost z b.slots set d).held;
  state = alone (with_summary (cut_of z b set d) counts);
}

-- the slots of the start board
unfoldable pub start_slots : Sizes → List Slot
start_slots z = (start_board z).slots
