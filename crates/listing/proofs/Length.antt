-- How long a listing can be.
use Prim.Native.Nat.{ℕ, zero, suc, ◌+◌, ◌*◌, ◌-◌, ◌≤◌, zero-le}
use native.Mathlib.Omega.{arith}
use lib.ListN.{length, length-append}
use Rattle.lend.specs.Sizes.{Sizes, slot_count, space_of}
use Rattle.lend.specs.declared.Link.{Link}
use Rattle.lend.specs.declared.Link.TheVariants.{Nothing, Frame, Page}
use Rattle.lend.specs.declared.Slot.{Slot}
use Rattle.lend.specs.Slots.{Table}
use Rattle.lend.specs.Tables.{Tables, table_of}
use Rattle.text.specs.Write.{live_line, page_line, held_line}
use Rattle.text.specs.Write as write
use Rattle.text.proofs.Digits.{decimal_longest}
use Rattle.listing.specs.Live.{live_number}
use Rattle.listing.specs.Listing.{page_in, link_line, slot_line, pages_from, pages_listed, held_outside, listing_of}

page_length : (s p q r t : ℕ) → length (page_line s p q r t) ≤ 83
unfolding page_line write.entry
page_length s p q r t =
    simp length-append (omega (arith, decimal_longest s, decimal_longest p, decimal_longest q, decimal_longest r, decimal_longest t))

held_length : (n : ℕ) → length (held_line n) ≤ 16
unfolding held_line write.entry
held_length n = simp length-append (omega (arith, decimal_longest n))

live_length : (n : ℕ) → length (live_line n) ≤ 16
unfolding live_line write.entry
live_length n = simp length-append (omega (arith, decimal_longest n))

link_length : (s p r : ℕ) (link : Link) → length (link_line s p r link) ≤ 83
link_length s p r Nothing = zero-le
link_length s p r (Frame i) = page_length s p 0 0 r
link_length s p r (Page t q) = page_length s p t q r

slot_length : (s p : ℕ) (slot : Slot) → length (slot_line s p slot) ≤ 83
unfolding slot_line
slot_length s p slot = link_length s p slot.rights slot.link

pages_length : (z : Sizes) (f : Table) (k n : ℕ) → length (pages_from z f k n) ≤ 83 * n
unfolding pages_from
pages_length z f k zero = zero-le
pages_length z f k (suc n) = rw length-append (omega (arith, slot_length (space_of z k) (page_in z k) (f k), pages_length z f (suc k) n))

-- of any board, sound or not
pub listing_length : (z : Sizes) (b : Tables) → length (listing_of z b) ≤ 83 * (slot_count z - z.pages) + 32
unfolding listing_of pages_listed
listing_length z b =
    simp length-append
    (omega (arith, live_length (live_number b.live), pages_length z (table_of b) z.pages (slot_count z - z.pages), held_length (held_outside z (table_of b))))
