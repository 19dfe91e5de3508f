-- The theorems at the two models, and the longest listing of each.
use Prim.Native.Nat.{ℕ, suc, ◌≤◌, ◌<◌}
use mathlib.Core.Path.{◌≡◌, refl, ap}
use mathlib.Core.List.{List}
use native.Mathlib.Omega.{arith}
use lib.ListN.{length}
use Rattle.lend.specs.Sizes.{Sizes, entry, premium}
use Rattle.lend.specs.Tables.{Tables}
use Rattle.lend.specs.Start.{start_board}
use Rattle.lend.specs.Sound.{Sound}
use Rattle.text.specs.Decimal.{decimal_in, decimal}
use Rattle.text.specs.Write.{live_line, page_line, held_line}
use Rattle.text.specs.Write as write
use Rattle.text.proofs.Digits.{decimal_one}
use Rattle.listing.specs.Live.{live_number}
use Rattle.listing.specs.Listing.{listing_of}
use Rattle.listing.specs.Content.{cleared}
use Rattle.listing.specs.Read.{Reads, accepted, reading}
use Rattle.listing.proofs.Said.{Readable}
use Rattle.listing_laws.proofs.Answers as answers
use Rattle.listing_laws.proofs.RoundTrip as trips
use Rattle.listing_laws.proofs.OneListing as one
use Rattle.listing_laws.proofs.Longest.{longest_line, longest_lines, longest, leaving, at_most}
use Rattle.listing_laws.proofs.Shorter.{two_shorter}

-- what holds of the listings of a model
pub record Listed (z : Sizes) : Type 0 where
  -- the reader answers what the request says
  pub reads : (s : List ℕ) → Reads z s (reading z s)
  -- writing a sound board and reading it gives that board with an empty cache and next place 0
  pub written_then_read : (b : Tables) → Sound z b → reading z (listing_of z b) ≡ accepted (cleared z b)
  -- reading an accepted listing and writing it gives the same bytes
  pub read_then_written : (s : List ℕ) (b : Tables) → reading z s ≡ accepted b → listing_of z b ≡ s
  -- no two boards share a listing, the cache aside
  pub same_listing : (b c : Tables) → Sound z b → Sound z c → listing_of z b ≡ listing_of z c → (b.slots ≡ c.slots) × (b.live ≡ c.live) × (b.summary ≡ c.summary)
  -- and a board has one
  pub one_listing : (b : Tables) (s : List ℕ) → reading z s ≡ accepted (cleared z b) → s ≡ listing_of z b
  -- the board that comes back is sound, and with a refusal it is the start board
  pub always_sound : (s : List ℕ) → Sound z (reading z s).board
  pub refused_start : (s : List ℕ) → ((reading z s).number ≡ 0 → ⊥) → (reading z s).board ≡ start_board z

listed : (z : Sizes) → Readable z → Listed z
listed z small = record {
  reads = answers.reads z small;
  written_then_read = trips.written_then_read z small;
  read_then_written = trips.read_then_written z small;
  same_listing = one.same_listing z small;
  one_listing = one.one_listing z small;
  always_sound = one.always_sound z small;
  refused_start = one.refused_start z;
}

entry_readable : Readable entry
unfolding live_number
entry_readable = record {
  some_page = omega arith;
  two_spaces = omega arith;
  some_place = omega arith;
  live_small = omega arith;
  spaces_small = omega arith;
  pages_small = omega arith;
  slots_small = omega arith;
}

premium_readable : Readable premium
unfolding live_number
premium_readable = record {
  some_page = omega arith;
  two_spaces = omega arith;
  some_place = omega arith;
  live_small = omega arith;
  spaces_small = omega arith;
  pages_small = omega arith;
  slots_small = omega arith;
}

-- all of it, of both models
pub entry_listed : Listed entry
entry_listed = listed entry entry_readable

pub premium_listed : Listed premium
premium_listed = listed premium premium_readable

-- ── the longest ──────────────────────────────────────────────────────────
entry_most : longest entry ≡ 8908
unfolding longest longest_lines longest_line live_line page_line held_line write.entry decimal decimal_in live_number
entry_most = refl

premium_most : longest premium ≡ 39614
unfolding longest longest_lines longest_line live_line page_line held_line write.entry decimal decimal_in live_number
premium_most = refl

-- one has as many bytes: entry_reached (Reached)
pub entry_longest : (b : Tables) → Sound entry b → length (listing_of entry b) ≤ 8908
entry_longest b w = omega (arith, at_most entry entry_readable b w, entry_most)

-- spaces 10 to 15 have two digits, and on every board two pages have a parent with one digit, or none
one_digit : (n : ℕ) → n < 10 → suc (length (decimal n)) ≤ length (decimal 15)
unfolding decimal decimal_in
one_digit n h = let e : length (decimal n) ≡ 1 = ap length (decimal_one n (omega arith)) in omega (arith, e)

-- one has as many bytes: premium_reached (Reached)
pub premium_longest : (b : Tables) → Sound premium b → length (listing_of premium b) ≤ 39612
premium_longest b w =
    let h = two_shorter premium premium_readable 10 (omega arith) (omega arith) (omega arith) one_digit b w in
    omega (arith, leaving premium premium_readable b w 2 (omega (arith, h)), premium_most)
