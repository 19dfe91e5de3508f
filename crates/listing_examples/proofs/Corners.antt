-- What M-102 says of listings, each on a text of its own: the number that the definition computes, and the board of the shortest listing.
use Prim.Native.Nat.{ℕ}
use mathlib.Core.Path.{◌≡◌, refl}
use mathlib.Core.List.{List, [], ◌∷◌, ◌++◌}
use Prim.Native.String.{String}
use lib.ListN.{set, replicate}
use Rattle.lend.specs.Sizes as sizes
use Rattle.lend.specs.Cache.{place_for, cached, empty_in}
use Rattle.lend.specs.Line.{line, frame}
use Rattle.lend.specs.Summary.{no_count, summary_to}
use Rattle.lend.specs.Lists.{every, some, count, tabulate_from}
use Rattle.lend.specs.Rights.{less, within}
use Rattle.lend.specs.SoundTest.{slot_test, pages_test, cache_test, summary_test, sound_test}
use Rattle.lend.specs.Start.{start_board}
use Rattle.text.specs.Ascii.{bytes, newline}
use Rattle.text.specs.Decimal.{decimal_in, decimal, digit_of, more_digits, number}
use Rattle.text.specs.Fields.{after_key, field, fields}
use Rattle.text.specs.Lines.{lines}
use Rattle.text.specs.Write.{entry}
use Rattle.listing.specs.Live.{live_number, live_flags}
use Rattle.listing.specs.Content.{rising_above, placed, board_of}
use Rattle.listing.specs.Read.{accepted, live_in, held_in, row_in, row_fits, held_last, rest_of, content_of, ended, said, refusal, judged, reading}

-- lines, each with its newline
abbrev text : List String → List ℕ
text [] = []
text (line ∷ rest) = bytes line ++ newline ∷ text rest

-- the session's listing: two pages that end at frame 5, the second to be read only
abbrev session_text : List String
session_text = "live=7" ∷ "space=1 page=0 parent=0 at=5 rights=7" ∷ "space=2 page=3 parent=1 at=0 rights=4" ∷ "held=2" ∷ []

abbrev answer : List String → ℕ
answer t = (reading sizes.entry (text t)).number

pub record Corners : Type 0 where
  -- the start board's listing, and the session's
  pub start : reading sizes.entry (bytes "live=3\nheld=0\n") ≡ accepted (start_board sizes.entry)
  pub session : answer session_text ≡ 0
  -- reading it builds the summary (M-106): frame 5 and no other
  pub summary : (reading sizes.entry (text session_text)).board.summary ≡ set (replicate (sizes.entry).pages no_count) 5 (record { held = 2; read = 2; write = 1; execute = 1 })
  -- 17: malformed, missing or extra lines, and numbers out of their fields or not well written
  pub no_bytes : answer [] ≡ 17
  pub newline_missing : (reading sizes.entry (bytes "live=3\nheld=0")).number ≡ 17
  pub empty_line : answer ("live=3" ∷ "" ∷ "held=0" ∷ []) ≡ 17
  pub comment : answer ("# a board" ∷ "live=3" ∷ "held=0" ∷ []) ≡ 17
  pub live_missing : answer ("held=0" ∷ []) ≡ 17
  pub held_missing : answer ("live=3" ∷ []) ≡ 17
  pub after_held : answer ("live=3" ∷ "held=0" ∷ "held=0" ∷ []) ≡ 17
  pub live_of_nine : answer ("live=256" ∷ "held=0" ∷ []) ≡ 17
  pub space_0 : answer ("live=3" ∷ "space=0 page=0 parent=0 at=0 rights=7" ∷ "held=1" ∷ []) ≡ 17
  pub space_8 : answer ("live=3" ∷ "space=8 page=0 parent=0 at=0 rights=7" ∷ "held=1" ∷ []) ≡ 17
  pub no_rights : answer ("live=3" ∷ "space=1 page=0 parent=0 at=0 rights=0" ∷ "held=1" ∷ []) ≡ 17
  pub zero_in_front : answer ("live=03" ∷ "held=0" ∷ []) ≡ 17
  pub held_too_large : answer ("live=3" ∷ "held=225" ∷ []) ≡ 17
  -- 18: order, twice, count; and a 17 further on is found first
  pub held_wrong : answer ("live=3" ∷ "held=224" ∷ []) ≡ 18
  pub out_of_order : answer ("live=3" ∷ "space=1 page=1 parent=0 at=0 rights=7" ∷ "space=1 page=0 parent=0 at=0 rights=7" ∷ "held=2" ∷ []) ≡ 18
  pub named_twice : answer ("live=3" ∷ "space=1 page=1 parent=0 at=0 rights=7" ∷ "space=1 page=1 parent=0 at=0 rights=7" ∷ "held=2" ∷ []) ≡ 18
  pub malformed_first : answer ("live=3" ∷ "space=1 page=1 parent=0 at=0 rights=7" ∷ "space=1 page=0 parent=0 at=0 rights=7" ∷ "held=02" ∷ []) ≡ 17
  -- 1: not sound; and an 18 is found first
  pub space_1_not_live : answer ("live=1" ∷ "held=0" ∷ []) ≡ 1
  pub parent_not_held : answer ("live=3" ∷ "space=1 page=0 parent=1 at=1 rights=7" ∷ "held=1" ∷ []) ≡ 1
  pub disorder_first : answer ("live=1" ∷ "held=1" ∷ []) ≡ 18

pub corners : Corners
unfolding place_for cached empty_in line frame every some count tabulate_from less within slot_test pages_test cache_test sound_test summary_test summary_to start_board decimal_in decimal digit_of more_digits number after_key field fields lines entry live_number live_flags rising_above placed board_of live_in held_in row_in row_fits held_last rest_of content_of ended said refusal judged reading
corners = record {
  start = refl;
  session = refl;
  summary = refl;
  no_bytes = refl;
  newline_missing = refl;
  empty_line = refl;
  comment = refl;
  live_missing = refl;
  held_missing = refl;
  after_held = refl;
  live_of_nine = refl;
  space_0 = refl;
  space_8 = refl;
  no_rights = refl;
  zero_in_front = refl;
  held_too_large = refl;
  held_wrong = refl;
  out_of_order = refl;
  named_twice = refl;
  malformed_first = refl;
  space_1_not_live = refl;
  parent_not_held = refl;
  disorder_first = refl;
}
