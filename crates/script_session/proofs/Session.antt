-- The session of document 01 ('The script program'), computed from the definition.
use Prim.Native.Nat.{ℕ}
use mathlib.Core.Path.{◌≡◌, refl}
use mathlib.Core.List.{List, [], ◌∷◌, ◌++◌}
use Prim.Native.String.{String}
use Rattle.lend.specs.Sizes as sizes
use Rattle.lend.specs.Cache.{place_for, cached, empty_in, goes_to, next_after, lost_right}
use Rattle.lend.specs.Calls.{cases, number, board_after, memory_after, report, step}
use Rattle.lend.specs.Emptied.{emptied}
use Rattle.lend.specs.Lending.{mapped}
use Rattle.lend.specs.Line.{line, frame, links}
use Rattle.lend.specs.Lists.{every, some, count, tabulate_from}
use Rattle.lend.specs.Rights.{less, within}
use Rattle.lend.specs.SoundTest.{slot_test, pages_test, cache_test, summary_test, sound_test}
use Rattle.lend.specs.Summary.{summary_to}
use Rattle.lend.specs.Start.{start_board}
use Rattle.lend.specs.Translate.{physical, links_to, hit, looked}
use Rattle.lend.specs.Withdraw.{unmapped, flushed}
use Rattle.text.specs.Ascii.{bytes, newline}
use Rattle.text.specs.Decimal.{decimal_in, decimal, digit_of, more_digits, number as number_at_front}
use Rattle.text.specs.Fields.{after_key, field, fields}
use Rattle.text.specs.Lines.{lines}
use Rattle.text.specs.Request.{create_in, delete_in, unmap_in, flush_in, map_in, grant_in, translate_in, request_of, is_comment}
use Rattle.text.specs.Write.{entry, answer_line, translation_line, malformed_line, live_line, page_line, held_line}
use Rattle.listing.specs.Live.{live_number}
use Rattle.listing.specs.Listing.{slot_line, pages_from, pages_listed, held_outside, listing_of}
use Rattle.script.specs.Script.{judged, turn, said_line, answers, output_of, script_output}

-- lines, each with its newline
abbrev text : List String → List ℕ
text [] = []
text (line ∷ rest) = bytes line ++ newline ∷ text rest

abbrev input : List String
input =
    "# port counters"
    ∷ "op=create space=2"
    ∷ "op=map from=0 page=5 to=1 at=0 rights=7"
    ∷ "op=map from=1 page=0 to=2 at=3 rights=6"
    ∷ "op=translate space=2 address=3077 rights=4"
    ∷ "op=unmap space=1 page=0 rights=2"
    ∷ "op=translate space=2 address=3077 rights=2"
    ∷ "op=map from=2 page=3 to=1 at=9 rights=4"
    ∷ []

abbrev output : List String
output =
    "line=2 answer=0 emptied=0"
    ∷ "line=3 answer=0 emptied=0"
    ∷ "line=4 answer=0 emptied=0"
    ∷ "line=5 answer=0 address=5125 hit=0 links=3"
    ∷ "line=6 answer=0 emptied=0"
    ∷ "line=7 answer=12 address=0 hit=0 links=0"
    ∷ "line=8 answer=13 emptied=0"
    ∷ "live=7"
    ∷ "space=1 page=0 parent=0 at=5 rights=7"
    ∷ "space=2 page=3 parent=1 at=0 rights=4"
    ∷ "held=2"
    ∷ []

pub session : script_output sizes.entry (text input) ≡ text output
unfolding place_for cached empty_in goes_to next_after lost_right cases number board_after memory_after report step emptied mapped line frame links every some count tabulate_from less within slot_test pages_test cache_test sound_test summary_test summary_to start_board physical links_to hit looked unmapped flushed decimal_in decimal digit_of more_digits number_at_front after_key field fields lines create_in delete_in unmap_in flush_in map_in grant_in translate_in request_of is_comment entry answer_line translation_line malformed_line live_line page_line held_line judged turn said_line live_number slot_line pages_from pages_listed held_outside listing_of answers output_of script_output
session = refl

-- and the same on the premium model
pub premium_session : script_output sizes.premium (text input) ≡ text output
unfolding place_for cached empty_in goes_to next_after lost_right cases number board_after memory_after report step emptied mapped line frame links every some count tabulate_from less within slot_test pages_test cache_test sound_test summary_test summary_to start_board physical links_to hit looked unmapped flushed decimal_in decimal digit_of more_digits number_at_front after_key field fields lines create_in delete_in unmap_in flush_in map_in grant_in translate_in request_of is_comment entry answer_line translation_line malformed_line live_line page_line held_line judged turn said_line live_number slot_line pages_from pages_listed held_outside listing_of answers output_of script_output
premium_session = refl

-- ── what else the document says of lines, each on a script of its own ────
pub record Corners : Type 0 where
  pub empty_input : script_output sizes.entry [] ≡ bytes "live=3\nheld=0\n"
  pub empty_line : script_output sizes.entry (bytes "\n") ≡ bytes "line=1 answer=16\nlive=3\nheld=0\n"
  pub newline_missing : script_output sizes.entry (bytes "op=create space=2") ≡ bytes "line=1 answer=0 emptied=0\nlive=7\nheld=0\n"
  pub comments_counted : script_output sizes.entry (bytes "#\n# op=create\nop=create space=1\n") ≡ bytes "line=3 answer=10 emptied=0\nlive=3\nheld=0\n"
  pub zero_in_front : script_output sizes.entry (bytes "op=create space=02\n") ≡ bytes "line=1 answer=16\nlive=3\nheld=0\n"
  pub five_digits : script_output sizes.entry (bytes "op=create space=99999\n") ≡ bytes "line=1 answer=3 emptied=0\nlive=3\nheld=0\n"
  pub six_digits : script_output sizes.entry (bytes "op=create space=100000\n") ≡ bytes "line=1 answer=16\nlive=3\nheld=0\n"
  pub space_after : script_output sizes.entry (bytes "op=create space=2 \n") ≡ bytes "line=1 answer=16\nlive=3\nheld=0\n"
  pub other_order : script_output sizes.entry (bytes "op=unmap page=0 space=1 rights=2\n") ≡ bytes "line=1 answer=16\nlive=3\nheld=0\n"

pub corners : Corners
unfolding place_for cached empty_in goes_to next_after lost_right cases number board_after memory_after report step emptied mapped line frame links every some count tabulate_from less within slot_test pages_test cache_test sound_test summary_test summary_to start_board physical links_to hit looked unmapped flushed decimal_in decimal digit_of more_digits number_at_front after_key field fields lines create_in delete_in unmap_in flush_in map_in grant_in translate_in request_of is_comment entry answer_line translation_line malformed_line live_line page_line held_line judged turn said_line live_number slot_line pages_from pages_listed held_outside listing_of answers output_of script_output
corners = record {
  empty_input = refl;
  empty_line = refl;
  newline_missing = refl;
  comments_counted = refl;
  zero_in_front = refl;
  five_digits = refl;
  six_digits = refl;
  space_after = refl;
  other_order = refl;
}
