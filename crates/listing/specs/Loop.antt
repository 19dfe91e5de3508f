-- What a loop over the lines after the first comes to, for what it holds so far: whether the rows rose, the last of them, how many
-- they were, and the slots with theirs put in.
use Rattle.std.specs.Prelude.{ℕ, ◌+◌, Bool, true, ◌&&◌, List, length, drop, eqb, ltb, Option, Some, None}
use Rattle.lend.specs.declared.Slot.{Slot}
use Rattle.lend.specs.Sizes.{Sizes}
use Rattle.lend.specs.Start.{start_board}
use Rattle.text.specs.Lines.{lines}
use Rattle.listing.specs.Content.{rising_above, placed, board_with}
use Rattle.listing.specs.Read.{Answer, refused, judged, Rest, rest_of}

-- rows that rose up to the last one still rise with the next
abbrev pub rises_to : Bool → ℕ → ℕ → Bool
rises_to rising last next = rising && ltb last next

-- what is left of the lines settles the answer
abbrev pub finish : Sizes → ℕ → Bool → ℕ → ℕ → List Slot → Option Rest → Answer
finish z live rising last n slots None = refused z 17
finish z live rising last n slots (Some t) =
    judged z true (rising && rising_above z last t.rows && eqb (n + length t.rows) t.held)
    (board_with z (placed z slots t.rows) live)

-- the answer to a text whose first line ends before `from`
unfoldable pub read_from : Sizes → List ℕ → ℕ → ℕ → Answer
read_from z s live from = finish z live true 0 0 (start_board z).slots (rest_of z (lines (drop from s)))
