-- The script program as a definition, from the bytes of the input to the bytes of the output (01, 'The script program'), which ends
-- with the listing of the board (crate listing).
use Rattle.std.specs.Prelude.{ℕ, ◌+◌, cond, List, [], ◌∷◌, ◌++◌, take, Option, Some, None, option_map}
use Rattle.lend.specs.Sizes.{Sizes}
use Rattle.lend.specs.Tables.{Tables, State, alone}
use Rattle.lend.specs.Start.{start_board}
use Rattle.lend.specs.Calls.{Call, Reply, Outcome, step, refuse}
use Rattle.text.specs.declared.Request.{Request}
use Rattle.text.specs.declared.Request.TheVariants.{Create, Delete, Unmap, Flush, Map, Grant, Translate}
use Rattle.text.specs.Request.{request_of, is_comment, call_of}
use Rattle.text.specs.Lines.{lines}
use Rattle.script.specs.declared.Said.{Said}
use Rattle.script.specs.declared.Said.TheVariants.{Silent, Garbled, Emptied, Translated}
use Rattle.text.specs.Write.{answer_line, translation_line, malformed_line}
use Rattle.listing.specs.Listing.{listing_of}

-- ── one line ─────────────────────────────────────────────────────────────
-- a call is judged by the rules; a malformed line has number 16 and changes nothing
abbrev pub by_call : Sizes → State → Option Call → Outcome
by_call z st None = refuse st 16
by_call z st (Some c) = step z st c

unfoldable pub judged : Sizes → State → Option Request → Outcome
judged z st q = by_call z st (option_map call_of q)

-- what a request says: translate its address, hit and links, every other call what it emptied, and a malformed line nothing more
abbrev pub said_of : Option Request → Reply → Said
said_of (Some (Create space)) r = Emptied r.number r.emptied
said_of (Some (Delete space)) r = Emptied r.number r.emptied
said_of (Some (Unmap space page rights)) r = Emptied r.number r.emptied
said_of (Some (Flush space page rights)) r = Emptied r.number r.emptied
said_of (Some (Map from page to at rights)) r = Emptied r.number r.emptied
said_of (Some (Grant from page to at rights)) r = Emptied r.number r.emptied
said_of (Some (Translate space address rights)) r = Translated r.number r.address r.hit r.links
said_of None r = Garbled

-- what a line says, and the state after it
pub record Turn : Type 0 where
  pub said : Said
  pub state : State

abbrev pub silent : State → Turn
silent st = record { said = Silent; state = st }

abbrev pub spoken : Option Request → Outcome → Turn
spoken q o = record { said = said_of q o.reply; state = o.state }

-- a comment is skipped, and any other line is answered
unfoldable pub turn : Sizes → State → List ℕ → Turn
turn z st line = cond (is_comment line) (silent st) (spoken (request_of line) (judged z st (request_of line)))

-- what line n prints
unfoldable pub said_line : ℕ → Said → List ℕ
said_line n Silent = []
said_line n Garbled = malformed_line n
said_line n (Emptied number emptied) = answer_line n number emptied
said_line n (Translated number address hit links) = translation_line n number address hit links

-- ── the whole ────────────────────────────────────────────────────────────
-- what lines print from a state on, the first of them being line n, and then the end
unfoldable pub answers : Sizes → ℕ → State → List (List ℕ) → List ℕ
answers z n st [] = listing_of z st.board
answers z n st (line ∷ rest) = said_line n (turn z st line).said ++ answers z (n + 1) (turn z st line).state rest

-- an input that is read whole, from a board on
unfoldable pub output_of : Sizes → Tables → List ℕ → List ℕ
output_of z b input = answers z 1 (alone b) (lines input)

-- only so many bytes are read, and are the whole input
abbrev pub input_limit : ℕ
input_limit = 65536

unfoldable pub script_output : Sizes → List ℕ → List ℕ
script_output z input = output_of z (start_board z) (take input_limit input)
