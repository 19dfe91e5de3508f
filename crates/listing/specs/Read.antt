-- The reader of a listing as a definition, from any bytes to a number and a board (02, M-102). `Reads` is what it has to answer;
-- that `reading` answers so, and that no other answer is right, are the theorems `reads` and `reads_once` (listing_laws, Answers).
use Rattle.std.specs.Prelude.{ℕ, ◌-◌, ◌≡◌, Bool, true, not, ◌&&◌, cond, List, [], ◌∷◌, length, get_or, ltb, leb, eqb, Option, Some, None, option_map, option_and_then}
use Rattle.lend.specs.Sizes.{Sizes, slot_count}
use Rattle.lend.specs.Rights.{all_rights}
use Rattle.lend.specs.Numbers.{◌when◌, first_number}
use Rattle.lend.specs.Tables.{Tables}
use Rattle.lend.specs.Sound.{Sound}
use Rattle.lend.specs.SoundTest.{sound_test}
use Rattle.lend.specs.Start.{start_board}
use Rattle.text.specs.Ascii.{bytes, newline}
use Rattle.text.specs.Fields.{fields}
use Rattle.text.specs.Lines.{lines}
use Rattle.listing.specs.declared.read.Row.{Row}
use Rattle.listing.specs.Live.{all_live}
use Rattle.listing.specs.Content.{Content, Says, Ordered, rising_above, board_of}

-- the number, and the board that comes back with it
pub record Answer : Type 0 where
  pub number : ℕ
  pub board : Tables

-- with each refusal the start board comes back
abbrev pub refused : Sizes → ℕ → Answer
refused z n = record { number = n; board = start_board z }

-- a board that was read
abbrev pub accepted : Tables → Answer
accepted b = record { number = 0; board = b }

-- ── what is to be answered ───────────────────────────────────────────────
-- a text that says nothing is malformed; then its order is asked, and then its board
pub record Reads (z : Sizes) (s : List ℕ) (a : Answer) : Type 0 where
  pub malformed : ((c : Content) → Says z s c → ⊥) → a ≡ refused z 17
  pub disordered : (c : Content) → Says z s c → (Ordered z c → ⊥) → a ≡ refused z 18
  pub unsound : (c : Content) → Says z s c → Ordered z c → (Sound z (board_of z c) → ⊥) → a ≡ refused z 1
  pub read : (c : Content) → Says z s c → Ordered z c → Sound z (board_of z c) → a ≡ accepted (board_of z c)

-- ── computed ─────────────────────────────────────────────────────────────
-- the number of a line, where it is no larger than the most
abbrev pub up_to : ℕ → Option (List ℕ) → Option ℕ
up_to most None = None
up_to most (Some ns) = cond (leb (get_or ns 0 0) most) (Some (get_or ns 0 0)) None

-- the first line, without its newline, and so the others
unfoldable pub live_in : ℕ → List ℕ → Option ℕ
live_in most line = up_to most (fields (bytes "live=" ∷ []) line)

-- the last line
unfoldable pub held_in : ℕ → List ℕ → Option ℕ
held_in most line = up_to most (fields (bytes "held=" ∷ []) line)

-- the row of these numbers
abbrev pub row_of : List ℕ → Row
row_of ns = record { space = get_or ns 0 0; page = get_or ns 1 0; parent = get_or ns 2 0; at = get_or ns 3 0; rights = get_or ns 4 0 }

-- a line between them
unfoldable pub row_in : List ℕ → Option Row
row_in line = option_map row_of (fields (bytes "space=" ∷ bytes " page=" ∷ bytes " parent=" ∷ bytes " at=" ∷ bytes " rights=" ∷ []) line)

-- each number is in its field
unfoldable pub row_fits : Sizes → Row → Bool
row_fits z r =
    leb 1 r.space && ltb r.space z.spaces && ltb r.page z.pages && ltb r.parent z.spaces && ltb r.at z.pages && leb 1 r.rights
    && leb r.rights all_rights

-- a row, where its numbers are in their fields
abbrev pub fitting : Sizes → Option Row → Option Row
fitting z None = None
fitting z (Some r) = cond (row_fits z r) (Some r) None

-- the lines after the first: the last is `held=`, those before it are pages
pub record Rest : Type 0 where
  pub rows : List Row
  pub held : ℕ

-- a row in front of them
abbrev pub with_row : Row → Option Rest → Option Rest
with_row r rest = option_map (λ t. record { rows = r ∷ t.rows; held = t.held }) rest

-- the last line alone
unfoldable pub held_last : Option ℕ → Option Rest
held_last held = option_map (λ n. record { rows = []; held = n }) held

-- all of them, or nothing where one is malformed
unfoldable pub rest_of : Sizes → List (List ℕ) → Option Rest
rest_of z [] = None
rest_of z (line ∷ []) = held_last (held_in (slot_count z - z.pages) line)
rest_of z (line ∷ more ∷ rest) = option_and_then (λ r. with_row r (rest_of z (more ∷ rest))) (fitting z (row_in line))

-- the first line in front of them
abbrev pub with_live : ℕ → Option Rest → Option Content
with_live live rest = option_map (λ t. record { live = live; rows = t.rows; held = t.held }) rest

-- all lines
unfoldable pub content_of : Sizes → List (List ℕ) → Option Content
content_of z [] = None
content_of z (line ∷ rest) = option_and_then (λ live. with_live live (rest_of z rest)) (live_in (all_live z) line)

-- the last byte is a newline
unfoldable pub ended : List ℕ → Bool
ended s = eqb (get_or s (length s - 1) 0) newline

-- what a text says, if anything
unfoldable pub said : Sizes → List ℕ → Option Content
said z s = cond (ended s) (content_of z (lines s)) None

-- the numbers, in the order in which they are tried
unfoldable pub refusal : Bool → Bool → Bool → ℕ
refusal formed ordered sound = first_number ((17 when not formed) ∷ (18 when not ordered) ∷ (1 when not sound) ∷ [])

-- the board where the number is 0, and the start board with any other
abbrev pub by_number : Sizes → Tables → ℕ → Answer
by_number z b n = cond (eqb n 0) (accepted b) (refused z n)

-- the board that a text makes, by what was found of the text
unfoldable pub judged : Sizes → Bool → Bool → Tables → Answer
judged z formed ordered b = by_number z b (refusal formed ordered (sound_test z b))

-- 17 for a text that says nothing; else 18, 1 or its board
abbrev pub answer_by : Sizes → Option Content → Answer
answer_by z None = refused z 17
answer_by z (Some c) = judged z true (rising_above z 0 c.rows && eqb (length c.rows) c.held) (board_of z c)

-- what the reader answers
unfoldable pub reading : Sizes → List ℕ → Answer
reading z s = answer_by z (said z s)
