-- A writer holds a lent buffer, and writes into it from the position that it has reached.
use Rattle.std.specs.Prelude.{ℕ, List}
use Rattle.std.specs.Borrow.{MutBor}
use Rattle.text.specs.declared.write.Writer.{Writer}
use Rattle.text.specs.Write.{Page, page, puts}

-- a writer of this buffer from a position on
abbrev pub starting_at : MutBor (List ℕ) → ℕ → Writer
starting_at b at = record { bytes = b; at = at }

-- with nothing written yet
abbrev pub starting : MutBor (List ℕ) → Writer
starting b = starting_at b 0

-- the buffer as it is, and the position
abbrev pub page_of : Writer → Page
page_of w = page w.bytes.now w.at

-- the same writer, over the same buffer, once these bytes are written
unfoldable pub writes : Writer → List ℕ → Writer
writes w bs = let p = puts (page_of w) bs in record { bytes = record w.bytes { now = p.held }; at = p.at }
