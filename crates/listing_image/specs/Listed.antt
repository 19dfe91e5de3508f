-- What a call from C that writes or reads a listing leaves behind: the number, and every byte of image, text and out fields.
use Rattle.std.specs.Prelude.{ℕ, cond, List, [], length, eqb}
use Rattle.lend.specs.Sizes.{Sizes}
use Rattle.image.specs.Image.{image_of, image_bytes, board_from}
use Rattle.image.specs.Answered.{Left, left, three_of}
use Rattle.listing.specs.Read.{Answer, reading}
use Rattle.listing.specs.Write.{Written, writing}

-- the number, the text, and the out fields
pub record Listed : Type 0 where
  pub number : ℕ
  pub text : List ℕ
  pub out : List ℕ

-- these three
abbrev pub listed : ℕ → List ℕ → List ℕ → Listed
listed number text out = record { number = number; text = text; out = out }

-- the length written is the first out field
abbrev pub listed_by : Written → Listed
listed_by w = listed w.number w.held (three_of w.count 0 0)

-- the image is only read
unfoldable pub write_answer : Sizes → List ℕ → List ℕ → Listed
write_answer z image text = listed_by (writing z (board_from z image) text)

-- any image of the right length is written over, with a refusal by the start board
abbrev pub read_left : Answer → Left
read_left a = left a.number (image_of a.board) [] (three_of 0 0 0)

-- an image of another length is 1, and nothing is written
unfoldable pub read_answer : Sizes → List ℕ → List ℕ → Left
read_answer z text image = cond (eqb (length image) (image_bytes z)) (read_left (reading z text)) (left 1 image [] (three_of 0 0 0))
