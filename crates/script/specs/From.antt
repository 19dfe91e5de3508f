-- The script program that starts from the board of a listing (02, M-102): what it prints for the bytes of the listing and of the input.
use Rattle.std.specs.Prelude.{ℕ, cond, List, take, eqb}
use Rattle.lend.specs.Sizes.{Sizes}
use Rattle.text.specs.Write.{refused_line}
use Rattle.listing.specs.Read.{Answer, reading}
use Rattle.script.specs.Script.{input_limit, output_of}

-- the script from the board that was read; the number alone where the listing is refused
unfoldable pub output_by : Sizes → Answer → List ℕ → List ℕ
output_by z a input = cond (eqb a.number 0) (output_of z a.board (take input_limit input)) (refused_line a.number)

-- of the listing too only so many bytes are read, and are the whole of it
unfoldable pub from_output : Sizes → List ℕ → List ℕ → List ℕ
from_output z listing input = output_by z (reading z (take input_limit listing)) input
