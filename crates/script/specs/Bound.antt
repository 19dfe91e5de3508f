-- How long the output of a script can be.
use Rattle.std.specs.Prelude.{ℕ, ◌+◌, ◌*◌, ◌-◌}
use Rattle.lend.specs.Sizes.{Sizes, slot_count}

-- for an input of n bytes: 21 for each of its bytes (an empty line is one byte and prints `line=65536 answer=16`, with its
-- newline) and as many where the last newline is missing, 83 for each page outside space 0, and 16 each for the first and the
-- last line of the listing
unfoldable pub output_bound : Sizes → ℕ → ℕ
output_bound z n = 21 * (n + 1) + 83 * (slot_count z - z.pages) + 32
