-- Which spaces are live as one number: bit s is set when space s is live (02, M-102).
use Rattle.std.specs.Prelude.{ℕ, zero, suc, ◌+◌, ◌*◌, ◌/◌, ◌%◌, Bool, true, cond, List, [], ◌∷◌, replicate, eqb}
use Rattle.lend.specs.Sizes.{Sizes}

-- the number of a list of flags, the flag of space 0 lowest
unfoldable pub live_number : List Bool → ℕ
live_number [] = 0
live_number (is ∷ rest) = cond is 1 0 + 2 * live_number rest

-- and back: the flags of n spaces
unfoldable pub live_flags : ℕ → ℕ → List Bool
live_flags zero m = []
live_flags (suc n) m = eqb (m % 2) 1 ∷ live_flags n (m / 2)

-- the number with all spaces set
abbrev pub all_live : Sizes → ℕ
all_live z = live_number (replicate z.spaces true)
