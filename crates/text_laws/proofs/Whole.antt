-- A writer measures by writing into a slice of no bytes (`&mut []`): it ends at the length, and has stored nothing.
use Prim.Native.Nat.{ℕ, ◌+◌, ◌≤◌}
use mathlib.Core.Path.{◌≡◌, refl, ◌∙◌}
use mathlib.Core.List.{List, [], ◌∷◌}
use native.Mathlib.Omega.{arith}
use lib.ListN.{length}
use Rattle.text.specs.Write.{last_position, Wrote}
use Rattle.text.proofs.Writing.{wrote_length, wrote_next}

-- the position is then the length
pub measured_length : {bs m : List ℕ} {k : ℕ} → Wrote [] 0 bs m k → length bs ≤ last_position → k ≡ length bs
measured_length {bs} w far = let z : 0 + length bs ≡ length bs = omega arith in wrote_next w (rw z far) ∙ z

-- a buffer of no bytes stays one
still_none : (m : List ℕ) → length m ≡ 0 → m ≡ []
still_none [] e = refl
still_none (x ∷ m) e = absurd (omega (arith, e))

-- and nothing was stored
pub measured_none : {bs m : List ℕ} {k : ℕ} → Wrote [] 0 bs m k → m ≡ []
measured_none {m = m} w = still_none m (wrote_length w)
