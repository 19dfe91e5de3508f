-- No script of a model prints more than a buffer can hold.
use Prim.Native.Nat.{ℕ, ◌≤◌}
use native.Mathlib.Omega.{arith}
use Rattle.text.specs.Write.{last_position}
use Rattle.script.specs.Script.{input_limit}
use Rattle.script.specs.Bound.{output_bound}
use Rattle.board.specs.Model.{sizes, IsModel}

pub far : {spaces pages slots places : ℕ} → IsModel spaces pages slots places → output_bound (sizes spaces pages places) input_limit ≤ last_position
unfolding output_bound
far m = omega (arith, m.slots_are, m.few_slots)
