-- The search of the first numbers for one that passes a test: what holds before each turn, and that a turn in vain keeps it.
use mathlib.Core.Path.{◌≡◌}
use mathlib.Core.Bool.{Bool, false}
use Prim.Native.Nat.{ℕ, ◌+◌, ◌<◌}
use borrow.Author.Count.{below_more}

-- none of the first k numbers passes the test
pub record Failed (t : ℕ → Bool) (k : ℕ) : Type 0 where
  pub fails : (j : ℕ) → j < k → t j ≡ false

module _ (t : ℕ → Bool) where
  pub failed_more : (k : ℕ) → Failed t k → t k ≡ false → Failed t (k + 1)
  failed_more k f e = record { fails = below_more (λ (j : ℕ). t j ≡ false) k f.fails e }
