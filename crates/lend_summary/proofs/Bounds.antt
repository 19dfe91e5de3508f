-- How large a count may be, so that the code's numbers hold it.
use mathlib.Core.Path.{sym, subst}
use mathlib.Core.Bool.{◌&&◌}
use Prim.Native.Nat.{ℕ, ◌<◌}
use native.Mathlib.Decide.{dec_lt}
use native.Mathlib.Omega.{arith}
use lib.ListN.{get_or-eq_default}
use Rattle.lend.specs.declared.Count.{Count}
use Rattle.lend.specs.Sizes.{Sizes, slot_count}
use Rattle.lend.specs.Rights.{read_right, write_right, execute_right, within}
use Rattle.lend.specs.Slots.{Table}
use Rattle.lend.specs.Summary.{ends_at, count_of, no_count, count_at, summary_of}
use Rattle.lend_basics.proofs.Pigeon.{count_le}
use Rattle.lend_sound.proofs.Summary.{summary_long, summary_counts}
use Rattle.lend_summary.specs.Counts.{CountBelow}

-- what holds of the count of each frame, and of no count, holds of all counts of a summary, past the end too
pub each_count : (z : Sizes) (f : Table) (P : Count → Type 0) → ((i : ℕ) → P (count_of z f i)) → P no_count
    → (i : ℕ) → P (count_at (summary_of z f) i)
each_count z f P here past i = go (dec_lt i z.pages)
  where
    go : Dec (i < z.pages) → P (count_at (summary_of z f) i)
    go (yes l) = subst P (sym (summary_counts z f i l)) (here i)
    go (no l) = subst P (sym (get_or-eq_default (summary_of z f) no_count {n = i} (omega (arith, summary_long z f)))) past

-- no count is above the number of all pages: with slot_count z < 65535, one page more fits 16 bits
pub counts_small : (z : Sizes) (f : Table) (n : ℕ) → slot_count z < n → (i : ℕ) → CountBelow n (count_at (summary_of z f) i)
unfolding count_of
counts_small z f n l =
    each_count z f (CountBelow n)
    (λ i. record {
      held_below = omega (arith, count_le (ends_at z f i) (slot_count z));
      read_below = omega (arith, count_le (λ k. ends_at z f i k && within read_right (f k).rights) (slot_count z));
      write_below = omega (arith, count_le (λ k. ends_at z f i k && within write_right (f k).rights) (slot_count z));
      execute_below = omega (arith, count_le (λ k. ends_at z f i k && within execute_right (f k).rights) (slot_count z));
    })
    (record { held_below = omega arith; read_below = omega arith; write_below = omega arith; execute_below = omega arith })
