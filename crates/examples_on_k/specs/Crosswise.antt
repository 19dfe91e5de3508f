-- Summaries are compared frame by frame: two that agree in total only are told apart.
use Rattle.std.specs.Prelude.{ℕ, ◌≡◌, Bool, true, false, List, set, replicate, eqb}
use Rattle.lend.specs.declared.Count.{Count}
use Rattle.lend.specs.Sizes.{Sizes, entry}
use Rattle.lend.specs.Summary.{no_count}
use Rattle.lend.specs.SoundTest.{same_counts}
use Rattle.lend_summary.specs.Meaning.{total}

-- frames 5 and 6 have so many pages that can be read, and no other frame has one
abbrev pub readers : ℕ → ℕ → List Count
readers five six = set (set (replicate entry.pages no_count) 5 (of five)) 6 (of six)
  where
    of : ℕ → Count
    of n = record { held = n; read = n; write = 0; execute = 0 }

-- a comparison in total
abbrev pub same_in_total : Sizes → List Count → List Count → Bool
same_in_total z s t = eqb (total z s) (total z t)

-- the comparison that the test of soundness makes
abbrev pub compared : Sizes → List Count → List Count → Bool
compared z s t = same_counts z s t

-- counts that were changed about: the total does not show it, the test does
pub record Crosswise : Type 0 where
  pub same_total : same_in_total entry (readers 3 1) (readers 1 3) ≡ true
  pub told_apart : compared entry (readers 3 1) (readers 1 3) ≡ false
  pub told_same : compared entry (readers 3 1) (readers 3 1) ≡ true
