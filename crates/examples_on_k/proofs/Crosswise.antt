-- Counts that were changed about are told apart.
use mathlib.Core.Path.{refl}
use Rattle.lend.specs.Lists.{every}
use Rattle.lend_summary.specs.Meaning.{sum_to}
use Rattle.examples_on_k.specs.Crosswise.{Crosswise}

pub crosswise : Crosswise
unfolding every sum_to
crosswise = record { same_total = refl; told_apart = refl; told_same = refl }
