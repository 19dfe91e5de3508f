-- `first_refusal` meets its contract. The invariant: what is left of the cases has the same first number as all.
use Rattle.std.proofs.Common.{◌≡◌}
use Rattle.std.specs.Prelude.{drop}
use Rattle.lend.specs.Refusals.{first_of}
use Rattle.lend.proofs.refusal.first_refusal.Given as goal

abbrev pub invariant-loop-holds : goal.invariant-loop-holds
invariant-loop-holds l = first_of (drop l.holds-index l.cases) ≡ first_of l.cases
