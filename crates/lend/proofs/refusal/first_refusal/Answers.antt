-- `first_refusal` meets its contract: the goals that are left, from the invariant.
use Rattle.std.proofs.Common.{sym, ap, ◌∙◌}
use Rattle.std.proofs.Math.ListN.{drop_of_length-le}
use Rattle.lend.specs.Refusals.{first_of}
use Rattle.lend.proofs.Refusals.{first_holds, first_passed}
use Rattle.lend.proofs.refusal.first_refusal.Goals as goal

pub returns-then-holds : goal.returns-then-holds
returns-then-holds c = first_holds _ _ _ c.loop-holds-test.true c.if-holds.true ∙ c.loop-holds.invariant

pub loop-holds-preserved : goal.loop-holds-preserved
loop-holds-preserved c = first_passed _ _ _ c.loop-holds-test.true c.if-holds.false ∙ c.loop-holds.invariant

pub returns : goal.returns
returns c = ap first_of (sym (drop_of_length-le _ c.loop-holds-test.false)) ∙ c.loop-holds.invariant
