-- `other_in` meets its contract: the goals that are left, from the invariant.
use Rattle.calls.proofs as own
use Rattle.lend_code.proofs.OneSpace.{no_such_space}
use own.Others.{one_here, none_here}
use own.lines.other_in.Goals as goal

pub returns-then-space : goal.returns-then-space
returns-then-space g c = no_such_space _ _ _ _ c.args._shape.is_model.some_pages c.if-space.true

pub returns-then-k-but : goal.returns-then-k-but
returns-then-k-but g c = one_here _ _ _ _ c.if-space.false _ c.loop-k.auto.k c.loop-k-test.true c.if-set-k.true c.if-k-but.true

pub returns : goal.returns
returns g c = none_here _ _ _ _ c.args._shape.is_model.some_pages _ c.loop-k.invariant c.loop-k-test.false
