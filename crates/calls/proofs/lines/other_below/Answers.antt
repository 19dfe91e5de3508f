-- `other_below` meets its contract: the goals that are left, from the invariant.
use Rattle.calls.proofs as own
use mathlib.Core.Path.{ap, ◌∙◌}
use mathlib.Core.Bool.{Bool}
use mathlib.Core.List.{List}
use Rattle.lend_code.specs.Inner.{line_has}
use Rattle.lend_code.specs.Lending.{other_in}
use Rattle.lend_code.proofs.OneSpace.{no_such_space}
use Rattle.board.specs.Model.{sizes}
use own.Others.{not_this, line_misses, line_hits, none_here}
use own.lines.other_below.Goals as goal
use own.lines.other_below.Goals.{else-k-but-via-then-k-but+else-line_meets, else-k-but-via-else-k-but}

pub returns-then-space : goal.returns-then-space
returns-then-space g c = no_such_space _ _ _ _ c.args.b.now.shape.is_model.some_pages c.if-space.true

pub returns-then-line_meets : goal.returns-then-line_meets
returns-then-line_meets g c =
    line_hits _ _ _ _ _ _ c.if-space.false c.loop-k.auto.k c.loop-k-test.true _ _ c.only-source.ensures c.line_meets.ensures c.if-line_meets.true c.if-k-but.true

pub loop-k-preserved : goal.loop-k-preserved
loop-k-preserved g c =
    elim c.else-k-but.branch [
      | else-k-but-via-then-k-but+else-line_meets w ↦ line_misses _ _ _ _ _ _ c.if-space.false c.loop-k.auto.k c.loop-k-test.true _ c.loop-k.invariant w.line_meets.ensures w.if-line_meets.false
      | else-k-but-via-else-k-but w ↦ not_this (sizes g.row.SPACES g.row.PAGES g.row.PLACES) _ _ _ _ c.loop-k.invariant w.if-k-but.false
    ]

pub returns : goal.returns
returns g c =
    none_here _ _ _ _ c.args.b.now.shape.is_model.some_pages _ c.loop-k.invariant c.loop-k-test.false
    ∙ ap
    (λ (s : List Bool).
    other_in (sizes g.row.SPACES g.row.PAGES g.row.PLACES) (line_has (sizes g.row.SPACES g.row.PAGES g.row.PLACES) c.args.b.now.slots s) c.args.space c.args.but)
    c.only-source.ensures
