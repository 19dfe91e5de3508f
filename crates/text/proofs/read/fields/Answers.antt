-- `fields` meets its contract: the goals that are left, from the invariant.
use Rattle.text.proofs as own
use Rattle.text.specs as spec
use spec.Fields.{read_off}
use own.Reading.{handed_shows, so_many, not_so_many, read_none, read_more, read_all, read_beyond}
use mathlib.Core.Path.{ap, ◌∙◌}
use borrow.Author.Rules.{rules}
use own.read.fields.Goals as goal

pub returns-then-keys : goal.returns-then-keys
returns-then-keys g c = not_so_many c.args.keys.now _ c.if-keys.true

pub returns-in_err-n : goal.returns-in_err-n
returns-in_err-n g c =
    c.from_residual.ensures ∙ read_none c.loop-i.invariant _ c.loop-i-test.true (ap read_off c.in_err-n.ensures ∙ handed_shows _ _) ∙ so_many c.args.keys.now _ c.if-keys.false

pub loop-i-preserved : goal.loop-i-preserved
loop-i-preserved g c = read_more c.loop-i.invariant _ c.loop-i-test.true (ap read_off c.in_ok-n.ensures ∙ handed_shows _ _)

pub returns-then-is_empty : goal.returns-then-is_empty
returns-then-is_empty g c = read_all c.loop-i.invariant c.loop-i-test.false (search rules) ∙ so_many c.args.keys.now _ c.if-keys.false

pub returns-else-is_empty : goal.returns-else-is_empty
returns-else-is_empty g c = read_beyond c.loop-i.invariant c.loop-i-test.false (search rules) ∙ so_many c.args.keys.now _ c.if-keys.false
