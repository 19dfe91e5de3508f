-- `field` meets its contract.
use Rattle.text.proofs as own
use own.Reading.{handed_none, handed_field}
use mathlib.Core.Path.{sym, ◌∙◌}
use borrow.Author.Rules.{rules}
use own.read.field.Goals as goal

pub returns-then-not-starts_with : goal.returns-then-not-starts_with
returns-then-not-starts_with c = handed_none c.args.s c.args.key.now (sym c.starts_with.ensures.value ∙ c.if-not-starts_with.true)

pub returns : goal.returns
returns c =
    c.number.ensures
    ∙ handed_field c.args.s c.args.key.now (sym c.starts_with.ensures.value ∙ c.if-not-starts_with.false) (search rules)
