-- `is_comment` meets its contract.
use Rattle.text.proofs as own
use own.Reading.{comment_first}
use mathlib.Core.Path.{refl, ◌∙◌}
use own.line.is_comment.Goals as goal

pub returns : goal.returns
returns c = c.eq.ensures ∙ comment_first c.args.line.now c.first.result _ c.first.ensures.value refl
