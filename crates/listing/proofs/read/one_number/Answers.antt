-- `one_number` meets its contract: a line that has no number has none up to the most.
use Rattle.listing.proofs as own
use Rattle.listing.specs as spec
use mathlib.Core.Path.{ap, ◌∙◌}
use spec.Read.{up_to}
use Rattle.text.proofs.Reading.{exactly_all}
use own.read.one_number.Goals as goal

pub returns-in_err-n : goal.returns-in_err-n
returns-in_err-n c = c.from_residual.ensures ∙ ap (up_to c.args.most) (c.in_err-n.ensures ∙ exactly_all _ _)
