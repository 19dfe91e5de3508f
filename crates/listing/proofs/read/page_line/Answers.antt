-- `page_line` meets its contract: the line's numbers make the row, and where there are none there is none.
use Rattle.listing.proofs as own
use Rattle.listing.specs as spec
use Rattle.std.specs.Prelude.{option_map}
use mathlib.Core.Path.{ap, ◌∙◌}
use spec.Read.{row_of, row_in}
use Rattle.text.proofs.Reading.{exactly_all}
use own.read.page_line.Goals as goal

pub returns-in_err-space : goal.returns-in_err-space
unfolding row_in
returns-in_err-space c = c.from_residual.ensures ∙ ap (option_map row_of) (c.in_err-space.ensures ∙ exactly_all _ _)

pub returns : goal.returns
unfolding row_in
returns c = ap (option_map row_of) (c.in_ok-space.ensures ∙ exactly_all _ _)
