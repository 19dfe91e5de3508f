-- `flush` meets its contract: the form's numbers make the request, and where there are none there is none.
use Rattle.text.proofs as own
use Rattle.text.specs as spec
use Rattle.std.specs.Prelude.{option_map}
use mathlib.Core.Path.{ap, ◌∙◌}
use spec.declared.Request.TheVariants.{Flush}
use spec.Request.{of_three, flush_in}
use own.Reading.{exactly_all}
use own.forms.flush.Goals as goal

pub returns-in_err-space : goal.returns-in_err-space
unfolding flush_in
returns-in_err-space c = c.from_residual.ensures ∙ ap (option_map (of_three Flush)) (c.in_err-space.ensures ∙ exactly_all _ _)

pub returns : goal.returns
unfolding flush_in
returns c = ap (option_map (of_three Flush)) (c.in_ok-space.ensures ∙ exactly_all _ _)
