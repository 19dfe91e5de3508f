-- `map` meets its contract: the form's numbers make the request, and where there are none there is none.
use Rattle.text.proofs as own
use Rattle.text.specs as spec
use Rattle.std.specs.Prelude.{option_map}
use mathlib.Core.Path.{ap, ◌∙◌}
use spec.declared.Request.TheVariants.{Map}
use spec.Request.{of_five, map_in}
use own.Reading.{exactly_all}
use own.forms.map.Goals as goal

pub returns-in_err-from : goal.returns-in_err-from
unfolding map_in
returns-in_err-from c = c.from_residual.ensures ∙ ap (option_map (of_five Map)) (c.in_err-from.ensures ∙ exactly_all _ _)

pub returns : goal.returns
unfolding map_in
returns c = ap (option_map (of_five Map)) (c.in_ok-from.ensures ∙ exactly_all _ _)
