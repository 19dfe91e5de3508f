-- `translate` meets its contract: the form's numbers make the request, and where there are none there is none.
use Rattle.text.proofs as own
use Rattle.text.specs as spec
use Rattle.std.specs.Prelude.{option_map}
use mathlib.Core.Path.{ap, ◌∙◌}
use spec.declared.Request.TheVariants.{Translate}
use spec.Request.{of_three, translate_in}
use own.Reading.{exactly_all}
use own.forms.translate.Goals as goal

pub returns-in_err-space : goal.returns-in_err-space
unfolding translate_in
returns-in_err-space c = c.from_residual.ensures ∙ ap (option_map (of_three Translate)) (c.in_err-space.ensures ∙ exactly_all _ _)

pub returns : goal.returns
unfolding translate_in
returns c = ap (option_map (of_three Translate)) (c.in_ok-space.ensures ∙ exactly_all _ _)
