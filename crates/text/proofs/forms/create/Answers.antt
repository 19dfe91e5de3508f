-- `create` meets its contract: the form's numbers make the request, and where there are none there is none.
use Rattle.text.proofs as own
use Rattle.text.specs as spec
use Rattle.std.specs.Prelude.{option_map}
use mathlib.Core.Path.{ap, ◌∙◌}
use spec.declared.Request.TheVariants.{Create}
use spec.Request.{of_one, create_in}
use own.Reading.{exactly_all}
use own.forms.create.Goals as goal

pub returns-in_err-space : goal.returns-in_err-space
unfolding create_in
returns-in_err-space c = c.from_residual.ensures ∙ ap (option_map (of_one Create)) (c.in_err-space.ensures ∙ exactly_all _ _)

pub returns : goal.returns
unfolding create_in
returns c = ap (option_map (of_one Create)) (c.in_ok-space.ensures ∙ exactly_all _ _)
