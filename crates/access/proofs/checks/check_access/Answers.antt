-- `check_access` meets its contract: the tests are those of the rules, in their order.
use mathlib.Core.Path.{◌∙◌}
use Rattle.lend.specs.Rights.{within}
use Rattle.lend_code.specs.Access.{access_number}
use Rattle.access.proofs.checks.check_access.Goals as goal

pub returns : goal.returns
unfolding access_number within
returns g c =
    c.first_refusal.ensures ∙ rw (c.bad_rights.ensures, c.sound.ensures.as_test, c.is_live.ensures, c.is_held.ensures, c.from.ensures, c.inside.ensures)
