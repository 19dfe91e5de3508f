-- `check_page` meets its contract: the tests are those of the rules, in their order.
use Rattle.lend_code.specs.Inner.{page_checks}
use Rattle.calls.proofs.checks.check_page.Goals as goal

pub returns : goal.returns
unfolding page_checks
returns g c = cc
