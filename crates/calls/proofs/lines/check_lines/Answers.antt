-- `check_lines` meets its contract: the tests are the cases, in their order.
use Rattle.calls.proofs as own
use mathlib.Core.Path.{refl}
use Rattle.lend_code.proofs.LendingNumbers.{lines_made}
use Rattle.board.specs.Model.{sizes}
use own.Others.{meets_made}
use own.lines.check_lines.Goals as goal

pub returns : goal.returns
returns g c =
    lines_made (sizes g.row.SPACES g.row.PAGES g.row.PLACES) c.args.b.now.slots c.args.under.now c.args.giver c.args.source c.args.taker c.args.rights _ _ _ _ _ _ _ _ _ _ _ c.inside.ensures
    c.is_held.ensures c.within.ensures (meets_made _ _ _ _ _ _ c.line_meets.ensures c.pages_of.ensures) c.other_in.ensures c.other_below.ensures refl refl refl refl c.first_refusal.ensures
