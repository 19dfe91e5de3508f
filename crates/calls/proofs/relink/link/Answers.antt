-- `link` meets its contract: the code is the definition, step by step.
use Rattle.calls.proofs as own
use Rattle.board.specs.Model.{sizes}
use Rattle.board.specs.Board.{tables}
use own.Cuts.{linked_made}
use own.relink.link.Goals as goal

pub returns : goal.returns
returns g c =
    linked_made (sizes g.row.SPACES g.row.PAGES g.row.PLACES) (tables c.args.b.now) c.args.under_taker.now 7 c.args.taker c.args.giver c.args.slot _ _ _ _ (tables c.cut-lost.new.b) _
    (tables c.count_lost.new.self) _ c.lookup-old.ensures.frame c.from.ensures c.lookup-new.ensures.frame c.from-2.ensures c.cut-lost.ensures.board c.cut-lost.ensures.lost
    c.count_lost.ensures c.count_more.ensures
