-- `place_for` meets its contract: the search's answer is the lowest place that passes.
use Rattle.std.proofs.Common.{rules, tests}
use Rattle.std.proofs.lemmas.Iterator.{YieldsList-from_slice}
use Rattle.std.proofs.lemmas.Iterator.Search.{position_from_yields_List}
use Rattle.lend.specs.Cache.{names, place_for}
use Rattle.board.proofs.Searches.{position_lowest}
use Rattle.board.proofs.Cache.place_for.Goals as goal

pub returns : goal.returns
unfolding place_for
returns g c =
    position_lowest (names c.args.space c.args.page) c.args.self.now.places _
    (position_from_yields_List (names c.args.space c.args.page) _ _ _ c.position.ensures.ran (YieldsList-from_slice _ c.iter.ensures.rest) (λ x b q k. search (rules, tests)))
