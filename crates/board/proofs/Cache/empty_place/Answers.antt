-- `empty_place` meets its contract: the search's answer is the lowest place that passes.
use Rattle.std.proofs.Common.{rules, tests, not}
use Rattle.std.proofs.lemmas.Iterator.{YieldsList-from_slice}
use Rattle.std.proofs.lemmas.Iterator.Search.{position_from_yields_List}
use Rattle.lend.specs.Cache.{filled, empty_in}
use Rattle.board.proofs.Searches.{position_lowest}
use Rattle.board.proofs.Cache.empty_place.Goals as goal

pub returns : goal.returns
unfolding empty_in
returns g c =
    position_lowest (λ q. not (filled q)) c.args.self.now.places _
    (position_from_yields_List (λ q. not (filled q)) _ _ _ c.position.ensures.ran (YieldsList-from_slice _ c.iter.ensures.rest) (λ x b q k. search (rules, tests)))
