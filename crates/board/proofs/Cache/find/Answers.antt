-- `find` meets its contract: what the search finds stands at the lowest place that passes.
use Rattle.std.proofs.Common.{rules, tests, sym, ◌∙◌}
use Rattle.std.proofs.lemmas.Iterator.{YieldsList-from_slice}
use Rattle.std.proofs.lemmas.Iterator.Adapters.{option_map_id}
use Rattle.std.proofs.lemmas.Iterator.Consumers.{YieldsList-from_copied}
use Rattle.std.proofs.lemmas.Iterator.Search.{find_from_yields_List}
use Rattle.lend.specs.Cache.{names, place_for, cached}
use Rattle.board.proofs.Searches.{find_lowest}
use Rattle.board.proofs.Cache.find.Goals as goal

pub returns : goal.returns
unfolding place_for cached
returns g c =
    sym (option_map_id c.find.result)
    ∙ (find_from_yields_List (names c.args.space c.args.page) _ _ c.find.result c.find.ensures.ran
    (YieldsList-from_copied (YieldsList-from_slice c.args.self.now.places cc)) (λ x b q k. search (rules, tests))
    ∙ find_lowest (names c.args.space c.args.page) c.args.self.now.places)
