-- `places_fit` meets its contract. The invariant: every place before i is in order. One that is not settles the answer.
use Rattle.lend.specs.Cache.{place_at}
use Rattle.lend_basics.proofs.Loops.{Tested}
use Rattle.lend_code.specs.Inner.{place_ok}
use Rattle.board.specs.Model.{sizes}
use Rattle.board.proofs.Board.places_fit.Given as goal

abbrev pub invariant-loop-i : goal.invariant-loop-i
invariant-loop-i g l =
    let c = l.self.cache.places in
    Tested (λ j. place_ok (sizes g.row.SPACES g.row.PAGES g.row.PLACES) l.rights l.frames c j (place_at c j)) l.i
