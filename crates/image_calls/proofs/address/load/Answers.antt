-- `load` meets its contract: the call on the board that was read.
use mathlib.Core.Path.{refl}
use Rattle.std.proofs.Common.{rules}
use Rattle.lend.specs.Calls.{Load}
use Rattle.board.specs.Model.{sizes}
use Rattle.board.specs.Board.{tables}
use Rattle.access.specs.Answers.{loaded}
use Rattle.image_calls.proofs.Finished.{told_on, one_field}
use Rattle.image_calls.proofs.address.load.Goals as goal

pub returns : goal.returns
returns g c =
    let z = sizes g.row.SPACES g.row.PAGES g.row.PLACES in
    let r = c.load-answer.result in
    told_on z (Load c.args.space c.args.address) _ _ (loaded r (tables c.load-answer.new.b) c.args.memory.now) c.read_image-b.ensures c.load-answer.ensures (λ n. (n, 0, 0)) (λ x y p. search rules) r _ c.map.ensures.cases refl (one_field r) c.finish.ensures refl
