-- `store` meets its contract: the call on the board that was read.
use mathlib.Core.Path.{refl}
use Rattle.std.proofs.Common.{rules}
use Rattle.lend.specs.Calls.{Store}
use Rattle.board.specs.Model.{sizes}
use Rattle.board.specs.Board.{tables}
use Rattle.access.specs.Answers.{stored}
use Rattle.image_calls.proofs.Finished.{told_on, no_field}
use Rattle.image_calls.proofs.address.store.Goals as goal

pub returns : goal.returns
returns g c =
    let z = sizes g.row.SPACES g.row.PAGES g.row.PLACES in
    let r = c.store-answer.result in
    told_on z (Store c.args.space c.args.address c.args.value) _ _ (stored r (tables c.store-answer.new.b) c.store-answer.new.memory) c.read_image-b.ensures c.store-answer.ensures (λ x. (0, 0, 0)) (λ x y p. search rules) r _ c.map.ensures.cases refl (no_field r) c.finish.ensures refl
