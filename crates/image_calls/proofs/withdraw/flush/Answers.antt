-- `flush` meets its contract: the call on the board that was read.
use mathlib.Core.Path.{refl}
use Rattle.std.proofs.Common.{rules}
use Rattle.lend.specs.Calls.{Flush}
use Rattle.board.specs.Model.{sizes}
use Rattle.board.specs.Board.{tables}
use Rattle.calls.specs.Answer.{outcome}
use Rattle.image_calls.proofs.Finished.{told_on, one_field}
use Rattle.image_calls.proofs.withdraw.flush.Goals as goal

pub returns : goal.returns
returns g c =
    let z = sizes g.row.SPACES g.row.PAGES g.row.PLACES in
    let r = c.flush-answer.result in
    told_on z (Flush c.args.space c.args.page c.args.rights) _ _ (outcome r (tables c.flush-answer.new.b)) c.read_image-b.ensures c.flush-answer.ensures (λ n. (n, 0, 0)) (λ x y p. search rules) r _ c.map.ensures.cases refl (one_field r) c.finish.ensures refl
