-- `line_turn` meets its contract: a comment, and any other line, which asks for something or for nothing.
use Rattle.script.proofs.Turns.{turn_comment, turn_request, turn_garbled}
use Rattle.board.specs.Model.{sizes}
use Rattle.session.proofs.judge.line_turn.Goals as goal

pub returns-then-is_comment : goal.returns-then-is_comment
returns-then-is_comment g c =
    let z = sizes g.row.SPACES g.row.PAGES g.row.PLACES in
    turn_comment z _ _ c.is_comment.ensures c.if-is_comment.true

pub returns-in-Some : goal.returns-in-Some
returns-in-Some g c =
    let z = sizes g.row.SPACES g.row.PAGES g.row.PLACES in
    turn_request z _ _ c.is_comment.ensures c.if-is_comment.false c.in-Some.ensures c.judge.ensures

pub returns-in-None : goal.returns-in-None
returns-in-None g c =
    let z = sizes g.row.SPACES g.row.PAGES g.row.PLACES in
    turn_garbled z _ _ c.is_comment.ensures c.if-is_comment.false c.in-None.ensures
