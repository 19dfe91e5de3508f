-- `flush_range` meets its contract: the call on the board that was read.
use Rattle.lend.specs.Ranges.{FlushRange}
use Rattle.image.proofs.Answered.{range_answered_on}
use Rattle.board.specs.Model.{sizes}
use Rattle.board.specs.Board.{tables}
use Rattle.calls.specs.Progress.{range_outcome}
use Rattle.image_calls.proofs.ranges.flush_range.Goals as goal

pub returns : goal.returns
returns g c =
    let z = sizes g.row.SPACES g.row.PAGES g.row.PLACES in
    let o = range_outcome z c.flush_range-answer.result (tables c.flush_range-answer.new.b) in
    range_answered_on z (FlushRange c.args.space c.args.base c.args.size c.args.rights) _ _ o c.read_image-b.ensures c.flush_range-answer.ensures.outcome _ _ _ c.finish_range.ensures
