-- `list_into` meets its contract: what the writer wrote stands in the buffer.
use Rattle.text.proofs.Writing.{held_on, wrote_from}
use borrow.Author.Rules.{rules}
use Rattle.board_listing.proofs.write.list_into.Goals as goal

pub returns : goal.returns
returns g c =
    let e = rw c.new-writer.ensures at c.put_listing.ensures in
    let lent = held_on _ _ e in
    rw c.at.ensures (wrote_from _ _ e (search rules))
