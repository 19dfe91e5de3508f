-- `ended` meets its contract.
use Rattle.listing.proofs as own
use own.Ended.{last_byte}
use borrow.Author.Rules.{rules}
use own.read.ended.Goals as goal

pub returns : goal.returns
returns c = last_byte c.args.s.now c.last.result c.last.ensures.value c.is_some_and.ensures (λ x w. search rules)
