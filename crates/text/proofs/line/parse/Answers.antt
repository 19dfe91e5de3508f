-- `parse` meets its contract: the forms one after the other.
use Rattle.text.proofs as own
use Rattle.text.specs as spec
use spec.Request.{request_of}
use own.Reading.{either}
use borrow.Author.Tests.{lt-ltb, le-ltb}
use borrow.Author.Rules.{rules}
use own.line.parse.Goals as goal

pub returns-then-line-gt-LONGEST : goal.returns-then-line-gt-LONGEST
unfolding request_of
returns-then-line-gt-LONGEST c = rw (lt-ltb _ _ c.if-line-gt-LONGEST.true)

pub returns : goal.returns
unfolding request_of
returns c =
    rw (le-ltb _ _ c.if-line-gt-LONGEST.false)
    (either
    (either
    (either
    (either
    (either
    (either c.create.ensures c.or_else.ensures (λ w. search rules)) c.or_else-2.ensures (λ w. search rules)) c.or_else-3.ensures (λ w. search rules))
    c.or_else-4.ensures (λ w. search rules))
    c.or_else-5.ensures (λ w. search rules))
    c.or_else-6.ensures (λ w. search rules))
