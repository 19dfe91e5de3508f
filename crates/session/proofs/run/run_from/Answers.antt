-- `run_from` meets its contract: a buffer that is too short, and one that is long enough.
use native.Mathlib.Omega.{arith}
use borrow.Author.Rules.{rules}
use Rattle.text.proofs.Writing.{held_on, wrote_from}
use Rattle.script.proofs.Parts.{from_short, from_whole}
use Rattle.board.specs.Model.{sizes}
use Rattle.session.proofs.Far.{far}
use Rattle.session.proofs.run.run_from.Goals as goal

pub returns-then-output-enough : goal.returns-then-output-enough
returns-then-output-enough g c = from_short (sizes g.row.SPACES g.row.PAGES g.row.PLACES) _ _ c.enough.ensures _ c.if-output-enough.true

pub returns : goal.returns
returns g c =
    let z = sizes g.row.SPACES g.row.PAGES g.row.PLACES in
    let e = rw c.new-out.ensures at c.run_read.ensures in
    let lent = held_on _ _ e in
    from_whole z _ _ c.enough.ensures (far c.args.shape.is_model) (omega (arith, c.if-output-enough.false)) _ c.read_first.ensures
    (rw c.at.ensures (wrote_from _ _ e (search rules)))
