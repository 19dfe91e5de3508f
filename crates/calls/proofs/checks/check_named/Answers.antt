-- `check_named` meets its contract: the tests are those of the rules, in their order.
use mathlib.Core.Path.{◌≡◌, ◌∙◌}
use mathlib.Core.Bool.{not, ◌||◌}
use lib.Dec.{leb}
use Rattle.std.proofs.lemmas.Bool.{le-leb, lt-leb}
use Rattle.lend.specs.Tables.{alive}
use Rattle.lend_code.specs.Lending.{named_checks}
use Rattle.calls.proofs.checks.check_named.Goals as goal
use Rattle.calls.proofs.checks.check_named.Goals.{then-giver, else-giver, then-not-is_live, else-not-is_live, then-page, else-page}

pub returns : goal.returns
unfolding named_checks
returns g c =
    let spaces : c.if-giver.first_refusal ≡ leb g.row.SPACES c.args.from || leb g.row.SPACES c.args.to =
    elim c.if-giver.branch [
      | then-giver w ↦ w.first_refusal-is ∙ rw (le-leb _ _ w.if-giver.true)
      | else-giver w ↦ w.first_refusal-is ∙ rw (lt-leb _ _ w.if-giver.false)
    ] in
    let live : c.if-not-is_live.first_refusal ≡ not (alive c.args.b.now.live c.args.from) || not (alive c.args.b.now.live c.args.to) =
    elim c.if-not-is_live.branch [
      | then-not-is_live w ↦ w.first_refusal-is ∙ rw (← c.is_live.ensures, w.if-not-is_live.true)
      | else-not-is_live w ↦ w.first_refusal-is ∙ rw (w.is_live-else-not-is_live.ensures, ← c.is_live.ensures, w.if-not-is_live.false)
    ] in
    let pages : c.if-page.first_refusal ≡ leb g.row.PAGES c.args.page || leb g.row.PAGES c.args.at =
    elim c.if-page.branch [
      | then-page w ↦ w.first_refusal-is ∙ rw (le-leb _ _ w.if-page.true)
      | else-page w ↦ w.first_refusal-is ∙ rw (lt-leb _ _ w.if-page.false)
    ] in
    c.first_refusal.ensures ∙ rw (spaces, live, pages, c.bad_rights.ensures)
