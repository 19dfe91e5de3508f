-- `grant_page` meets its contract: refused by the first checks or the second, or else what both have shown makes it the grant of the rules.
use native.Mathlib.Omega.{arith}
use Prim.Native.Nat.{◌<◌}
use borrow.Author.Rules.{rules}
use Rattle.std.proofs.lemmas.Result.{err_from_is_err_and}
use Rattle.lend_code.proofs.LendingNumbers.{giver_in, taker_in}
use Rattle.calls.proofs.PairCalls.{few_slots, grant_err, grant_shows, grant_err_lines, grant_made}
use Rattle.calls.proofs.grant.grant_page.Goals as goal

pub returns-in_err-check_named : goal.returns-in_err-check_named
returns-in_err-check_named g c =
    let p = err_from_is_err_and c.from_residual.result c.from_residual.ensures.1 in
    rw (p.1, p.2) (grant_err _ (few_slots c.args.b.now.shape.is_model) _ c.requires _ _ _ _ _ _ c.in_err-check_named.ensures)

pub overflow_cast-asked : goal.overflow_cast-asked
overflow_cast-asked g c =
    omega (arith, (grant_shows _ (few_slots c.args.b.now.shape.is_model) _ c.requires _ _ _ _ _ c.in_ok-check_named.ensures).known_rights)

pub overflow_cast-from : goal.overflow_cast-from
overflow_cast-from g c =
    omega (arith, (grant_shows _ (few_slots c.args.b.now.shape.is_model) _ c.requires _ _ _ _ _ c.in_ok-check_named.ensures).giver_space, c.args.b.now.shape.is_model.few_spaces)

pub overflow_cast-page : goal.overflow_cast-page
overflow_cast-page g c =
    omega (arith, (grant_shows _ (few_slots c.args.b.now.shape.is_model) _ c.requires _ _ _ _ _ c.in_ok-check_named.ensures).giver_page, c.args.b.now.shape.is_model.few_pages)

pub overflow_cast-to : goal.overflow_cast-to
overflow_cast-to g c =
    omega (arith, (grant_shows _ (few_slots c.args.b.now.shape.is_model) _ c.requires _ _ _ _ _ c.in_ok-check_named.ensures).taker_space, c.args.b.now.shape.is_model.few_spaces)

pub overflow_cast-at : goal.overflow_cast-at
overflow_cast-at g c =
    omega (arith, (grant_shows _ (few_slots c.args.b.now.shape.is_model) _ c.requires _ _ _ _ _ c.in_ok-check_named.ensures).taker_page, c.args.b.now.shape.is_model.few_pages)

pub bounds-b-giver : goal.bounds-b-giver
bounds-b-giver g c =
    omega (arith, c.key-giver.ensures, giver_in (grant_shows _ (few_slots c.args.b.now.shape.is_model) _ c.requires _ _ _ _ _ c.in_ok-check_named.ensures), c.args.b.now.shape.is_model.slots_are)

pub returns-in_err-check_lines : goal.returns-in_err-check_lines
returns-in_err-check_lines g c =
    let p = err_from_is_err_and c.from_residual-in_err-check_lines.result c.from_residual-in_err-check_lines.ensures.1 in
    rw (p.1, p.2)
    (grant_err_lines _ (few_slots c.args.b.now.shape.is_model) _ c.requires _ _ _ _ _ c.in_ok-check_named.ensures _ _ c.key-giver.ensures c.key-taker.ensures
    _ _ _ c.only-taker_alone.ensures c.line_has-under_taker.ensures c.source_of-source.ensures _ c.in_err-check_lines.ensures)

pub link-requires : goal.link-requires
link-requires g c =
    let inside : c.key-taker.result < g.row.SLOTS =
    omega (arith, c.key-taker.ensures, taker_in (grant_shows _ (few_slots c.args.b.now.shape.is_model) _ c.requires _ _ _ _ _ c.in_ok-check_named.ensures), c.args.b.now.shape.is_model.slots_are)
    in search rules

pub overflow_cast-to-2 : goal.overflow_cast-to-2
overflow_cast-to-2 g c =
    omega (arith, (grant_shows _ (few_slots c.args.b.now.shape.is_model) _ c.requires _ _ _ _ _ c.in_ok-check_named.ensures).taker_space, c.args.b.now.shape.is_model.few_spaces)

pub overflow_cast-at-2 : goal.overflow_cast-at-2
overflow_cast-at-2 g c =
    omega (arith, (grant_shows _ (few_slots c.args.b.now.shape.is_model) _ c.requires _ _ _ _ _ c.in_ok-check_named.ensures).taker_page, c.args.b.now.shape.is_model.few_pages)

pub returns : goal.returns
returns g c =
    grant_made _ (few_slots c.args.b.now.shape.is_model) _ c.requires _ _ _ _ _ c.in_ok-check_named.ensures _ _ c.key-giver.ensures c.key-taker.ensures
    _ _ _ c.only-taker_alone.ensures c.line_has-under_taker.ensures c.source_of-source.ensures c.in_ok-check_lines.ensures _ _ _ _ _ _ _ _ _ _ _ _ c.link.ensures c.only-giver_alone.ensures
    c.line_has-under_giver.ensures c.giver_loses.ensures c.cut-given.ensures.board c.cut-given.ensures.lost c.lookup-frame.ensures.frame c.from.ensures
    c.count_lost.ensures c.rights-before.ensures c.settle.ensures.board c.settle.ensures.emptied
