-- `map_page` meets its contract: refused by the first checks or the second, or else what both have shown makes it the map of the rules.
use native.Mathlib.Omega.{arith}
use Prim.Native.Nat.{◌<◌}
use borrow.Author.Rules.{rules}
use Rattle.std.proofs.lemmas.Result.{err_from_is_err_and}
use Rattle.lend_code.proofs.LendingNumbers.{taker_in}
use Rattle.calls.proofs.PairCalls.{few_slots, map_err, map_shows, map_err_lines, map_made}
use Rattle.calls.proofs.map.map_page.Goals as goal

pub returns-in_err-check_named : goal.returns-in_err-check_named
returns-in_err-check_named g c =
    let p = err_from_is_err_and c.from_residual.result c.from_residual.ensures.1 in
    rw (p.1, p.2) (map_err _ (few_slots c.args.b.now.shape.is_model) _ c.requires _ _ _ _ _ _ c.in_err-check_named.ensures)

pub overflow_cast-asked : goal.overflow_cast-asked
overflow_cast-asked g c =
    omega (arith, (map_shows _ (few_slots c.args.b.now.shape.is_model) _ c.requires _ _ _ _ _ c.in_ok-check_named.ensures).known_rights)

pub overflow_cast-from : goal.overflow_cast-from
overflow_cast-from g c =
    omega (arith, (map_shows _ (few_slots c.args.b.now.shape.is_model) _ c.requires _ _ _ _ _ c.in_ok-check_named.ensures).giver_space, c.args.b.now.shape.is_model.few_spaces)

pub overflow_cast-page : goal.overflow_cast-page
overflow_cast-page g c =
    omega (arith, (map_shows _ (few_slots c.args.b.now.shape.is_model) _ c.requires _ _ _ _ _ c.in_ok-check_named.ensures).giver_page, c.args.b.now.shape.is_model.few_pages)

pub overflow_cast-to : goal.overflow_cast-to
overflow_cast-to g c =
    omega (arith, (map_shows _ (few_slots c.args.b.now.shape.is_model) _ c.requires _ _ _ _ _ c.in_ok-check_named.ensures).taker_space, c.args.b.now.shape.is_model.few_spaces)

pub overflow_cast-at : goal.overflow_cast-at
overflow_cast-at g c =
    omega (arith, (map_shows _ (few_slots c.args.b.now.shape.is_model) _ c.requires _ _ _ _ _ c.in_ok-check_named.ensures).taker_page, c.args.b.now.shape.is_model.few_pages)

pub returns-in_err-check_lines : goal.returns-in_err-check_lines
returns-in_err-check_lines g c =
    let p = err_from_is_err_and c.from_residual-in_err-check_lines.result c.from_residual-in_err-check_lines.ensures.1 in
    rw (p.1, p.2)
    (map_err_lines _ (few_slots c.args.b.now.shape.is_model) _ c.requires _ _ _ _ _ c.in_ok-check_named.ensures _ _ c.key-giver.ensures c.key-taker.ensures
    _ _ c.only-taker_alone.ensures c.line_has-under_taker.ensures _ c.in_err-check_lines.ensures)

pub overflow_cast-lent : goal.overflow_cast-lent
overflow_cast-lent g c =
    omega (arith, (map_shows _ (few_slots c.args.b.now.shape.is_model) _ c.requires _ _ _ _ _ c.in_ok-check_named.ensures).giver_space, c.args.b.now.shape.is_model.few_spaces)

pub overflow_cast-lent-2 : goal.overflow_cast-lent-2
overflow_cast-lent-2 g c =
    omega (arith, (map_shows _ (few_slots c.args.b.now.shape.is_model) _ c.requires _ _ _ _ _ c.in_ok-check_named.ensures).giver_page, c.args.b.now.shape.is_model.few_pages)

pub link-requires : goal.link-requires
link-requires g c =
    let inside : c.key-taker.result < g.row.SLOTS =
    omega (arith, c.key-taker.ensures, taker_in (map_shows _ (few_slots c.args.b.now.shape.is_model) _ c.requires _ _ _ _ _ c.in_ok-check_named.ensures), c.args.b.now.shape.is_model.slots_are)
    in search rules

pub overflow_cast-to-2 : goal.overflow_cast-to-2
overflow_cast-to-2 g c =
    omega (arith, (map_shows _ (few_slots c.args.b.now.shape.is_model) _ c.requires _ _ _ _ _ c.in_ok-check_named.ensures).taker_space, c.args.b.now.shape.is_model.few_spaces)

pub overflow_cast-at-2 : goal.overflow_cast-at-2
overflow_cast-at-2 g c =
    omega (arith, (map_shows _ (few_slots c.args.b.now.shape.is_model) _ c.requires _ _ _ _ _ c.in_ok-check_named.ensures).taker_page, c.args.b.now.shape.is_model.few_pages)

pub returns : goal.returns
returns g c =
    map_made _ (few_slots c.args.b.now.shape.is_model) _ c.requires _ _ _ _ _ c.in_ok-check_named.ensures _ _ c.key-giver.ensures c.key-taker.ensures
    _ _ c.only-taker_alone.ensures c.line_has-under_taker.ensures c.in_ok-check_lines.ensures _ _ _ _ c.link.ensures c.rights-before.ensures c.settle.ensures.board c.settle.ensures.emptied
