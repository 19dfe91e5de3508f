-- `read_from` meets its contract: the goals that are left, from the invariant.
use Prim.Native.Nat.{ℕ, ◌-◌, ◌≤◌}
use mathlib.Core.Path.{sym, ap, ◌∙◌}
use native.Mathlib.Omega.{arith}
use lib.ListN.{length, take, drop}
use Rattle.lend.specs.Tables.{Tables}
use Rattle.text.proofs.Seeking.{line_within}
use Rattle.listing.specs.Read.{held_in}
use Rattle.listing.proofs.Said.{let_through, key_below}
use Rattle.listing.proofs.Loop.{read_start, read_none, read_held, read_turn, read_bad}
use Rattle.board.specs.Model.{sizes}
use Rattle.board_listing.proofs.Examined.{lost}
use Rattle.std.proofs.lemmas.Result.{err_from_is_err_and}
use borrow.Author.Rules.{rules}
use Rattle.board_listing.proofs.read.read_from.Goals as goal

pub loop-from-init : goal.loop-from-init
loop-from-init g c = read_start _ _ _ _ _ (ap (λ (t : Tables). t.slots) c.start-slots.ensures)

pub overflow_add-end : goal.overflow_add-end
overflow_add-end g c =
    let h : c.line_end-end.result ≤ length c.args.text.now = line_within _ _ _ c.line_end-end.ensures (search rules) in
    search rules

pub slice_bounds-held_line-end : goal.slice_bounds-held_line-end
slice_bounds-held_line-end g c =
    let h : c.line_end-end.result ≤ length c.args.text.now = line_within _ _ _ c.line_end-end.ensures (search rules) in
    search rules

pub returns-then-text-end : goal.returns-then-text-end
returns-then-text-end g c =
    let most = ap (λ (n : ℕ). held_in (n - g.row.PAGES) (take (c.line_end-end.result - c.loop-from.from) (drop c.loop-from.from c.args.text.now))) c.args.shape.is_model.slots_are in
    c.board_with.ensures
    ∙ read_held c.loop-from.invariant (search rules) c.line_end-end.ensures (search rules) _ (c.held_line-held.ensures ∙ most)
    c.is_some-formed.ensures
    c.unwrap_or.ensures

pub returns-in_err-row : goal.returns-in_err-row
returns-in_err-row g c =
    let p = err_from_is_err_and c.from_residual.result c.from_residual.ensures.1 in
    let q = lost c.row_of.result c.in_err-row.ensures.value in
    rw (p.1, p.2, q.1) (read_bad c.loop-from.invariant (search rules) c.line_end-end.ensures (search rules) (q.0 ∙ c.row_of.ensures))

pub overflow_cast-row : goal.overflow_cast-row
overflow_cast-row g c =
    let z = sizes g.row.SPACES g.row.PAGES g.row.PLACES in
    let r = let_through z _ _ (sym c.in_ok-row.ensures.ok_part ∙ c.row_of.ensures) in
    omega (arith, r.space_to, c.args.shape.is_model.few_spaces)

pub overflow_cast-row-in-loop-from : goal.overflow_cast-row-in-loop-from
overflow_cast-row-in-loop-from g c =
    let z = sizes g.row.SPACES g.row.PAGES g.row.PLACES in
    let r = let_through z _ _ (sym c.in_ok-row.ensures.ok_part ∙ c.row_of.ensures) in
    omega (arith, r.page_to, c.args.shape.is_model.few_pages)

pub bounds-slots-k : goal.bounds-slots-k
bounds-slots-k g c =
    let z = sizes g.row.SPACES g.row.PAGES g.row.PLACES in
    let h = key_below z _ (let_through z _ _ (sym c.in_ok-row.ensures.ok_part ∙ c.row_of.ensures)) in
    omega (arith, h, c.key-k.ensures, c.args.shape.is_model.slots_are)

pub loop-from-preserved : goal.loop-from-preserved
loop-from-preserved g c =
    read_turn c.loop-from.invariant (search rules) c.line_end-end.ensures (search rules)
    (sym c.in_ok-row.ensures.ok_part ∙ c.row_of.ensures)
    c.key-k.ensures
    c.rises-rising.ensures
    c.slot_of.ensures

pub returns : goal.returns
returns g c = read_none c.loop-from.invariant (search rules)
