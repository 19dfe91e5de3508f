-- `read_listing` meets its contract: no newline at the end, a bad first line, and the lines after it.
use Prim.Native.Nat.{ℕ, ◌≤◌}
use mathlib.Core.Path.{sym, ap, ◌∙◌}
use native.Mathlib.Omega.{arith}
use lib.ListN.{length, take}
use lib.Seq.{length-take-le}
use Rattle.text.proofs.Seeking.{line_within}
use Rattle.listing.specs.Read.{live_in}
use Rattle.listing.proofs.Loop.{not_ended, first_bad, first_read}
use Rattle.board.specs.Model.{sizes}
use borrow.Author.Rules.{rules}
use Rattle.std.proofs.lemmas.Result.{err_from_is_err_and}
use Rattle.board_listing.proofs.Examined.{lost}
use Rattle.board_listing.proofs.read.read_listing.Goals as goal

pub returns-then-not-ended : goal.returns-then-not-ended
returns-then-not-ended g c = not_ended _ _ (sym c.ended.ensures ∙ c.if-not-ended.true)

pub slice_bounds-live_line-end : goal.slice_bounds-live_line-end
slice_bounds-live_line-end g c =
    let text = c.args.text.now in
    let h : c.line_end-end.result ≤ length text = line_within _ 0 _ c.line_end-end.ensures (omega arith) in
    sym (length-take-le {A = ℕ} c.line_end-end.result text h)

pub returns-in_err-live : goal.returns-in_err-live
returns-in_err-live g c =
    let z = sizes g.row.SPACES g.row.PAGES g.row.PLACES in
    let p = err_from_is_err_and c.from_residual.result c.from_residual.ensures.1 in
    let q = lost c.live_line.result c.in_err-live.ensures.value in
    let most = ap (λ (m : ℕ). live_in m (take c.line_end-end.result c.args.text.now)) c.live_number-most.ensures in
    rw (p.1, p.2, q.1) (first_bad z _ (sym c.ended.ensures ∙ c.if-not-ended.false) c.line_end-end.ensures (q.0 ∙ (c.live_line.ensures ∙ most)))

pub overflow_add-end : goal.overflow_add-end
overflow_add-end g c =
    let h : c.line_end-end.result ≤ length c.args.text.now = line_within _ 0 _ c.line_end-end.ensures (omega arith) in
    search rules

pub returns : goal.returns
returns g c =
    let z = sizes g.row.SPACES g.row.PAGES g.row.PLACES in
    let most = ap (λ (m : ℕ). live_in m (take c.line_end-end.result c.args.text.now)) c.live_number-most.ensures in
    c.read_from.ensures
    ∙ first_read z _ (sym c.ended.ensures ∙ c.if-not-ended.false) c.line_end-end.ensures (sym c.in_ok-live.ensures.ok_part ∙ (c.live_line.ensures ∙ most))
