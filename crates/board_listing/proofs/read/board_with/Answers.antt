-- `board_with` meets its contract: a board that is refused, and one that is read.
use mathlib.Core.Path.{◌≡◌, ap, ◌∙◌}
use lib.Dec.{T}
use lib.ListN.{length}
use borrow.Author.Rules.{rules}
use Rattle.std.specs.Option.{is_some}
use Rattle.std.proofs.lemmas.Result.{err_from_is_err_and}
use Rattle.lend.specs.Sizes.{slot_count}
use Rattle.lend.specs.Slots.{slot_at}
use Rattle.lend.specs.Summary.{summary_of}
use Rattle.lend_basics.proofs.Lists.{length_unmap}
use Rattle.listing.proofs.Judging.{judged_refused, judged_accepted}
use Rattle.board.specs.Model.{sizes}
use Rattle.board.specs.Board.{tables}
use Rattle.board.specs.declared.sound.Pages.{Pages}
use Rattle.board_listing.proofs.Examined.{found_test, found_is}
use Rattle.board_listing.proofs.read.board_with.Goals as goal
use Rattle.board_listing.proofs.read.board_with.Goals.{in-Some, in-None}

pub returns-in_err-judged : goal.returns-in_err-judged
returns-in_err-judged g c =
    let z = sizes g.row.SPACES g.row.PAGES g.row.PLACES in
    let p = err_from_is_err_and c.from_residual.result c.from_residual.ensures.1 in
    let slots : length c.args.slots.now ≡ g.row.SLOTS = search (rules, length_unmap) in
    let long : length c.args.slots.now ≡ slot_count z = slots ∙ c.args.shape.is_model.slots_are in
    let fit = found_test _ _ c.examine-pages.ensures c.is_some-fit.ensures in
    rw (p.1, p.2) (judged_refused z c.args.shape.is_model.some_places _ long _ _ _ c.live_flags-live.ensures fit _ c.in_err-judged.ensures)

pub returns : goal.returns
returns g c =
    let z = sizes g.row.SPACES g.row.PAGES g.row.PLACES in
    let slots : length c.args.slots.now ≡ g.row.SLOTS = search (rules, length_unmap) in
    let long : length c.args.slots.now ≡ slot_count z = slots ∙ c.args.shape.is_model.slots_are in
    let fit = found_test _ _ c.examine-pages.ensures c.is_some-fit.ensures in
    let counts : T c.is_some-fit.result → c.match-pages.counts ≡ summary_of z (slot_at c.args.slots.now) =
    λ some.
    elim c.match-pages.branch [
      | in-Some w ↦ w.counts-is ∙ ap (λ (p : Pages g.row.PAGES g.row.SLOTS). p.counts) (found_is _ _ c.examine-pages.ensures w.in-Some.is)
      | in-None w ↦ absurd (rw (c.is_some-fit.ensures ∙ ap is_some w.in-None.is) at some)
    ] in
    judged_accepted z c.args.shape.is_model.some_places _ long _ _ _ c.live_flags-live.ensures fit c.in_ok-judged.ensures (tables c.start-b.result) c.start-b.ensures _ counts
