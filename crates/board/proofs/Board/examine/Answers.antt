-- `examine` meets its contract: what each part tests is a part of the test of the pages.
use mathlib.Core.Path.{◌≡◌, sym, ◌∙◌}
use native.Mathlib.Omega.{arith}
use borrow.Author.Rules.{rules}
use lib.ListN.{length}
use Rattle.lend.specs.Sizes.{slot_count}
use Rattle.lend_basics.proofs.Lists.{length_unmap}
use Rattle.lend_code.proofs.SoundCode.{all_fit}
use Rattle.board.specs.Model.{sizes}
use Rattle.board.proofs.Examined.{first_dead, second_dead, slots_unfit, lines_bad, all_good}
use Rattle.board.proofs.Board.examine.Goals as goal
use Rattle.board.proofs.Board.examine.Goals.{else-is_live-via-then-is_live+then-is_live-2+else-slots_fit, else-is_live-via-then-is_live+else-is_live-2, else-is_live-via-else-is_live}

pub frames-requires : goal.frames-requires
frames-requires g c = (search rules, (search rules, all_fit _ _ _ (sym c.slots_fit.ensures ∙ c.if-slots_fit.true)))

pub returns-in_err-frames : goal.returns-in_err-frames
returns-in_err-frames g c =
    let b = c.args.self.now in
    let slots : length b.slots ≡ g.row.SLOTS = search (rules, length_unmap) in
    c.from_residual.ensures
    ∙ lines_bad (sizes g.row.SPACES g.row.PAGES g.row.PLACES) b.slots b.live (slots ∙ b.shape.is_model.slots_are) (omega (arith, b.shape.is_model.two_spaces)) (sym c.slots_fit.ensures ∙ c.if-slots_fit.true) c.in_err-frames.ensures

pub returns-then-slots_fit : goal.returns-then-slots_fit
returns-then-slots_fit g c =
    let b = c.args.self.now in
    let slots : length b.slots ≡ g.row.SLOTS = search (rules, length_unmap) in
    all_good (sizes g.row.SPACES g.row.PAGES g.row.PLACES) b.slots b.live (slots ∙ b.shape.is_model.slots_are) (omega (arith, b.shape.is_model.two_spaces)) (sym c.slots_fit.ensures ∙ c.if-slots_fit.true)
    (sym c.is_live.ensures ∙ c.if-is_live.true) (sym c.is_live-then-is_live.ensures ∙ c.if-is_live-2.true) _ _ _ c.rights.ensures c.in_ok-frames.ensures c.tally.ensures

pub returns : goal.returns
returns g c =
    let b = c.args.self.now in
    let z = sizes g.row.SPACES g.row.PAGES g.row.PLACES in
    let slots : length b.slots ≡ g.row.SLOTS = search (rules, length_unmap) in
    let long : length b.slots ≡ slot_count z = slots ∙ b.shape.is_model.slots_are in
    elim c.else-is_live.branch [
      | else-is_live-via-then-is_live+then-is_live-2+else-slots_fit w ↦ slots_unfit z b.slots b.live long (sym w.slots_fit.ensures ∙ w.if-slots_fit.false)
      | else-is_live-via-then-is_live+else-is_live-2 w ↦ second_dead z b.slots b.live long (sym w.is_live-then-is_live.ensures ∙ w.if-is_live-2.false)
      | else-is_live-via-else-is_live w ↦ first_dead z b.slots b.live long (sym c.is_live.ensures ∙ w.if-is_live.false)
    ]
