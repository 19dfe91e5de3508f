-- `translate` meets its contract: the call on the board that was read.
use mathlib.Core.Path.{refl, ap, ◌∙◌}
use Prim.Native.Nat.{ℕ}
use mathlib.Core.Bool.{cond}
use Rattle.lend.specs.Calls.{Translate}
use Rattle.board.specs.Model.{sizes}
use Rattle.board.specs.Board.{tables}
use Rattle.access.specs.Answers.{translation_reply, translated}
use Rattle.image.specs.Answered.{finishing}
use Rattle.image.proofs.Answered.{answered_on}
use Rattle.image_calls.proofs.address.translate.Goals as goal

pub returns : goal.returns
returns g c =
    let z = sizes g.row.SPACES g.row.PAGES g.row.PLACES in
    let r = c.translate-answer.result in
    let t = tables c.translate-answer.new.b in
    let q = translation_reply r in
    let ends = c.leave.ensures ∙ ap (λ (x : ℕ × (ℕ × ℕ × ℕ)). finishing z t x.0 x.1.0 x.1.1 x.1.2 c.args.image.now) c.told.ensures in
    answered_on z (Translate c.args.space c.args.address c.args.rights) _ _ _ (translated r t) c.read_image-b.ensures c.translate-answer.ensures q.address (cond q.hit 1 0) q.links _ _ _ _ ends refl refl
