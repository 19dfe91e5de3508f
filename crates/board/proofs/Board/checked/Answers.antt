-- `checked` meets its contract: what `check` tells of a sound board, and of another what `examine` found.
use mathlib.Core.Path.{◌≡◌, refl, sym, ap, ◌∙◌}
use mathlib.Core.Bool.{Bool, true, false, cond}
use Rattle.std.specs.Result.{result_ok}
use Rattle.std.specs.declared.result.Result.TheVariants.{Ok, Err}
use Rattle.std.proofs.lemmas.Option.{cond_some, none-some}
use lib.Dec.{T}
use Rattle.lend.specs.Slots.{slot_at}
use Rattle.lend.specs.SoundTest.{pages_test, sound_test}
use Rattle.lend_basics.proofs.Bools.{and_l, and_r, is_true, true_is}
use Rattle.lend_code.specs.Earlier.{frames_found}
use Rattle.board.specs.Model.{sizes}
use Rattle.board.specs.Board.{tables}
use Rattle.board.specs.Found.{pages_of}
use Rattle.board.proofs.Board.checked.Goals as goal

-- what passed its test, and what did not
told_ok : {A E : Type 0} (b : Bool) (x y : A) (e : E) → Ok y ≡ cond b (Ok x) (Err e) → (b ≡ true) × (x ≡ y)
told_ok true x y e h = (refl, (cond_some true x y (sym (ap result_ok h))).1)
told_ok false x y e h = absurd (none-some y (sym (ap result_ok h)))

told_err : {A E : Type 0} (b : Bool) (x : A) (e r : E) → Err r ≡ cond b (Ok x) (Err e) → b ≡ false
told_err true x e r h = absurd (none-some x (ap result_ok h))
told_err false x e r h = refl

pub returns-in-Ok-clause-sound : goal.returns-in-Ok-clause-sound
returns-in-Ok-clause-sound g c = sym (told_ok _ _ _ _ c.in-Ok.ensures).0

pub returns-in-Ok-clause-frames : goal.returns-in-Ok-clause-frames
unfolding frames_found sound_test
returns-in-Ok-clause-frames g c =
    let b = c.args.self.now in
    let z = sizes g.row.SPACES g.row.PAGES g.row.PLACES in
    let told = told_ok (sound_test z (tables b)) (pages_of z b.slots) c.in-Ok.pages _ c.in-Ok.ensures in
    let passed : T (sound_test z (tables b)) = true_is _ told.0 in
    let fit : pages_test z b.live (slot_at b.slots) ≡ true = is_true _ (search (and_l, and_r) depth 12) in
    rw fit (λ i. (sym told.1 i).frames)

pub returns-in-Err-clause-sound : goal.returns-in-Err-clause-sound
returns-in-Err-clause-sound g c = sym (told_err _ _ _ _ c.in-Err.ensures)
