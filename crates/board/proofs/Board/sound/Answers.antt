-- `sound` meets its contract: it is what the check tells.
use mathlib.Core.Path.{◌≡◌, refl, ap, ◌∙◌}
use mathlib.Core.Bool.{Bool, true, false, cond}
use Rattle.std.specs.Result.{is_ok}
use Rattle.std.specs.declared.result.Result.TheVariants.{Ok, Err}
use Rattle.lend_sound.proofs.SoundTest.{tells}
use Rattle.board.specs.Model.{sizes}
use Rattle.board.specs.Board.{tables}
use Rattle.board.proofs.Board.sound.Goals as goal

-- `Ok` is what passed the test
passed : {A E : Type 0} (b : Bool) (x : A) (e : E) → is_ok {T = A} {E = E} (cond b (Ok x) (Err e)) ≡ b
passed true x e = refl
passed false x e = refl

pub returns : goal.returns
returns g c = tells (sizes g.row.SPACES g.row.PAGES g.row.PLACES) (tables c.args.self.now) _ (c.is_ok.ensures.value ∙ (ap is_ok c.check.ensures ∙ passed _ _ _))
