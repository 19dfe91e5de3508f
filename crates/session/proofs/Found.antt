-- What a translate says is what its reply tells.
use mathlib.Core.Path.{◌≡◌, refl}
use Rattle.std.specs.declared.result.Result.{Result}
use Rattle.std.specs.declared.result.Result.TheVariants.{Ok, Err}
use Rattle.lend.specs.declared.refusal.Refusal.{Refusal}
use Rattle.access.specs.declared.translate.Translation.{Translation}
use Rattle.access.specs.Answers.{translation_reply}
use Rattle.script.specs.declared.Said.TheVariants.{Translated}
use Rattle.session.specs.Turned.{found}

pub found_told : (r : Result Translation Refusal)
    → found r ≡ Translated (translation_reply r).number (translation_reply r).address (translation_reply r).hit (translation_reply r).links
found_told (Ok x) = refl
found_told (Err r) = refl
