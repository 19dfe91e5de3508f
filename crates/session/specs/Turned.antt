-- What a line does on a board, as a turn of the script: what it says, and the board with no memory beside it.
use Rattle.std.specs.declared.result.Result.{Result}
use Rattle.std.specs.declared.result.Result.TheVariants.{Ok, Err}
use Rattle.std.specs.Prelude.{◌≡◌, refl, false}
use Rattle.lend.specs.declared.refusal.Refusal.{Refusal}
use Rattle.lend.specs.Refusals.{number_of}
use Rattle.lend.specs.Tables.{Tables, alone}
use Rattle.access.specs.declared.translate.Translation.{Translation}
use Rattle.script.specs.declared.Said.{Said}
use Rattle.script.specs.declared.Said.TheVariants.{Translated}
use Rattle.script.specs.Script.{Turn}

abbrev pub turned : Said → Tables → Turn
turned said t = record { said = said; state = alone t }

-- and back: all is in the turn
pub turned_of_turned : (said : Said) (t : Tables) → ((turned said t).said ≡ said) × ((turned said t).state.board ≡ t)
turned_of_turned said t = (refl, refl)

-- what a translate says
abbrev pub found : Result Translation Refusal → Said
found (Ok x) = Translated 0 x.address x.hit x.links
found (Err r) = Translated (number_of r) 0 false 0
