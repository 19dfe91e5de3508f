-- What a search by a test has found, and the test itself.
use mathlib.Core.Path.{◌≡◌, refl, ap, ◌∙◌}
use mathlib.Core.Bool.{Bool, true, false, cond}
use Rattle.std.specs.Prelude.{Option, Some, None}
use Rattle.std.specs.Option.{is_some, ok_or}
use Rattle.std.specs.declared.result.Result.{Result}
use Rattle.std.specs.declared.result.Result.TheVariants.{Err}

both_found : {A : Type 0} (x : A) (t : Bool) → is_some (cond t (Some x) None) ≡ t
both_found x true = refl
both_found x false = refl

pub found_test : {A : Type 0} (x : A) {found : Option A} (t : Bool) → found ≡ cond t (Some x) None → {is : Bool} → is ≡ is_some found → is ≡ t
found_test x t e q = q ∙ (ap is_some e ∙ both_found x t)

pub found_is : {A : Type 0} (x : A) {found : Option A} (t : Bool) → found ≡ cond t (Some x) None → {y : A} → found ≡ Some y → y ≡ x
found_is x true e q = cc
found_is x false e q = absurd (cc)

-- what is refused where nothing was found
pub lost : {A E : Type 0} (found : Option A) {r e : E} → ◌≡◌ {A = Result A E} (Err e) (ok_or found r) → (None ≡ found) × (e ≡ r)
lost None h = (refl, cc)
lost (Some x) h = absurd (cc)
