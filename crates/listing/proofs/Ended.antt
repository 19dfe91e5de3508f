-- Whether a text ends with a newline, as the last byte tells.
use Prim.Native.Nat.{ℕ, ◌-◌}
use mathlib.Core.Path.{◌≡◌, ap, ◌∙◌}
use mathlib.Core.Bool.{Bool, false}
use mathlib.Core.List.{List, [], ◌∷◌}
use native.Mathlib.Omega.{arith}
use lib.Dec.{eqb}
use lib.ListN.{length, get_or}
use Rattle.std.specs.Prelude.{Option, Some, None, option_copied, MatchOption, slice_get}
use Rattle.std.proofs.lemmas.Option.{slice_get-get_or}
use denote.Ref.{Bor}
use Rattle.text.specs.Ascii.{newline}
use Rattle.listing.specs.Read.{ended}

pub last_byte : (s : List ℕ) (last : Option (Bor ℕ)) {P : Bor ℕ → Type 0} {r : Bool} → option_copied last ≡ slice_get s (length s - 1)
    → MatchOption last (r ≡ false) P → ((x : Bor ℕ) → P x → r ≡ eqb x.now newline) → r ≡ ended s
unfolding ended
last_byte [] None e m f = m
last_byte [] (Some x) e m f = absurd (cc)
last_byte (b ∷ s) None e m f = let g = slice_get-get_or (b ∷ s) (length (b ∷ s) - 1) 0 (omega arith) in absurd (cc)
last_byte (b ∷ s) (Some x) e m f =
    let g : slice_get (b ∷ s) (length (b ∷ s) - 1) ≡ Some (get_or (b ∷ s) (length (b ∷ s) - 1) 0) = slice_get-get_or (b ∷ s) (length (b ∷ s) - 1) 0 (omega arith) in
    let i : x.now ≡ get_or (b ∷ s) (length (b ∷ s) - 1) 0 = cc in
    f x m ∙ ap (λ (n : ℕ). eqb n newline) i
