-- Numbers that `map` makes wider are the same numbers.
use Prim.Native.Nat.{ℕ}
use mathlib.Core.Path.{◌≡◌, sym, ◌∙◌}
use mathlib.Core.List.{List}
use native.Mathlib.Omega.{arith}
use lib.ListN.{length}
use denote.Param.Members.{Mut, Called}
use Rattle.std.specs.Array.{IsMapOf}
use Rattle.std.proofs.lemmas.List.{ext_get_or}

pub widened : {F : Type 0} (g : Mut F (ℕ × Unit {0}) ℕ) (f : F) (xs ys : List ℕ) (n : ℕ) → ((p : F) (x y : ℕ) (q : F) → Called g p (x, tt) y q → y ≡ x) → IsMapOf g f xs ys n → length xs ≡ n → ys ≡ xs
widened g f xs ys n same m e =
    ext_get_or 0 ys xs (m.long ∙ sym e) (λ i l. let k = m.at i 0 0 (omega (arith, m.long)) in same k.0 _ _ k.1 k.2)
