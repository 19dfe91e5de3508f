-- What std's searches over a list of places find is the lowest place that passes the test.
use mathlib.Core.Path.{◌≡◌, refl, sym, ap, ◌∙◌}
use mathlib.Core.Bool.{Bool, true, false, cond}
use mathlib.Core.List.{List}
use Prim.Native.Nat.{ℕ, ◌≤◌, ◌<◌}
use native.Mathlib.Omega.{arith}
use lib.Dec.{ltb}
use lib.ListN.{length}
use borrow.Author.Tests.{ltb-true, ltb-false}
use Rattle.std.specs.List.{position_or_len, find, slice_get}
use Rattle.std.specs.declared.option.Option.{Option}
use Rattle.std.specs.declared.option.Option.TheVariants.{Some, None}
use Rattle.std.proofs.lemmas.List.Recursion.{is_position_or_len}
use Rattle.std.proofs.lemmas.List.Folds.{find_at}
use Rattle.std.proofs.lemmas.Option.{slice_get-get_or, slice_get_past, cond_some, none-some}
use Rattle.lend.specs.declared.Place.{Place}
use Rattle.lend.specs.Cache.{empty_place, place_at, lowest}
use Rattle.board.specs.Found.{if_below}

module _ (t : Place → Bool) where
  position_is : (c : List Place) → position_or_len t c ≡ lowest t c
  position_is c = sym (is_position_or_len (lowest t) t refl (λ q c. ap (λ (n : ℕ). cond (t q) 0 n) (omega arith)) c)

  -- `position`
  pub position_lowest : (c : List Place) (r : Option ℕ) → r ≡ if_below (length c) (position_or_len t c) → r ≡ if_below (length c) (lowest t c)
  position_lowest c r e = e ∙ rw (position_is c)

  -- `find`
  pub find_lowest : (c : List Place) → find t c ≡ cond (ltb (lowest t c) (length c)) (Some (place_at c (lowest t c))) None
  find_lowest c = find_at t c ∙ rw (position_is c) (go (ltb (lowest t c) (length c)) refl)
    where
      go : (b : Bool) → ltb (lowest t c) (length c) ≡ b → slice_get c (lowest t c) ≡ cond b (Some (place_at c (lowest t c))) None
      go true e = slice_get-get_or c (lowest t c) empty_place (ltb-true (lowest t c) (length c) e)
      go false e = slice_get_past c (lowest t c) (ltb-false (lowest t c) (length c) e)

-- a number that was found is the one asked for, and below the end
pub found_some : (end k at : ℕ) → Some at ≡ if_below end k → (at ≡ k) × (at < end)
found_some end k at e =
    let h = cond_some (ltb k end) k at (sym e) in
    (sym h.1, rw (← h.1) (ltb-true k end h.0))

-- and where none was, it is past the end
pub found_none : (end k : ℕ) → None ≡ if_below end k → end ≤ k
found_none end k e = go (ltb k end) refl e
  where
    go : (b : Bool) → ltb k end ≡ b → None ≡ cond b (Some k) None → end ≤ k
    go true t n = absurd (none-some k n)
    go false t n = ltb-false k end t
