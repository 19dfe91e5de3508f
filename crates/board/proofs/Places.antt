-- The test of one place by what is found of all pages: what the code computes, piece by piece, is the test of the definitions.
use mathlib.Core.Path.{◌≡◌, refl, sym, ◌∙◌}
use mathlib.Core.Bool.{Bool, true, false, ◌&&◌, ◌||◌, cond}
use mathlib.Core.List.{List}
use Prim.Native.Nat.{ℕ, ◌<◌}
use native.Mathlib.Omega.{arith}
use lib.Dec.{eqb, ltb}
use lib.ListN.{length, get_or}
use borrow.Author.Tests.{ltb-false}
use Rattle.std.specs.Option.{option_eq}
use Rattle.std.specs.declared.option.Option.{Option}
use Rattle.std.specs.declared.option.Option.TheVariants.{Some, None}
use Rattle.std.proofs.lemmas.Bool.{ne_eqb}
use Rattle.lend.specs.declared.Place.{Place}
use Rattle.lend.specs.Sizes.{Sizes}
use Rattle.lend.specs.Cache.{page_named, place_for}
use Rattle.lend_code.specs.Inner.{inside_of, place_fits, place_ok}
use Rattle.lend_code.proofs.SoundCode.{place_tested}
use Rattle.board.specs.Found.{if_below}

-- a number that was found is i just where the one asked for is
found_is : (end k i : ℕ) (found : Option ℕ) → found ≡ if_below end k → i < end → option_eq eqb found (Some i) ≡ eqb k i
found_is end k i found e h = rw e (go (ltb k end) refl)
  where
    go : (b : Bool) → ltb k end ≡ b → option_eq eqb (cond b (Some k) None) (Some i) ≡ eqb k i
    go true t = refl
    go false t = let l = ltb-false k end t in sym (ne_eqb k i (λ p. omega arith))

-- four tests, in another order
pub four : (a b c d : Bool) → (a && (b && (c && d))) ≡ (a && b && c && d)
four true true c d = refl
four true false c d = refl
four false b c d = refl

-- what `||` and `&&` come to
yes : (e x : Bool) → e ≡ true → e ≡ (e || x)
yes e x h = rw h

no : (e f x : Bool) → e ≡ false → f ≡ false → f ≡ (e || (f && x))
no e f x h g = rw (h, g)

asks : (e f x : Bool) → e ≡ false → f ≡ true → x ≡ (e || (f && x))
asks e f x h g = rw (h, g)

module _ (z : Sizes) (rights frames : List ℕ) (c : List Place) (i : ℕ) (q : Place) (empty fits : Bool) (k at : ℕ)
    (is_empty : empty ≡ (eqb q.space 0 && (eqb q.page 0 && (eqb q.frame 0 && eqb q.rights 0)))) (named : k ≡ page_named z q) (stands : at ≡ inside_of z k)
    (is_fit : fits ≡ place_fits z (get_or rights at 0) (get_or frames at 0) q) where
  tested : (empty || (fits && eqb (place_for q.space q.page c) i)) ≡ place_ok z rights frames c i q
  tested = place_tested z rights frames c i q empty fits k at _ (is_empty ∙ four (eqb q.space 0) (eqb q.page 0) (eqb q.frame 0) (eqb q.rights 0)) named stands is_fit refl

  pub place_empty : empty ≡ true → empty ≡ place_ok z rights frames c i q
  place_empty e = yes empty (fits && eqb (place_for q.space q.page c) i) e ∙ tested

  pub place_unfit : empty ≡ false → fits ≡ false → fits ≡ place_ok z rights frames c i q
  place_unfit e f = no empty fits (eqb (place_for q.space q.page c) i) e f ∙ tested

  pub place_first : empty ≡ false → fits ≡ true → (first : Option ℕ) → first ≡ if_below (length c) (place_for q.space q.page c) → i < length c
      → option_eq eqb first (Some i) ≡ place_ok z rights frames c i q
  place_first e f first p h = found_is (length c) (place_for q.space q.page c) i first p h ∙ (asks empty fits (eqb (place_for q.space q.page c) i) e f ∙ tested)
