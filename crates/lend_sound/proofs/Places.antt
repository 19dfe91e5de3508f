-- The places of the cache: the lowest that passes a test, and what a page's number says of its space and page.
use mathlib.Core.Path.{◌≡◌, refl, sym, ap, ◌∙◌}
use mathlib.Core.Bool.{Bool, true, false}
use mathlib.Core.List.{List, [], ◌∷◌}
use Prim.Native.Nat.{ℕ, zero, suc, ◌*◌, ◌≤◌, ◌<◌}
use native.Mathlib.Nat.{not-suc-le-zero, le_of_suc-le-suc}
use native.Mathlib.Omega.{arith}
use native.Mathlib.Decide.{dec_lt}
use lib.Dec.{T}
use lib.ListN.{length, get_or-eq_default}
use Rattle.lend.specs.declared.Place.{Place}
use Rattle.lend.specs.Sizes.{Sizes, key, space_of}
use Rattle.lend.specs.Cache.{empty_place, filled, place_at, lowest}
use Rattle.lend_sound.proofs.Lines.{space_of_key}

-- the lowest place that passes is no higher than any that does, and passes
pub lowest_of : (t : Place → Bool) (c : List Place) (i : ℕ) → i < length c → T (t (place_at c i)) → (lowest t c ≤ i) × T (t (place_at c (lowest t c)))
lowest_of t [] i l h = absurd (not-suc-le-zero l)
lowest_of t (q ∷ c) i l h = go i (t q) refl l h (lowest_of t c)
  where
    go : (i : ℕ) (b : Bool) → t q ≡ b → i < length (q ∷ c) → T (t (place_at (q ∷ c) i))
        → ((j : ℕ) → j < length c → T (t (place_at c j)) → (lowest t c ≤ j) × T (t (place_at c (lowest t c))))
        → (lowest t (q ∷ c) ≤ i) × T (t (place_at (q ∷ c) (lowest t (q ∷ c))))
    go i true e l h ih = rw e (omega arith, rw e tt)
    go zero false e l h ih = absurd (rw e at h)
    go (suc i) false e l h ih = let r = ih i (le_of_suc-le-suc l) h in rw e (omega arith, r.1)

-- a filled place is one of the places
pub filled_in : (c : List Place) (i : ℕ) → T (filled (place_at c i)) → i < length c
filled_in c i h = go (dec_lt i (length c))
  where
    go : Dec (i < length c) → i < length c
    go (yes l) = l
    go (no l) = absurd (rw (get_or-eq_default c empty_place {n = i} (omega arith)) at h)

-- a page's number tells its space
pub key_space : (z : Sizes) (s p u v : ℕ) → p < z.pages → v < z.pages → key z s p ≡ key z u v → s ≡ u
key_space z s p u v hp hv e = sym (space_of_key z s p hp) ∙ ap (space_of z) e ∙ space_of_key z u v hv

-- a page's number tells which page of its space it is
pub key_page : (z : Sizes) (s p u v : ℕ) → p < z.pages → v < z.pages → key z s p ≡ key z u v → p ≡ v
key_page z s p u v hp hv e = let d : s * z.pages ≡ u * z.pages = ap (λ (n : ℕ). n * z.pages) (key_space z s p u v hp hv e) in omega arith
