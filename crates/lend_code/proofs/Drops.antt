-- The drop of every place whose page lost a right, one place after the other.
use mathlib.Core.Path.{◌≡◌, refl, sym, ap, ◌∙◌}
use mathlib.Core.Bool.{Bool, true, false, cond}
use mathlib.Core.List.{List, [], ◌∷◌}
use Prim.Native.Nat.{ℕ, zero, suc, ◌+◌, ◌≤◌, ◌<◌}
use native.Mathlib.Nat.{not-suc-le-zero, le_of_suc-le-suc}
use native.Mathlib.Omega.{arith}
use lib.ListN.{length, set, get_or-eq_default}
use lib.Seq.{ext_get_or}
use Rattle.lend.specs.declared.Place.{Place}
use Rattle.lend.specs.Sizes.{Sizes}
use Rattle.lend.specs.Rights.{within}
use Rattle.lend.specs.Cache.{empty_place, place_at, page_named, dropped_where}
use Rattle.lend_basics.proofs.Loops.{Changed, changed_none, changed_more, changed_skip}
use Rattle.lend_code.specs.Inner.{lost_in}

module _ (z : Sizes) (t : ℕ → Bool) where
  -- what a place comes to
  abbrev pub kept : Place → Place
  kept q = cond (t (page_named z q)) empty_place q

  length_dropped : (c : List Place) → length (dropped_where z t c) ≡ length c
  length_dropped [] = refl
  length_dropped (q ∷ c) = ap suc (length_dropped c)

  dropped_at : (c : List Place) (j : ℕ) → j < length c → place_at (dropped_where z t c) j ≡ kept (place_at c j)
  dropped_at [] j h = absurd (not-suc-le-zero h)
  dropped_at (q ∷ c) zero h = refl
  dropped_at (q ∷ c) (suc j) h = dropped_at c j (le_of_suc-le-suc h)

  -- the first k places are as they come to, the others as they were
  pub record Dropping (old out : List Place) (k : ℕ) : Type 0 where
    pub changed : Changed empty_place (λ j. kept (place_at old j)) old out k

  pub dropping_none : (c : List Place) → Dropping c c 0
  dropping_none c = record { changed = changed_none empty_place (λ j. kept (place_at c j)) c }

  module _ {old out : List Place} {k : ℕ} (d : Dropping old out k) where
    -- what stands at place k is still the old entry
    still : t (page_named z (place_at out k)) ≡ t (page_named z (place_at old k))
    still = ap (λ (q : Place). t (page_named z q)) (d.changed.left k (omega arith))

    pub dropping_yes : k < length old → t (page_named z (place_at out k)) ≡ true → Dropping old (set out k empty_place) (k + 1)
    dropping_yes h e = record { changed = changed_more empty_place (λ j. kept (place_at old j)) old out k empty_place d.changed h (rw (sym still ∙ e)) }

    pub dropping_no : t (page_named z (place_at out k)) ≡ false → Dropping old out (k + 1)
    dropping_no e = record { changed = changed_skip empty_place (λ j. kept (place_at old j)) old out k d.changed (rw (sym still ∙ e)) }

    pub dropping_all : length old ≤ k → out ≡ dropped_where z t old
    dropping_all h =
        ext_get_or empty_place out (dropped_where z t old) (d.changed.long ∙ sym (length_dropped old))
        (λ j l. d.changed.done j (omega (arith, d.changed.long)) ∙ sym (dropped_at old j (omega (arith, d.changed.long))))

-- a page past the table lost nothing
pub lost_past : (before after : List ℕ) (k : ℕ) → length before ≤ k → lost_in before after k ≡ false
unfolding within
lost_past before after k h = rw (get_or-eq_default before 0 {n = k} h)
