-- The cache with empty places after it: lookup, insertion while a place is empty, and drop do the same as on the smaller one.
use mathlib.Core.Path.{◌≡◌, refl, sym, ap, ◌∙◌}
use mathlib.Core.Bool.{Bool, true, false, not, cond}
use mathlib.Core.List.{List}
use Prim.Native.Nat.{ℕ, ◌≤◌, ◌<◌}
use native.Mathlib.Decide.{dec_lt, ℕ_discrete}
use native.Mathlib.Omega.{arith}
use lib.Dec.{T, lt→ltb, ltb→lt}
use lib.ListN.{length, set, length-set, get_or-eq_default}
use lib.Seq.{ext_get_or, get_or-set_same, get_or-set_other}
use Rattle.lend.specs.declared.Place.{Place}
use Rattle.lend.specs.Sizes.{Sizes}
use Rattle.lend.specs.Cache.{empty_place, filled, page_named, place_at, names, lowest, place_for, cached, empty_in, any_empty, goes_to, next_after, inserted, dropped_where}
use Rattle.lend_basics.proofs.Bools.{and_r, same_test, is_true}
use Rattle.lend_basics.proofs.Lists.{length_tabulate, tabulate_at, tabulate_past}
use Rattle.lend_sound.proofs.Places.{lowest_of, filled_in}
use Rattle.lend_laws.proofs.CacheDrops.{at_dropped, length_dropped}
use Rattle.lend_lending.proofs.Insert.{lowest_passes, hit_names}
use Rattle.lend_models.specs.Embedding.{wide_places}

-- ── the places ───────────────────────────────────────────────────────────
-- the wide cache is as long as its sizes say
pub length_wide_places : (w : Sizes) (c : List Place) → length (wide_places w c) ≡ w.places
unfolding wide_places
length_wide_places w c = length_tabulate (place_at c) w.places

-- each place is what it was; past the smaller cache it is empty
pub wide_place : (w : Sizes) (c : List Place) → length c ≤ w.places → (i : ℕ) → place_at (wide_places w c) i ≡ place_at c i
unfolding wide_places
wide_place w c fit i = go (dec_lt i w.places)
  where
    go : Dec (i < w.places) → place_at (wide_places w c) i ≡ place_at c i
    go (yes l) = tabulate_at (place_at c) w.places i empty_place l
    go (no l) =
        tabulate_past (place_at c) w.places i empty_place (omega arith)
        ∙ sym (get_or-eq_default c empty_place {n = i} (omega arith))

-- a cache is the wide form of a smaller one when it is as long as it should be and each place is the smaller one's
pub is_wide : (w : Sizes) (c d : List Place) → length c ≤ w.places → length d ≡ w.places → ((i : ℕ) → place_at d i ≡ place_at c i)
    → d ≡ wide_places w c
is_wide w c d fit len same =
    ext_get_or empty_place d (wide_places w c) (len ∙ sym (length_wide_places w c)) (λ i l. same i ∙ sym (wide_place w c fit i))

-- ── lookup ───────────────────────────────────────────────────────────────
-- a place that names a page has it in the cache
names_cached : (space page : ℕ) (c : List Place) (i : ℕ) → T (names space page (place_at c i)) → T (cached space page c)
unfolding cached place_for
names_cached space page c i h =
    let l : i < length c = filled_in c i (search (and_r)) in
    let m : lowest (names space page) c ≤ i = (lowest_of (names space page) c i l h).0 in
    lt→ltb (lowest (names space page) c) (length c) (omega arith)

-- a page is in the wide cache just when it is in the smaller one
pub cached_wide : (w : Sizes) (c : List Place) → length c ≤ w.places → (space page : ℕ)
    → cached space page (wide_places w c) ≡ cached space page c
cached_wide w c fit space page =
    same_test (cached space page d) (cached space page c)
    (λ t. names_cached space page c (place_for space page d) (rw (wide_place w c fit (place_for space page d)) at (hit_names space page d t)))
    (λ t. names_cached space page d (place_for space page c) (rw (wide_place w c fit (place_for space page c)) (hit_names space page c t)))
  where
    d : List Place
    d = wide_places w c

-- ── insertion, while a place is empty ────────────────────────────────────
-- a new entry goes to the lowest empty place
goes_empty : (c : List Place) (next : ℕ) → T (any_empty c) → goes_to c next ≡ empty_in c
unfolding goes_to
goes_empty c next room = rw (is_true (any_empty c) room)

module _ (w : Sizes) (c : List Place) (fit : length c ≤ w.places) (room : T (any_empty c)) where
  -- the lowest empty place is the same
  empty_wide : empty_in (wide_places w c) ≡ empty_in c
  unfolding empty_in
  empty_wide =
      let l : lowest bare c < length c = ltb→lt (lowest bare c) (length c) room in
      let o : T (bare (place_at c (lowest bare c))) = lowest_passes bare c l in
      let long = length_wide_places w c in
      let r = lowest_of bare d (lowest bare c) (omega arith) (rw (wide_place w c fit (lowest bare c)) o) in
      let low : lowest bare d ≤ lowest bare c = r.0 in
      let p : T (bare (place_at c (lowest bare d))) = rw (wide_place w c fit (lowest bare d)) at r.1 in
      let back : lowest bare c ≤ lowest bare d = (lowest_of bare c (lowest bare d) (omega arith) p).0 in
      omega arith
    where
      bare : Place → Bool
      bare q = not (filled q)

      d : List Place
      d = wide_places w c

  -- the lowest empty place is one of the places
  empty_in_law : empty_in c < length c
  empty_in_law = ltb→lt (empty_in c) (length c) room

  -- the wide cache has an empty place too
  any_empty_wide : T (any_empty (wide_places w c))
  any_empty_wide = lt→ltb (empty_in (wide_places w c)) (length (wide_places w c)) (omega (arith, empty_wide, empty_in_law, length_wide_places w c))

  -- a new entry goes to the lowest empty place, which is the same in both
  goes_wide : (next : ℕ) → goes_to (wide_places w c) next ≡ goes_to c next
  goes_wide next = goes_empty (wide_places w c) next any_empty_wide ∙ (empty_wide ∙ sym (goes_empty c next room))

  -- and the next place to replace stays
  pub next_wide : (next : ℕ) → next_after (wide_places w c) next ≡ next_after c next
  unfolding next_after
  next_wide next = rw (is_true (any_empty (wide_places w c)) any_empty_wide, is_true (any_empty c) room)

  -- so the entry put into the wide cache is the entry put into the smaller one
  pub inserted_wide : (next : ℕ) (q : Place) → inserted (wide_places w c) next q ≡ wide_places w (inserted c next q)
  inserted_wide next q =
      rw (goes_wide next, goes_empty c next room)
      (is_wide w (set c (empty_in c) q) (set (wide_places w c) (empty_in c) q)
      (omega (arith, length-set c (empty_in c) q))
      (length-set (wide_places w c) (empty_in c) q ∙ length_wide_places w c)
      (λ i. at i (ℕ_discrete i (empty_in c))))
    where
      at : (i : ℕ) → Dec (i ≡ empty_in c) → place_at (set (wide_places w c) (empty_in c) q) i ≡ place_at (set c (empty_in c) q) i
      at i (yes e) =
          rw e
          (get_or-set_same (wide_places w c) (empty_in c) q empty_place (omega (arith, empty_in_law, length_wide_places w c))
          ∙ sym (get_or-set_same c (empty_in c) q empty_place empty_in_law))
      at i (no n) =
          get_or-set_other (wide_places w c) (empty_in c) i q empty_place n
          ∙ (wide_place w c fit i ∙ sym (get_or-set_other c (empty_in c) i q empty_place n))

-- ── drop ─────────────────────────────────────────────────────────────────
-- tests that agree on every filled place drop the same entries
pub dropped_wide : (z w : Sizes) (t u : ℕ → Bool) (c : List Place) → length c ≤ w.places
    → ((i : ℕ) → T (not (filled (place_at c i))) → place_at c i ≡ empty_place)
    → ((i : ℕ) → T (filled (place_at c i)) → u (page_named w (place_at c i)) ≡ t (page_named z (place_at c i)))
    → dropped_where w u (wide_places w c) ≡ wide_places w (dropped_where z t c)
dropped_wide z w t u c fit empty agree =
    is_wide w (dropped_where z t c) (dropped_where w u (wide_places w c))
    (omega (arith, length_dropped z t c))
    (length_dropped w u (wide_places w c) ∙ length_wide_places w c)
    (λ i. at_dropped w u (wide_places w c) i
    ∙ (ap (λ (q : Place). cond (u (page_named w q)) empty_place q) (wide_place w c fit i)
    ∙ (same i (filled (place_at c i)) refl ∙ sym (at_dropped z t c i))))
  where
    none : (b : Bool) → cond b empty_place empty_place ≡ empty_place
    none true = refl
    none false = refl

    same : (i : ℕ) (b : Bool) → filled (place_at c i) ≡ b
        → cond (u (page_named w (place_at c i))) empty_place (place_at c i) ≡ cond (t (page_named z (place_at c i))) empty_place (place_at c i)
    same i true e = ap (λ (b : Bool). cond b empty_place (place_at c i)) (agree i (rw e tt))
    same i false e =
        let n : place_at c i ≡ empty_place = empty i (rw e tt) in
        rw n (none (u (page_named w empty_place)) ∙ sym (none (t (page_named z empty_place))))
