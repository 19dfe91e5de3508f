-- The line of a page: it is one, it is computed, and on a sound table it has at most as many pages as there are live spaces.
use mathlib.Core.Path.{◌≡◌, refl, sym, subst, ap, ◌∙◌}
use mathlib.Core.Bool.{Bool, true, false, not, ◌&&◌, ◌||◌}
use mathlib.Core.List.{List, [], ◌∷◌, map}
use mathlib.Core.Option.{Option, none, some}
use mathlib.Core.Logic.{◌⊎◌, inl, inr}
use Prim.Native.Nat.{ℕ, zero, suc, ◌+◌, ◌≤◌, ◌<◌}
use native.Mathlib.Nat.{le_of_suc-le-suc, not-suc-le-zero, le_trans, div-eq_of_lt, mul-add-div_right, add-zero}
use native.Mathlib.Decide.{dec_lt}
use native.Mathlib.Omega.{arith}
use lib.Dec.{T, eqb, eqb→eq, eqb_refl, T_not}
use lib.ListN.{length, length-map, get_or-eq_default}
use borrow.Author.Tests.{eqb-true}
use Rattle.lend.specs.declared.Link.{Link}
use Rattle.lend.specs.declared.Link.TheVariants.{Nothing, Frame, Page}
use Rattle.lend.specs.Sizes.{Sizes, key, space_of, in_pool}
use Rattle.lend.specs.Lists.{any, member, distinct, count}
use Rattle.lend.specs.Slots.{Table, held}
use Rattle.lend.specs.Tables.{alive}
use Rattle.lend.specs.Line.{parent, Line, ends, climbs, onward, line, line_of, is_on_line, below, frame, frame_of}
use Rattle.lend.specs.Sound.{Rooted, SoundPages}
use Rattle.lend_basics.proofs.Bools.{and_l, or_l, or_cases, is_false, and_true}
use Rattle.lend_basics.proofs.Lists.{member_map, any_map, any_one}
use Rattle.lend_basics.proofs.Pigeon.{pigeon, count_le}

-- ── pages as numbers ─────────────────────────────────────────────────────
-- the space of page p of space s is s
pub space_of_key : (z : Sizes) (s p : ℕ) → p < z.pages → space_of z (key z s p) ≡ s
space_of_key z s p h = mul-add-div_right {m = z.pages} (omega arith) s p ∙ ap (λ (n : ℕ). s + n) (div-eq_of_lt h) ∙ add-zero s

-- ── parents ──────────────────────────────────────────────────────────────
-- a page with a parent was lent by that parent
pub parent_link : (z : Sizes) (f : Table) (k q : ℕ) → parent z f k ≡ some q → (s : ℕ) × (p : ℕ) × ((f k).link ≡ Page s p) × (key z s p ≡ q)
parent_link z f k q e = go (f k).link refl
  where
    go : (l : Link) → (f k).link ≡ l → (s : ℕ) × (p : ℕ) × ((f k).link ≡ Page s p) × (key z s p ≡ q)
    go Nothing d = let n : none ≡ some q = rw d at e in let x : ◌≡◌ {A = ℕ} 0 1 = cc in absurd (omega arith)
    go (Frame i) d = let n : none ≡ some q = rw d at e in let x : ◌≡◌ {A = ℕ} 0 1 = cc in absurd (omega arith)
    go (Page s p) d = let n : some (key z s p) ≡ some q = rw d at e in (s, p, d, cc)

-- the parent of a page that was lent
pub link_parent : (z : Sizes) (f : Table) (k s p : ℕ) → (f k).link ≡ Page s p → parent z f k ≡ some (key z s p)
link_parent z f k s p e = rw e

frame_ends : (z : Sizes) (f : Table) (k : ℕ) → parent z f k ≡ none → (m n : ℕ) → frame z f (suc m) k ≡ frame z f (suc n) k
unfolding frame
frame_ends z f k e m n = go (f k).link refl
  where
    go : (x : Link) → (f k).link ≡ x → frame z f (suc m) k ≡ frame z f (suc n) k
    go Nothing d = rw d
    go (Frame i) d = rw d
    go (Page s p) d = let c : some (key z s p) ≡ none = rw d at e in let x : ◌≡◌ {A = ℕ} 0 1 = cc in absurd (omega arith)

frame_climbs : (z : Sizes) (f : Table) (k q : ℕ) → parent z f k ≡ some q → (n : ℕ) → frame z f (suc n) k ≡ frame z f n q
unfolding frame
frame_climbs z f k q e n = let r = parent_link z f k q e in rw (r.2, r.3)

-- ── one line, and its computation ────────────────────────────────────────
module _ {z : Sizes} {f : Table} where
  -- a page has one line
  pub line_unique : {k : ℕ} {l m : List ℕ} → Line z f k l → Line z f k m → l ≡ m
  line_unique (ends e) (ends d) = refl
  line_unique (ends e) (climbs {q = r} d b) = let n : none ≡ some r = sym e ∙ d in let x : ◌≡◌ {A = ℕ} 0 1 = cc in absurd (omega arith)
  line_unique (climbs {q = r} e a) (ends d) = let n : none ≡ some r = sym d ∙ e in let x : ◌≡◌ {A = ℕ} 0 1 = cc in absurd (omega arith)
  line_unique {k} (climbs {q = q} {l = l} e a) (climbs {q = r} {l = m} d b) =
      let n : some q ≡ some r = sym e ∙ d in
      let x : r ≡ q = cc in
      ap (λ (t : List ℕ). k ∷ t) (line_unique a (subst (λ (y : ℕ). Line z f y m) x b))

  -- followed far enough, the computation gives the line
  pub line_computed : {k : ℕ} {l : List ℕ} → Line z f k l → (n : ℕ) → length l ≤ n → line z f n k ≡ l
  unfolding line
  line_computed (ends e) zero h = absurd (not-suc-le-zero h)
  line_computed (ends e) (suc n) h = rw e
  line_computed (climbs e a) zero h = absurd (not-suc-le-zero h)
  line_computed {k} (climbs e a) (suc n) h = rw e (ap (λ (t : List ℕ). k ∷ t) (line_computed a n (le_of_suc-le-suc h)))

  -- a line begins with its page
  line_head : {k : ℕ} {l : List ℕ} → Line z f k l → T (member k l)
  line_head {k} (ends e) = or_l (eqb k k) false (eqb_refl k)
  line_head {k} (climbs {l = l} e a) = or_l (eqb k k) (member k l) (eqb_refl k)

  -- a line has a page at least
  pub line_some : {k : ℕ} {l : List ℕ} → Line z f k l → 1 ≤ length l
  line_some (ends e) = omega arith
  line_some (climbs e a) = omega arith

  -- where every parent is held, every page on a held page's line is
  line_all_held : ((k q : ℕ) → parent z f k ≡ some q → T (held (f q))) → {k : ℕ} {l : List ℕ} → Line z f k l → T (held (f k)) → (q : ℕ) → T (member q l) → T (held (f q))
  line_all_held up {k} (ends e) h q m = go (or_cases (eqb k q) false m)
    where
      go : T (eqb k q) ⊎ ⊥ → T (held (f q))
      go (inl t) = rw (eqb→eq k q t) at h
      go (inr t) = absurd t
  line_all_held up {k} (climbs {q = j} {l = l} e a) h q m = go (λ t. line_all_held up a (up k j e) q t) (or_cases (eqb k q) (member q l) m)
    where
      go : (T (member q l) → T (held (f q))) → T (eqb k q) ⊎ T (member q l) → T (held (f q))
      go rest (inl t) = rw (eqb→eq k q t) at h
      go rest (inr t) = rest t

  -- once a line is followed to its end, more pages change nothing in its frame
  pub frame_fuel : {k : ℕ} {l : List ℕ} → Line z f k l → (m n : ℕ) → length l ≤ m → length l ≤ n → frame z f m k ≡ frame z f n k
  frame_fuel (ends e) zero n h g = absurd (not-suc-le-zero h)
  frame_fuel (ends e) (suc m) zero h g = absurd (not-suc-le-zero g)
  frame_fuel {k} (ends e) (suc m) (suc n) h g = frame_ends z f k e m n
  frame_fuel (climbs e a) zero n h g = absurd (not-suc-le-zero h)
  frame_fuel (climbs e a) (suc m) zero h g = absurd (not-suc-le-zero g)
  frame_fuel {k} (climbs {q = q} e a) (suc m) (suc n) h g =
      frame_climbs z f k q e m ∙ frame_fuel a m n (le_of_suc-le-suc h) (le_of_suc-le-suc g) ∙ sym (frame_climbs z f k q e n)

-- ── the same links ───────────────────────────────────────────────────────
-- Two tables have the same links on some pages, with which their parents stay: what stands behind such a page is the same in both.
module _ (z : Sizes) (f g : Table) (Stays : ℕ → Type 0) (same : (k : ℕ) → Stays k → (g k).link ≡ (f k).link)
    (up : (k s p : ℕ) → (f k).link ≡ Page s p → Stays k → Stays (key z s p)) where
  -- its line
  pub is_line_same : {k : ℕ} {l : List ℕ} → Line z f k l → Stays k → Line z g k l
  is_line_same {k} (ends e) h = ends {k = k} (rw (same k h) e)
  is_line_same {k} (climbs {q = q} e a) h =
      let r = parent_link z f k q e in
      climbs {k = k} {q = q} (rw (same k h) e) (is_line_same a (subst Stays r.3 (up k r.0 r.1 r.2 h)))

  -- its line as it is computed
  pub line_same : (n k : ℕ) → Stays k → line z g n k ≡ line z f n k
  unfolding line
  line_same zero k h = refl
  line_same (suc n) k h = go (λ q. line_same n q) (f k).link refl
    where
      go : ((q : ℕ) → Stays q → line z g n q ≡ line z f n q) → (l : Link) → (f k).link ≡ l → line z g (suc n) k ≡ line z f (suc n) k
      go ih Nothing e = rw (same k h, e)
      go ih (Frame i) e = rw (same k h, e)
      go ih (Page s p) e = rw (same k h, e) (ap (λ (l : List ℕ). k ∷ l) (ih (key z s p) (up k s p e h)))

  -- and its frame
  pub frame_same : (n k : ℕ) → Stays k → frame z g n k ≡ frame z f n k
  unfolding frame
  frame_same zero k h = refl
  frame_same (suc n) k h = go (λ q. frame_same n q) (f k).link refl
    where
      go : ((q : ℕ) → Stays q → frame z g n q ≡ frame z f n q) → (l : Link) → (f k).link ≡ l → frame z g (suc n) k ≡ frame z f (suc n) k
      go ih Nothing e = rw (same k h, e)
      go ih (Frame i) e = rw (same k h, e)
      go ih (Page s p) e = rw (same k h, e) (ih (key z s p) (up k s p e h))

-- ── a computed line that reaches the pool is a line ──────────────────────
module _ (z : Sizes) (f : Table) (tops : (k : ℕ) → T (in_pool z k) → parent z f k ≡ none) where
  -- where pages of space 0 have no parent, a computation that came to space 0 was at the line's end
  pub fuel_line : (n k : ℕ) → T (any (in_pool z) (line z f n k)) → Line z f k (line z f n k)
  unfolding line
  fuel_line zero k h = absurd h
  fuel_line (suc n) k h = go (λ q. fuel_line n q) (parent z f k) refl
    where
      go : ((q : ℕ) → T (any (in_pool z) (line z f n q)) → Line z f q (line z f n q)) → (o : Option ℕ) → parent z f k ≡ o → Line z f k (line z f (suc n) k)
      go ih none e = rw e (ends e)
      go ih (some q) e = rw e (climbs e (ih q (up (or_cases (in_pool z k) (any (in_pool z) (onward (parent z f k) (λ q. line z f n q))) h))))
        where
          up : T (in_pool z k) ⊎ T (any (in_pool z) (onward (parent z f k) (λ q. line z f n q))) → T (any (in_pool z) (line z f n q))
          up (inl t) = let c : none ≡ some q = sym (tops k t) ∙ e in let x : ◌≡◌ {A = ℕ} 0 1 = cc in absurd (omega arith)
          up (inr t) = rw e at t

  -- so a page whose computed line reaches space 0 and meets no space twice is rooted
  pub fuel_rooted : (n k : ℕ) → T (any (in_pool z) (line z f n k)) → T (distinct (map (space_of z) (line z f n k))) → Rooted z f k
  fuel_rooted n k h d = record { pages = line z f n k; is_line = fuel_line n k h; reaches = h; once = d }

-- ── lines of a sound table ───────────────────────────────────────────────
-- a live space is among the spaces
pub alive_in : (live : List Bool) (s : ℕ) → T (alive live s) → s < length live
alive_in live s h = go (dec_lt s (length live))
  where
    go : Dec (s < length live) → s < length live
    go (yes l) = l
    go (no l) = absurd (rw (get_or-eq_default live false {n = s} (omega arith)) at h)

-- what is in a mapped list is the image of something in the list
pub map_member : (h : ℕ → ℕ) (x : ℕ) (qs : List ℕ) → T (member x (map h qs)) → (q : ℕ) × T (member q qs) × (h q ≡ x)
map_member h x qs m = let r = any_one (λ q. eqb (h q) x) qs (rw (any_map h (λ y. eqb y x) qs) at m) in (r.0, r.1, eqb→eq (h r.0) x r.2)

-- pages of different spaces are at most as many as the spaces that pass a test which theirs all pass
pub spaces_at_most : (z : Sizes) (t : ℕ → Bool) (l : List ℕ) → T (distinct (map (space_of z) l))
    → ((q : ℕ) → T (member q l) → (space_of z q < z.spaces) × T (t (space_of z q)))
    → length l ≤ count z.spaces t
spaces_at_most z t l d h = rw (length-map l (space_of z)) at (pigeon (map (space_of z) l) t z.spaces d each)
  where
    each : (x : ℕ) → T (member x (map (space_of z) l)) → (x < z.spaces) × T (t x)
    each x m = let r = map_member (space_of z) x l m in rw r.2 at (h r.0 r.1)

module _ (z : Sizes) (live : List Bool) (f : Table) (len : length live ≡ z.spaces) (sound : SoundPages z live f) where
  -- there is a space at least
  pub spaces_some : 1 ≤ z.spaces
  spaces_some = rw len at (alive_in live 0 sound.pool_live)

  -- a held page is in a live space
  pub held_live : (k : ℕ) → T (held (f k)) → T (alive live (space_of z k))
  held_live k h = go (alive live (space_of z k)) refl
    where
      go : (b : Bool) → alive live (space_of z k) ≡ b → T b
      go true e = tt
      go false e = rw (sound.not_live k (rw e tt)) at h

  -- a page of space 0 has no parent
  pub pool_top : (k : ℕ) → k < z.pages → parent z f k ≡ none
  pool_top k h = rw (sound.pool k h)

  -- a parent is held
  pub parent_held : (k q : ℕ) → parent z f k ≡ some q → T (held (f q))
  parent_held k q e = let r = parent_link z f k q e in rw r.3 at (sound.lent k r.0 r.1 r.2).parent_held

  -- every page on a held page's line is held
  pub line_held : {k : ℕ} {l : List ℕ} → Line z f k l → T (held (f k)) → (q : ℕ) → T (member q l) → T (held (f q))
  line_held a h q m = line_all_held parent_held a h q m

  -- M-101: the line of a held page has at most as many pages as there are live spaces
  pub line_at_most : (k : ℕ) → T (held (f k)) → (r : Rooted z f k) → length r.pages ≤ count z.spaces (alive live)
  line_at_most k h r = spaces_at_most z (alive live) r.pages r.once in_live
    where
      in_live : (q : ℕ) → T (member q r.pages) → (space_of z q < z.spaces) × T (alive live (space_of z q))
      in_live q m = let a = held_live q (line_held r.is_line h q m) in (rw len at (alive_in live (space_of z q) a), a)

  -- the line of a held page has at most as many pages as there are spaces (01: 'at most 8 pages')
  pub line_short : (k : ℕ) → T (held (f k)) → (r : Rooted z f k) → length r.pages ≤ z.spaces
  line_short k h r = le_trans (line_at_most k h r) (count_le (alive live) z.spaces)

  -- the computed line of a held page is its line
  line_rooted : (k : ℕ) (h : T (held (f k))) → line_of z f k ≡ (sound.rooted k h).pages
  line_rooted k h = line_computed (sound.rooted k h).is_line z.spaces (line_short k h (sound.rooted k h))

  -- of every page, held or empty, the computed line is its line
  pub the_line : (k : ℕ) → Line z f k (line_of z f k)
  the_line k = go (f k).link refl
    where
      rooted : T (held (f k)) → Line z f k (line_of z f k)
      rooted h = rw (line_rooted k h) (sound.rooted k h).is_line

      top : parent z f k ≡ none → Line z f k (line_of z f k)
      top e = let a : Line z f k (k ∷ []) = ends e in rw (line_computed a z.spaces spaces_some) a

      go : (x : Link) → (f k).link ≡ x → Line z f k (line_of z f k)
      go Nothing e = top (rw e)
      go (Frame i) e = top (rw e)
      go (Page s p) e = rooted (rw e tt)

  -- the line of a held page comes to space 0
  pub line_reaches : (k : ℕ) → T (held (f k)) → T (any (in_pool z) (line_of z f k))
  line_reaches k h = rw (line_rooted k h) (sound.rooted k h).reaches

  -- the line of a held page meets no space twice
  pub line_once : (k : ℕ) → T (held (f k)) → T (distinct (map (space_of z) (line_of z f k)))
  line_once k h = rw (line_rooted k h) (sound.rooted k h).once

  -- every page on a held page's line is held, for the computed line
  pub on_line_held : (k q : ℕ) → T (held (f k)) → T (is_on_line z f k q) → T (held (f q))
  on_line_held k q h m = line_held (the_line k) h q m

  -- the line of a page that was lent is the page and then its parent's line
  pub line_step : (k s p : ℕ) → (f k).link ≡ Page s p → line_of z f k ≡ k ∷ line_of z f (key z s p)
  line_step k s p e = line_unique (the_line k) (climbs (link_parent z f k s p e) (the_line (key z s p)))

  -- the line of a page with no parent is the page alone
  pub line_top : (k : ℕ) → parent z f k ≡ none → line_of z f k ≡ k ∷ []
  line_top k e = line_unique (the_line k) (ends e)

  -- a page is on its own line
  pub line_self : (k : ℕ) → T (is_on_line z f k k)
  line_self k = line_head (the_line k)

  -- no line is longer than the fuel it is followed with
  pub line_fits : (k : ℕ) → length (line_of z f k) ≤ z.spaces
  line_fits k = go (f k).link refl
    where
      go : (x : Link) → (f k).link ≡ x → length (line_of z f k) ≤ z.spaces
      go Nothing e = rw (line_top k (rw e)) spaces_some
      go (Frame i) e = rw (line_top k (rw e)) spaces_some
      go (Page s p) e = let h : T (held (f k)) = rw e tt in rw (line_rooted k h) (line_short k h (sound.rooted k h))

  -- a page is not on its parent's line
  pub line_apart : (k s p : ℕ) → (f k).link ≡ Page s p → T (is_on_line z f (key z s p) k) → ⊥
  line_apart k s p e m =
      let d : T (distinct (map (space_of z) (k ∷ line_of z f (key z s p)))) = rw (line_step k s p e) at (line_once k (rw e tt)) in
      T_not (member (space_of z k) (map (space_of z) (line_of z f (key z s p))))
      (and_l (not (member (space_of z k) (map (space_of z) (line_of z f (key z s p))))) (distinct (map (space_of z) (line_of z f (key z s p)))) d)
      (member_map (space_of z) k (line_of z f (key z s p)) m)

  -- a page that was lent is below just the pages of its parent's line
  pub below_up : (k s p y : ℕ) → (f k).link ≡ Page s p → below z f k y ≡ is_on_line z f (key z s p) y
  below_up k s p y e = rw (line_step k s p e) (go (eqb k y) refl)
    where
      go : (b : Bool) → eqb k y ≡ b → ((b || is_on_line z f (key z s p) y) && not b) ≡ is_on_line z f (key z s p) y
      go true q = sym (is_false (is_on_line z f (key z s p) y) (λ m. line_apart k s p e (rw (eqb-true k y q) m)))
      go false q = and_true (is_on_line z f (key z s p) y)

  -- a page with no parent is below none
  pub below_top : (k y : ℕ) → parent z f k ≡ none → below z f k y ≡ false
  below_top k y e = rw (line_top k e) (go (eqb k y))
    where
      go : (b : Bool) → ((b || false) && not b) ≡ false
      go true = refl
      go false = refl

  -- a page that was lent has its parent's frame
  pub frame_step : (k s p : ℕ) → (f k).link ≡ Page s p → frame_of z f k ≡ frame_of z f (key z s p)
  frame_step k s p e =
      frame_fuel (the_line k) z.spaces (suc z.spaces) (line_fits k) (omega (arith, line_fits k))
      ∙ frame_climbs z f k (key z s p) (link_parent z f k s p e) z.spaces
