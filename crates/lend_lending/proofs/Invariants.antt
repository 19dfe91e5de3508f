-- The seven invariants of 003, section 4: the third on every board, the others on every sound one, and so all of them on every
-- board that calls reach from the start.
use mathlib.Core.Path.{◌≡◌, refl, sym, subst, ap, ◌∙◌}
use mathlib.Core.Bool.{Bool, false, not}
use mathlib.Core.List.{List, ◌∷◌, map}
use mathlib.Core.Option.{none, some}
use mathlib.Core.Logic.{◌⊎◌, inl, inr, ◌↔◌}
use Prim.Native.Nat.{ℕ, ◌≤◌}
use native.Mathlib.Decide.{ℕ_discrete}
use native.Mathlib.Omega.{arith}
use lib.Dec.{T, eqb, eqb→eq, T_not}
use lib.ListN.{length}
use Rattle.lend.specs.declared.Link.{Link}
use Rattle.lend.specs.declared.Link.TheVariants.{Nothing, Frame, Page}
use Rattle.lend.specs.declared.Place.{Place}
use Rattle.lend.specs.Sizes.{Sizes, key, space_of}
use Rattle.lend.specs.Rights.{within}
use Rattle.lend.specs.Lists.{member, distinct}
use Rattle.lend.specs.Slots.{Table, linked, held}
use Rattle.lend.specs.Tables.{Tables, State, table_of}
use Rattle.lend.specs.Line.{parent, Line, ends, climbs, line_of, is_on_line, frame_of}
use Rattle.lend.specs.Cache.{page_named, place_at, names, place_for, cached}
use Rattle.lend.specs.Sound.{SoundPages, Sound}
use Rattle.lend.specs.Calls.{Call, steps}
use Rattle.lend_basics.proofs.Bools.{and_l, and_r, or_r, or_cases}
use Rattle.lend_basics.proofs.Lists.{member_map}
use Rattle.lend_sound.proofs.Lines.{parent_link, the_line, line_step, line_once, line_self, parent_held}
use Rattle.lend_laws.proofs.Withdraw.{held_pos}
use Rattle.lend_lending.proofs.Frames.{frame_here, frame_up}
use Rattle.lend_lending.proofs.Insert.{hit_names, hit_place}
use Rattle.lend_lending.proofs.Always.{start_state, steps_sound, reached_sound}

-- ── ways up ──────────────────────────────────────────────────────────────
-- Up z f x y: from page x one link or more lead up to page y
pub data Up (z : Sizes) (f : Table) : ℕ → ℕ → Type 0 where
  first : {x y : ℕ} → parent z f x ≡ some y → Up z f x y
  further : {x w y : ℕ} → parent z f x ≡ some w → Up z f w y → Up z f x y

-- ToFrame z f x i: page x holds frame i, or links lead from it up to a page that does
pub data ToFrame (z : Sizes) (f : Table) : ℕ → ℕ → Type 0 where
  holds : {x i : ℕ} → (f x).link ≡ Frame i → ToFrame z f x i
  above : {x w i : ℕ} → parent z f x ≡ some w → ToFrame z f w i → ToFrame z f x i

-- a page with a parent is held
has_parent : (z : Sizes) (f : Table) (x w : ℕ) → parent z f x ≡ some w → T (held (f x))
has_parent z f x w e = rw (parent_link z f x w e).2 tt

-- a page that holds a frame has no parent
frame_or_page : (z : Sizes) (f : Table) (x w i : ℕ) → parent z f x ≡ some w → (f x).link ≡ Frame i → ⊥
frame_or_page z f x w i e d = let n : none ≡ some w = rw d at e in let y : ◌≡◌ {A = ℕ} 0 1 = cc in omega arith

module _ (z : Sizes) (live : List Bool) (f : Table) (len : length live ≡ z.spaces) (sound : SoundPages z live f) where
  line_up : (x w : ℕ) → parent z f x ≡ some w → line_of z f x ≡ x ∷ line_of z f w
  line_up x w e =
      let r = parent_link z f x w e in
      line_step z live f len sound x r.0 r.1 r.2 ∙ ap (λ (n : ℕ). x ∷ line_of z f n) r.3

  -- the page that links lead up to is on the line
  up_on_line : {x y : ℕ} → Up z f x y → T (is_on_line z f x y)
  up_on_line {x} {y} (first e) = rw (line_up x y e) (or_r (eqb x y) (is_on_line z f y y) (line_self z live f len sound y))
  up_on_line {x} {y} (further {w = w} e u) = rw (line_up x w e) (or_r (eqb x y) (is_on_line z f w y) (up_on_line u))

  -- a page above is in another space
  parent_apart : (x w y : ℕ) → parent z f x ≡ some w → T (is_on_line z f w y) → space_of z x ≡ space_of z y → ⊥
  parent_apart x w y e m q =
      let d : T (distinct (map (space_of z) (x ∷ line_of z f w))) = rw (line_up x w e) at (line_once z live f len sound x (has_parent z f x w e)) in
      T_not (member (space_of z x) (map (space_of z) (line_of z f w)))
      (and_l (not (member (space_of z x) (map (space_of z) (line_of z f w)))) (distinct (map (space_of z) (line_of z f w))) d)
      (rw q (member_map (space_of z) y (line_of z f w) m))

  up_apart : {x y : ℕ} → Up z f x y → space_of z x ≡ space_of z y → ⊥
  up_apart {x} {y} (first e) q = parent_apart x y y e (line_self z live f len sound y) q
  up_apart {x} {y} (further {w = w} e u) q = parent_apart x w y e (up_on_line u) q

  line_to_up : {x : ℕ} {l : List ℕ} → Line z f x l → (y : ℕ) → T (member y l) → (x ≡ y → ⊥) → Up z f x y
  line_to_up {x} (ends e) y m n = go (or_cases (eqb x y) false m)
    where
      go : T (eqb x y) ⊎ ⊥ → Up z f x y
      go (inl t) = absurd (n (eqb→eq x y t))
      go (inr t) = absurd t
  line_to_up {x} (climbs {q = w} {l = l} e a) y m n = go (line_to_up a y) (or_cases (eqb x y) (member y l) m) (ℕ_discrete w y)
    where
      go : (T (member y l) → (w ≡ y → ⊥) → Up z f w y) → T (eqb x y) ⊎ T (member y l) → Dec (w ≡ y) → Up z f x y
      go ih (inl t) d = absurd (n (eqb→eq x y t))
      go ih (inr t) (yes d) = first {x = x} (e ∙ ap some d)
      go ih (inr t) (no d) = further {x = x} {w = w} e (ih t d)

  line_to_frame : {x : ℕ} {l : List ℕ} → Line z f x l → T (held (f x)) → ToFrame z f x (frame_of z f x)
  line_to_frame {x} (ends e) h = go (f x).link refl h
    where
      go : (k : Link) → (f x).link ≡ k → T (linked k) → ToFrame z f x (frame_of z f x)
      go Nothing d t = absurd t
      go (Frame i) d t = holds {x = x} (d ∙ ap Frame (sym (frame_here z live f len sound x i d)))
      go (Page s p) d t = let n : some (key z s p) ≡ none = rw d at e in let y : ◌≡◌ {A = ℕ} 0 1 = cc in absurd (omega arith)
  line_to_frame {x} (climbs {q = w} e a) h =
      above {x = x} {w = w} e
      (subst (λ (i : ℕ). ToFrame z f w i) (sym (frame_up z live f len sound x w e)) (line_to_frame a (parent_held z live f len sound x w e)))

  -- links lead from a held page up to its frame
  held_to_frame : (x : ℕ) → T (held (f x)) → ToFrame z f x (frame_of z f x)
  held_to_frame x h = line_to_frame (the_line z live f len sound x) h

frame_to_held : {z : Sizes} {f : Table} {x i : ℕ} → ToFrame z f x i → T (held (f x))
frame_to_held (holds e) = rw e tt
frame_to_held {z} {f} {x} (above {w = w} e u) = has_parent z f x w e

-- ── the seven statements ─────────────────────────────────────────────────
-- 1: no way up from a page comes to a page of the same space, itself included
abbrev pub NoRing : Sizes → Tables → Type 0
NoRing z b = (x y : ℕ) → Up z (table_of b) x y → space_of z x ≡ space_of z y → ⊥

-- 2: the held pages are just those from which links lead to a frame
abbrev pub HeldHasFrame : Sizes → Tables → Type 0
HeldHasFrame z b = (x : ℕ) → T (held (table_of b x)) ↔ ((i : ℕ) × ToFrame z (table_of b) x i)

-- 3: a page has one link, so two pages that are its parent are one, and two frames that it leads to are one
pub record OneParent (z : Sizes) (b : Tables) : Type 0 where
  pub one_link : (x : ℕ) (l m : Link) → (table_of b x).link ≡ l → (table_of b x).link ≡ m → l ≡ m
  pub one_parent : (x y w : ℕ) → parent z (table_of b) x ≡ some y → parent z (table_of b) x ≡ some w → y ≡ w
  pub one_frame : (x i j : ℕ) → ToFrame z (table_of b) x i → ToFrame z (table_of b) x j → i ≡ j

-- 4: a held page has a right
abbrev pub HeldHasRight : Tables → Type 0
HeldHasRight b = (x : ℕ) → T (held (table_of b x)) → 1 ≤ (table_of b x).rights

-- 5: every right of a page is one of its parent's
abbrev pub ParentHasRights : Sizes → Tables → Type 0
ParentHasRights z b = (x y : ℕ) → parent z (table_of b) x ≡ some y → T (within (table_of b x).rights (table_of b y).rights)

-- 6: what the cache finds for a page is the frame that the page's links lead to, and the page's rights
abbrev pub CacheAgrees : Sizes → Tables → Type 0
CacheAgrees z b = (space page : ℕ) → T (cached space page b.places)
    → ToFrame z (table_of b) (key z space page) (place_at b.places (place_for space page b.places)).frame
    × ((place_at b.places (place_for space page b.places)).rights ≡ (table_of b (key z space page)).rights)

-- 7: no two places of the cache name the same page
abbrev pub NamedOnce : Tables → Type 0
NamedOnce b = (space page i j : ℕ) → T (names space page (place_at b.places i)) → T (names space page (place_at b.places j)) → i ≡ j

-- ── the seven theorems ───────────────────────────────────────────────────
one_frame_only : {z : Sizes} {f : Table} {x i j : ℕ} → ToFrame z f x i → ToFrame z f x j → i ≡ j
one_frame_only {z} {f} {x} {i} {j} (holds e) (holds d) = let n : Frame i ≡ Frame j = sym e ∙ d in cc
one_frame_only {z} {f} {x} {i} {j} (holds e) (above {w = w} d u) = absurd (frame_or_page z f x w i d e)
one_frame_only {z} {f} {x} {i} {j} (above {w = w} e u) (holds d) = absurd (frame_or_page z f x w j e d)
one_frame_only {z} {f} {x} {i} {j} (above {w = w} e u) (above {w = y} d v) =
    let n : some w ≡ some y = sym e ∙ d in
    let q : y ≡ w = cc in
    one_frame_only u (subst (λ (k : ℕ). ToFrame z f k j) q v)

-- a page has one parent and one frame: on every board, sound or not, as a page has one link
pub invariant_3 : (z : Sizes) (b : Tables) → OneParent z b
invariant_3 z b = record {
  one_link = λ x l m e d. sym e ∙ d;
  one_parent = λ x y w e d. let n : some y ≡ some w = sym e ∙ d in cc;
  one_frame = λ x i j u v. one_frame_only u v;
}

module _ (z : Sizes) (b : Tables) (sound : Sound z b) where
  -- no page is lent to a space that it came through
  pub invariant_1 : NoRing z b
  invariant_1 x y u = up_apart z b.live (table_of b) sound.shape.live_long sound.pages u

  -- a page is held just when a frame stands behind it
  pub invariant_2 : HeldHasFrame z b
  invariant_2 x = (
    λ h. (frame_of z (table_of b) x, held_to_frame z b.live (table_of b) sound.shape.live_long sound.pages x h),
    λ r. frame_to_held r.1,
  )

  -- a page whose last right went is empty
  pub invariant_4 : HeldHasRight b
  invariant_4 x h = held_pos z b.live (table_of b) sound.pages x h

  -- no page has more than its parent
  pub invariant_5 : ParentHasRights z b
  invariant_5 x y e =
      let r = parent_link z (table_of b) x y e in
      rw r.3 at (sound.pages.lent x r.0 r.1 r.2).contained

  -- the cache says what the links say
  pub invariant_6 : CacheAgrees z b
  invariant_6 space page h =
      let r = hit_place z b sound space page h in
      let o = hit_names space page b.places h in
      let n = sound.cache.filled_names (place_for space page b.places) (search (and_l, and_r) depth 12) in (
        subst (λ (i : ℕ). ToFrame z (table_of b) (key z space page) i) (sym r.0)
            (held_to_frame z b.live (table_of b) sound.shape.live_long sound.pages (key z space page) (held_there o n.is_held)),
        r.1,
      )
    where
      q : Place
      q = place_at b.places (place_for space page b.places)

      held_there : T (names space page q) → T (held (table_of b (page_named z q))) → T (held (table_of b (key z space page)))
      held_there o t =
          let es : q.space ≡ space = eqb→eq q.space space (search (and_l, and_r) depth 12) in
          let ep : q.page ≡ page = eqb→eq q.page page (search (and_l, and_r) depth 12) in
          rw (es, ep) at t

  -- the cache does not contradict itself
  pub invariant_7 : NamedOnce b
  invariant_7 space page i j h g =
      let si : (place_at b.places i).space ≡ space = eqb→eq (place_at b.places i).space space (search (and_l, and_r) depth 12) in
      let pi : (place_at b.places i).page ≡ page = eqb→eq (place_at b.places i).page page (search (and_l, and_r) depth 12) in
      let sj : (place_at b.places j).space ≡ space = eqb→eq (place_at b.places j).space space (search (and_l, and_r) depth 12) in
      let pj : (place_at b.places j).page ≡ page = eqb→eq (place_at b.places j).page page (search (and_l, and_r) depth 12) in
      sound.cache.one_each i j (search (and_l, and_r) depth 12) (search (and_l, and_r) depth 12) (rw (si, pi, sj, pj))

-- ── all of them, always ──────────────────────────────────────────────────
-- the seven together
pub record Invariants (z : Sizes) (b : Tables) : Type 0 where
  pub no_ring : NoRing z b
  pub held_has_frame : HeldHasFrame z b
  pub one_parent : OneParent z b
  pub held_has_right : HeldHasRight b
  pub parent_has_rights : ParentHasRights z b
  pub cache_agrees : CacheAgrees z b
  pub named_once : NamedOnce b

-- a sound board has all seven
sound_invariants : (z : Sizes) (b : Tables) → Sound z b → Invariants z b
sound_invariants z b sound = record {
  no_ring = invariant_1 z b sound;
  held_has_frame = invariant_2 z b sound;
  one_parent = invariant_3 z b;
  held_has_right = invariant_4 z b sound;
  parent_has_rights = invariant_5 z b sound;
  cache_agrees = invariant_6 z b sound;
  named_once = invariant_7 z b sound;
}

-- and so has every board that calls reach from a sound one
pub invariants_kept : (z : Sizes) → 1 ≤ z.pages → (st : State) → Sound z st.board → (cs : List Call) → Invariants z (steps z st cs).board
invariants_kept z some_page st sound cs = sound_invariants z (steps z st cs).board (steps_sound z some_page st sound cs)

-- and every board that calls reach from the start board
pub invariants_always : (z : Sizes) → 2 ≤ z.spaces → 1 ≤ z.pages → 1 ≤ z.places → (memory : List ℕ) (cs : List Call)
    → Invariants z (steps z (start_state z memory) cs).board
invariants_always z two some_page one memory cs =
    sound_invariants z (steps z (start_state z memory) cs).board (reached_sound z two some_page one memory cs)
