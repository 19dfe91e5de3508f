-- The frame at the end of a line: the line has a page that holds it, and no other frame.
use mathlib.Core.Path.{◌≡◌, refl, sym, ap, ◌∙◌}
use mathlib.Core.Bool.{Bool, false}
use mathlib.Core.List.{List, [], ◌∷◌}
use mathlib.Core.Option.{none, some}
use mathlib.Core.Logic.{◌⊎◌, inl, inr}
use Prim.Native.Nat.{ℕ, ◌≤◌, ◌<◌}
use native.Mathlib.Nat.{le_of_eq}
use native.Mathlib.Decide.{dec_lt}
use native.Mathlib.Omega.{arith}
use lib.Dec.{T, eqb, eqb→eq, eqb_refl}
use lib.ListN.{length}
use Rattle.lend.specs.declared.Link.{Link}
use Rattle.lend.specs.declared.Link.TheVariants.{Nothing, Frame, Page}
use Rattle.lend.specs.declared.Slot.{Slot}
use Rattle.lend.specs.Sizes.{Sizes, key}
use Rattle.lend.specs.Lists.{member}
use Rattle.lend.specs.Slots.{Table, linked, held}
use Rattle.lend.specs.Line.{parent, Line, ends, climbs, is_on_line, frame, frame_of}
use Rattle.lend.specs.Sound.{SoundPages}
use Rattle.lend_basics.proofs.Bools.{or_l, or_r, or_cases}
use Rattle.lend_sound.proofs.Lines.{parent_link, frame_fuel, spaces_some, the_line, frame_step, parent_held}

module _ (z : Sizes) (live : List Bool) (f : Table) (len : length live ≡ z.spaces) (sound : SoundPages z live f) where
  -- a page that holds a frame has that frame
  pub frame_here : (k i : ℕ) → (f k).link ≡ Frame i → frame_of z f k ≡ i
  unfolding frame
  frame_here k i e =
      let a : Line z f k (k ∷ []) = ends {k = k} (rw e) in
      frame_fuel a z.spaces 1 (spaces_some z live f len sound) (le_of_eq refl) ∙ rw e

  -- a page has the frame of its parent
  pub frame_up : (k q : ℕ) → parent z f k ≡ some q → frame_of z f k ≡ frame_of z f q
  frame_up k q e =
      let r = parent_link z f k q e in
      frame_step z live f len sound k r.0 r.1 r.2 ∙ ap (frame_of z f) r.3

  -- on the line of a held page there is one that holds its frame
  pub line_frame : {k : ℕ} {l : List ℕ} → Line z f k l → T (held (f k)) → (q : ℕ) × T (member q l) × ((f q).link ≡ Frame (frame_of z f k))
  line_frame {k} (ends e) h = go (f k).link refl h
    where
      go : (x : Link) → (f k).link ≡ x → T (linked x) → (q : ℕ) × T (member q (k ∷ [])) × ((f q).link ≡ Frame (frame_of z f k))
      go Nothing d t = absurd t
      go (Frame i) d t = (k, or_l (eqb k k) false (eqb_refl k), d ∙ ap Frame (sym (frame_here k i d)))
      go (Page s p) d t = let n : some (key z s p) ≡ none = rw d at e in let x : ◌≡◌ {A = ℕ} 0 1 = cc in absurd (omega arith)
  line_frame {k} (climbs {q = j} {l = l} e a) h =
      let r = line_frame a (parent_held z live f len sound k j e) in
      (r.0, or_r (eqb k r.0) (member r.0 l) r.1, r.2 ∙ ap Frame (sym (frame_up k j e)))

  -- and a frame that a page on the line holds is that one
  pub frame_on_line : {k : ℕ} {l : List ℕ} → Line z f k l → (q i : ℕ) → T (member q l) → (f q).link ≡ Frame i → frame_of z f k ≡ i
  frame_on_line {k} (ends e) q i m d = go (or_cases (eqb k q) false m)
    where
      go : T (eqb k q) ⊎ ⊥ → frame_of z f k ≡ i
      go (inl t) = frame_here k i (rw (eqb→eq k q t) d)
      go (inr t) = absurd t
  frame_on_line {k} (climbs {q = j} {l = l} e a) q i m d = go (λ t. frame_on_line a q i t d) (or_cases (eqb k q) (member q l) m)
    where
      go : (T (member q l) → frame_of z f j ≡ i) → T (eqb k q) ⊎ T (member q l) → frame_of z f k ≡ i
      go rest (inl t) = frame_here k i (rw (eqb→eq k q t) d)
      go rest (inr t) = frame_up k j e ∙ rest t

  -- the frame of a held page is held by a page on its line
  pub frame_held : (k : ℕ) → T (held (f k)) → (q : ℕ) × T (is_on_line z f k q) × ((f q).link ≡ Frame (frame_of z f k))
  frame_held k h = line_frame (the_line z live f len sound k) h

  -- which is one of the frames
  pub frame_in_law : (k : ℕ) → T (held (f k)) → frame_of z f k < z.pages
  frame_in_law k h = let r = frame_held k h in go r.0 r.2 (dec_lt r.0 z.pages)
    where
      go : (q : ℕ) → (f q).link ≡ Frame (frame_of z f k) → Dec (q < z.pages) → frame_of z f k < z.pages
      go q e (yes l) =
          let n : Frame q ≡ Frame (frame_of z f k) = sym (ap (λ (s : Slot). s.link) (sound.pool q l)) ∙ e in
          let same : q ≡ frame_of z f k = cc in
          omega arith
      go q e (no l) = absurd (sound.no_frame q (frame_of z f k) (omega arith) e)

  -- the frame of an empty page is 0
  frame_none : (k : ℕ) → (f k).link ≡ Nothing → frame_of z f k ≡ 0
  unfolding frame
  frame_none k e =
      let a : Line z f k (k ∷ []) = ends {k = k} (rw e) in
      frame_fuel a z.spaces 1 (spaces_some z live f len sound) (le_of_eq refl) ∙ rw e

  -- so where there is a frame, that of every page is one of them
  pub frame_there : 1 ≤ z.pages → (k : ℕ) → frame_of z f k < z.pages
  frame_there some_page k = go (f k).link refl
    where
      go : (x : Link) → (f k).link ≡ x → frame_of z f k < z.pages
      go Nothing e = rw (frame_none k e) some_page
      go (Frame i) e = frame_in_law k (rw e tt)
      go (Page s p) e = frame_in_law k (rw e tt)

  line_one_frame : {k : ℕ} {l : List ℕ} → Line z f k l → (q : ℕ) → T (member q l) → frame_of z f k ≡ frame_of z f q
  line_one_frame {k} (ends e) q m = go (or_cases (eqb k q) false m)
    where
      go : T (eqb k q) ⊎ ⊥ → frame_of z f k ≡ frame_of z f q
      go (inl t) = ap (frame_of z f) (eqb→eq k q t)
      go (inr t) = absurd t
  line_one_frame {k} (climbs {q = j} {l = l} e a) q m = go (λ t. line_one_frame a q t) (or_cases (eqb k q) (member q l) m)
    where
      go : (T (member q l) → frame_of z f j ≡ frame_of z f q) → T (eqb k q) ⊎ T (member q l) → frame_of z f k ≡ frame_of z f q
      go rest (inl t) = ap (frame_of z f) (eqb→eq k q t)
      go rest (inr t) = frame_up k j e ∙ rest t

  -- all pages on a line have the frame of its page
  pub same_frame : (k q : ℕ) → T (is_on_line z f k q) → frame_of z f k ≡ frame_of z f q
  same_frame k q m = line_one_frame (the_line z live f len sound k) q m
