-- The walks over the lines of all pages as one loop, one page a turn, as the code had them before the design pass: what holds before each turn,
-- and what each kind of turn does. docs/ names both as examples; no function cites them.
use mathlib.Core.Path.{◌≡◌, refl, sym, ap, ◌∙◌, subst}
use mathlib.Core.Bool.{Bool, true, false, not, ◌||◌, ◌&&◌}
use mathlib.Core.List.{List}
use mathlib.Core.Logic.{◌⊎◌, inl, inr}
use Prim.Native.Nat.{ℕ, zero, suc, ◌+◌, ◌-◌, ◌≤◌, ◌<◌}
use native.Mathlib.Omega.{arith}
use native.Mathlib.Nat.{not-suc-le-zero}
use lib.Dec.{T, leb, leb→le, nleb→lt, eqb}
use lib.ListN.{length, set, get_or-eq_default}
use Rattle.lend.specs.declared.Link.{Link}
use Rattle.lend.specs.declared.Link.TheVariants.{Nothing, Frame, Page}
use Rattle.lend.specs.declared.Slot.{Slot}
use Rattle.lend.specs.Sizes.{Sizes, slot_count, key, space_of, in_pool}
use Rattle.lend.specs.Lists.{any, every}
use Rattle.lend.specs.Slots.{slot_at, held}
use Rattle.lend.specs.Line.{line, line_of, parent, onward, frame, frame_of}
use Rattle.lend_basics.proofs.Bools.{or_false, or_cases, not_or, is_true, true_is, not_is_false, and_false}
use Rattle.lend_basics.proofs.Loops.{Built, built_none, built_more, built_all, Tested, tested_none, tested_more, tested_not, tested_all}
use Rattle.lend_code.specs.Inner.{has, line_has, Fitting, rest_ok, quick_line}
use Rattle.lend_code.specs.Earlier.{up_of, frame_in, Ended}
use Rattle.lend_code.proofs.Fits.{key_in}
use Rattle.lend_code.proofs.Walks.{any_line, any_past}
use Rattle.lend_code.proofs.Ends.{fit_page, fit_frame}

-- ── which lines have a page of the set ───────────────────────────────────
module _ (z : Sizes) (b : List Slot) (s : List Bool) where
  -- k lines are answered; the walk along the next one has come to the page at, with so many pages left to visit
  pub record Walking (found : List Bool) (k at left : ℕ) : Type 0 where
    pub slots_long : length b ≡ slot_count z
    pub set_long : length s ≡ slot_count z
    pub built : Built false (slot_count z) (λ i. any (has s) (line_of z (slot_at b) i)) found k
    pub at_in : k < slot_count z → at < slot_count z
    pub some_left : 1 ≤ left
    pub left_in : left ≤ z.spaces
    pub same : any (has s) (line z (slot_at b) left at) ≡ any (has s) (line_of z (slot_at b) k)

  pub walking_none : (found : List Bool) → length b ≡ slot_count z → length s ≡ slot_count z → length found ≡ slot_count z → 1 ≤ z.spaces → Walking found 0 0 z.spaces
  walking_none found lb ls lf one = record {
    slots_long = lb;
    set_long = ls;
    built = built_none false (slot_count z) (λ i. any (has s) (line_of z (slot_at b) i)) found lf;
    at_in = λ h. h;
    some_left = one;
    left_in = omega arith;
    same = refl;
  }

  -- the rest of a line beyond the page at, where the walk does not go on
  rest_none : (n at : ℕ) → length b ≡ slot_count z → length s ≡ slot_count z → (slot_count z ≤ up_of z (slot_at b at).link) ⊎ (n ≡ 0)
      → any (has s) (onward (parent z (slot_at b) at) (λ q. line z (slot_at b) n q)) ≡ false
  unfolding line
  rest_none n at lb ls w = go (slot_at b at).link refl w
    where
      past : (q : ℕ) → slot_count z ≤ q → any (has s) (line z (slot_at b) n q) ≡ false
      past q h = any_past z b (has s) n q (omega arith) (get_or-eq_default s false {n = q} (omega arith))

      go : (l : Link) → (slot_at b at).link ≡ l → (slot_count z ≤ up_of z (slot_at b at).link) ⊎ (n ≡ 0)
          → any (has s) (onward (parent z (slot_at b) at) (λ q. line z (slot_at b) n q)) ≡ false
      go Nothing e w = rw e
      go (Frame i) e w = rw e
      go (Page x y) e (inl h) = rw e (past (key z x y) (rw e at h))
      go (Page x y) e (inr h) = rw (e, h)

  -- the test that a turn makes: the page at is the last to ask on the line of k
  abbrev pub stops : ℕ → ℕ → ℕ → Bool
  stops at up left = has s at || leb (slot_count z) up || leb left 1

  -- a turn that ends the line of k
  pub walking_next : (found : List Bool) (k at left up : ℕ) → Walking found k at left → k < slot_count z → up ≡ up_of z (slot_at b at).link
      → stops at up left ≡ true → Walking (set found k (has s at)) (k + 1) (k + 1) z.spaces
  walking_next found k at left up w h u why = record {
    slots_long = w.slots_long;
    set_long = w.set_long;
    built = built_more false (slot_count z) (λ i. any (has s) (line_of z (slot_at b) i)) found k (has s at) w.built h (settled left refl);
    at_in = λ l. l;
    some_left = omega (arith, w.some_left, w.left_in);
    left_in = omega arith;
    same = refl;
  }
    where
      rest : ℕ → Bool
      rest n = any (has s) (onward (parent z (slot_at b) at) (λ q. line z (slot_at b) n q))

      end : (n : ℕ) → left ≡ suc n → T (has s at || leb (slot_count z) up) ⊎ T (leb left 1) → has s at ≡ (has s at || rest n)
      end n e (inr x) = let l = leb→le left 1 x in rw (rest_none n at w.slots_long w.set_long (inr (omega arith))) (sym (or_false (has s at)))
      end n e (inl x) = go (or_cases (has s at) (leb (slot_count z) up) x)
        where
          go : T (has s at) ⊎ T (leb (slot_count z) up) → has s at ≡ (has s at || rest n)
          go (inl y) = rw (is_true (has s at) y)
          go (inr y) =
              rw (rest_none n at w.slots_long w.set_long (inl (rw u at (leb→le (slot_count z) up y)))) (sym (or_false (has s at)))

      settled : (m : ℕ) → left ≡ m → has s at ≡ any (has s) (line_of z (slot_at b) k)
      settled zero e = absurd (not-suc-le-zero (rw e at w.some_left))
      settled (suc n) e =
          end n e (or_cases (has s at || leb (slot_count z) up) (leb left 1) (true_is _ why))
          ∙ (sym (any_line z (slot_at b) (has s) n at) ∙ (ap (λ (m : ℕ). any (has s) (line z (slot_at b) m at)) (sym e) ∙ w.same))

  -- a turn that goes on to the parent
  pub walking_up : (found : List Bool) (k at left up : ℕ) → Walking found k at left → up ≡ up_of z (slot_at b at).link
      → stops at up left ≡ false → Walking found k up (left - 1)
  walking_up found k at left up w u why = record {
    slots_long = w.slots_long;
    set_long = w.set_long;
    built = w.built;
    at_in = λ h. inside;
    some_left = omega (arith, more);
    left_in = omega (arith, w.left_in);
    same = sym (climb (slot_at b at).link refl) ∙ (sym (any_line z (slot_at b) (has s) (left - 1) at) ∙ (ap (λ (m : ℕ). any (has s) (line z (slot_at b) m at)) fuel ∙ w.same));
  }
    where
      not_all : T (not (has s at || leb (slot_count z) up)) × T (not (leb left 1))
      not_all = not_or (has s at || leb (slot_count z) up) (leb left 1) (rw why tt)

      not_two : T (not (has s at)) × T (not (leb (slot_count z) up))
      not_two = not_or (has s at) (leb (slot_count z) up) not_all.0

      inside : up < slot_count z
      inside = nleb→lt (slot_count z) up not_two.1

      more : 1 < left
      more = nleb→lt left 1 not_all.1

      fuel : suc (left - 1) ≡ left
      fuel = omega (arith, more)

      climb : (x : Link) → (slot_at b at).link ≡ x → (has s at || any (has s) (onward (parent z (slot_at b) at) (λ q. line z (slot_at b) (left - 1) q))) ≡ any (has s) (line z (slot_at b) (left - 1) up)
      climb Nothing e = let v : up ≡ slot_count z = u ∙ rw e in absurd (omega (arith, inside))
      climb (Frame i) e = let v : up ≡ slot_count z = u ∙ rw e in absurd (omega (arith, inside))
      climb (Page x y) e = let v : up ≡ key z x y = u ∙ rw e in rw (not_is_false (has s at) not_two.0, e, v)

  pub walking_all : (found : List Bool) (k at left : ℕ) → Walking found k at left → slot_count z ≤ k → found ≡ line_has z b s
  unfolding line_has
  walking_all found k at left w h = built_all false (slot_count z) (λ i. any (has s) (line_of z (slot_at b) i)) found k w.built h

  -- a read by the walk is in the table
  pub walking_in : {found : List Bool} {k at left : ℕ} → Walking found k at left → k < slot_count z → at < slot_count z
  walking_in w h = w.at_in h

-- ── every line and every frame, on a table whose slots fit ───────────────
less_one : (n : ℕ) → suc n - 1 ≡ n
less_one n = omega arith

module _ (z : Sizes) (b : List Slot) where
  -- k lines are found good, with their frames; the walk along the next one has come to the page at
  pub record Ending (frames : List ℕ) (k at left : ℕ) : Type 0 where
    pub fitting : Fitting z b
    pub tested : Tested (quick_line z (slot_at b)) k
    pub built : Built 0 (slot_count z) (λ i. frame_of z (slot_at b) i) frames k
    pub at_in : k < slot_count z → at < slot_count z
    pub some_left : 1 ≤ left
    pub left_in : left ≤ z.spaces
    pub same : rest_ok z (slot_at b) k left (slot_at b at).link ≡ quick_line z (slot_at b) k
    pub same_frame : frame z (slot_at b) left at ≡ frame_of z (slot_at b) k

  pub ending_none : (frames : List ℕ) → Fitting z b → length frames ≡ slot_count z → 1 ≤ z.spaces → Ending frames 0 0 z.spaces
  unfolding quick_line
  ending_none frames fit long one = record {
    fitting = fit;
    tested = tested_none (quick_line z (slot_at b));
    built = built_none 0 (slot_count z) (λ i. frame_of z (slot_at b) i) frames long;
    at_in = λ h. h;
    some_left = one;
    left_in = omega arith;
    same = refl;
    same_frame = refl;
  }

  -- the test that a turn makes before it goes up: no page is left to visit, or the parent is in the space of k
  abbrev pub fails : ℕ → ℕ → ℕ → Bool
  fails k left up = leb left 1 || eqb (space_of z up) (space_of z k)

  module _ (frames : List ℕ) (k at left up : ℕ) (w : Ending frames k at left) (h : k < slot_count z) (u : up ≡ up_of z (slot_at b at).link) where
    -- where the walk goes up, the page at is lent by the page up
    lent_up : up < slot_count z → (s : ℕ) × (p : ℕ) × ((slot_at b at).link ≡ Page s p) × (up ≡ key z s p)
    lent_up inside = go (slot_at b at).link refl
      where
        go : (l : Link) → (slot_at b at).link ≡ l → (s : ℕ) × (p : ℕ) × ((slot_at b at).link ≡ Page s p) × (up ≡ key z s p)
        go Nothing e = let v : up ≡ slot_count z = u ∙ rw e in absurd (omega arith)
        go (Frame i) e = let v : up ≡ slot_count z = u ∙ rw e in absurd (omega arith)
        go (Page s p) e = (s, p, e, u ∙ rw e)

    -- what is left to ask there, by the line of up
    rest_is : up < slot_count z → quick_line z (slot_at b) k ≡ (any (in_pool z) (line z (slot_at b) (left - 1) up) && not (any (λ q. eqb (space_of z q) (space_of z k)) (line z (slot_at b) (left - 1) up)))
    rest_is inside =
        let l = lent_up inside in
        sym w.same ∙ (ap (rest_ok z (slot_at b) k left) l.2
        ∙ ap (λ (q : ℕ). any (in_pool z) (line z (slot_at b) (left - 1) q) && not (any (λ j. eqb (space_of z j) (space_of z k)) (line z (slot_at b) (left - 1) q))) (sym l.3))

    frame_up : up < slot_count z → 1 ≤ left → frame z (slot_at b) left at ≡ frame z (slot_at b) (left - 1) up
    unfolding frame
    frame_up inside one =
        let l = lent_up inside in
        let n : left ≡ suc (left - 1) = omega arith in
        let one_up : frame z (slot_at b) (suc (left - 1)) at ≡ frame z (slot_at b) (left - 1) (key z l.0 l.1) = rw l.2 in
        ap (λ (m : ℕ). frame z (slot_at b) m at) n ∙ (one_up ∙ ap (frame z (slot_at b) (left - 1)) (sym l.3))

    pub ending_up : up < slot_count z → fails k left up ≡ false → Ending frames k up (left - 1)
    unfolding line
    ending_up inside t = record {
      fitting = w.fitting;
      tested = w.tested;
      built = w.built;
      at_in = λ l. inside;
      some_left = omega (arith, more);
      left_in = omega (arith, w.left_in);
      same = go (slot_at b up).link refl ∙ sym (rest_is inside);
      same_frame = sym (frame_up inside w.some_left) ∙ w.same_frame;
    }
      where
        not_both : T (not (leb left 1)) × T (not (eqb (space_of z up) (space_of z k)))
        not_both = not_or (leb left 1) (eqb (space_of z up) (space_of z k)) (rw t tt)

        more : 1 < left
        more = nleb→lt left 1 not_both.0

        fuel : left - 1 ≡ suc (left - 1 - 1)
        fuel = omega (arith, more)

        other : eqb (space_of z up) (space_of z k) ≡ false
        other = not_is_false (eqb (space_of z up) (space_of z k)) not_both.1

        Rest : ℕ → Bool
        Rest n = any (in_pool z) (line z (slot_at b) n up) && not (any (λ q. eqb (space_of z q) (space_of z k)) (line z (slot_at b) n up))

        parent_held : T (held (slot_at b up))
        parent_held = let l = lent_up inside in rw l.3 (fit_page z b w.fitting at l.0 l.1 (w.at_in h) l.2).parent_held

        at_suc : (n : ℕ) (l : Link) → (slot_at b up).link ≡ l → rest_ok z (slot_at b) k (suc n) l ≡ Rest (suc n)
        at_suc n Nothing e = absurd (rw e at parent_held)
        at_suc n (Frame i) e = rw (e, other, is_true (in_pool z up) (fit_frame z b w.fitting up i inside e))
        at_suc n (Page s p) e = rw (less_one n, e, other, not_is_false (in_pool z up) (fit_page z b w.fitting up s p inside e).outside)

        go : (l : Link) → (slot_at b up).link ≡ l → rest_ok z (slot_at b) k (left - 1) (slot_at b up).link ≡ Rest (left - 1)
        go l e = rw e (subst (λ (m : ℕ). rest_ok z (slot_at b) k m l ≡ Rest m) (sym fuel) (at_suc (left - 1 - 1) l e))

    pub ending_fails : up < slot_count z → fails k left up ≡ true → false ≡ every (slot_count z) (quick_line z (slot_at b))
    unfolding line
    ending_fails inside t = sym (tested_not (quick_line z (slot_at b)) (slot_count z) k h (rest_is inside ∙ go (left - 1) refl (or_cases (leb left 1) (eqb (space_of z up) (space_of z k)) (true_is _ t))))
      where
        Rest : ℕ → Bool
        Rest n = any (in_pool z) (line z (slot_at b) n up) && not (any (λ q. eqb (space_of z q) (space_of z k)) (line z (slot_at b) n up))

        go : (n : ℕ) → left - 1 ≡ n → T (leb left 1) ⊎ T (eqb (space_of z up) (space_of z k)) → Rest (left - 1) ≡ false
        go zero e x = rw e
        go (suc n) e (inl x) = let l = leb→le left 1 x in absurd (omega arith)
        go (suc n) e (inr x) = rw (e, is_true (eqb (space_of z up) (space_of z k)) x) (and_false (any (in_pool z) (line z (slot_at b) (suc n) up)))

    -- a turn that ends the line of k, at a frame or at the empty page k itself
    pub ending_next : slot_count z ≤ up → Ending (set frames k (frame_in (slot_at b at).link)) (k + 1) (k + 1) z.spaces
    unfolding quick_line frame
    ending_next past = record {
      fitting = w.fitting;
      tested = tested_more (quick_line z (slot_at b)) k w.tested (sym w.same ∙ ends.0);
      built = built_more 0 (slot_count z) (λ i. frame_of z (slot_at b) i) frames k (frame_in (slot_at b at).link) w.built h (sym ends.1 ∙ w.same_frame);
      at_in = λ l. l;
      some_left = omega (arith, w.some_left, w.left_in);
      left_in = omega arith;
      same = refl;
      same_frame = refl;
    }
      where
        at_suc : (n : ℕ) (l : Link) → (slot_at b at).link ≡ l → slot_count z ≤ up_of z l → (rest_ok z (slot_at b) k (suc n) l ≡ true) × (frame z (slot_at b) (suc n) at ≡ frame_in l)
        at_suc n Nothing e v = (refl, rw e)
        at_suc n (Frame i) e v = (refl, rw e)
        at_suc n (Page s p) e v =
            let l = fit_page z b w.fitting at s p (w.at_in h) e in
            let i = key_in z s p l.space_in l.page_in in
            absurd (omega arith)

        fuel : left ≡ suc (left - 1)
        fuel = omega (arith, w.some_left)

        ends : (rest_ok z (slot_at b) k left (slot_at b at).link ≡ true) × (frame z (slot_at b) left at ≡ frame_in (slot_at b at).link)
        ends =
            subst (λ (m : ℕ). (rest_ok z (slot_at b) k m (slot_at b at).link ≡ true) × (frame z (slot_at b) m at ≡ frame_in (slot_at b at).link)) (sym fuel)
            (at_suc (left - 1) (slot_at b at).link refl (rw u at past))

  pub ending_all : (frames : List ℕ) (k at left : ℕ) → Ending frames k at left → slot_count z ≤ k → Ended z b true frames
  ending_all frames k at left w h = record {
    all_rooted = sym (tested_all (quick_line z (slot_at b)) (slot_count z) k w.tested h);
    all_frames = λ e. built_all 0 (slot_count z) (λ i. frame_of z (slot_at b) i) frames k w.built h;
  }

  pub ended_not : (frames : List ℕ) → false ≡ every (slot_count z) (quick_line z (slot_at b)) → Ended z b false frames
  ended_not frames e = record { all_rooted = e; all_frames = λ x. let y : ◌≡◌ {A = ℕ} 0 1 = cc in absurd (omega arith) }
