-- On a table whose slots fit, to ask of every line that it reaches space 0 and has no other page in its own page's space is to
-- ask that it reaches space 0 and meets no space twice: the lines of the parents are asked too.
use mathlib.Core.Path.{◌≡◌, refl, sym, subst, ap, ◌∙◌}
use mathlib.Core.Bool.{Bool, true, false, not, ◌&&◌, ◌||◌}
use mathlib.Core.List.{List, [], ◌∷◌, map}
use mathlib.Core.Logic.{◌⊎◌, inl, inr}
use Prim.Native.Nat.{ℕ, zero, suc, ◌-◌, ◌≤◌, ◌<◌}
use native.Mathlib.Nat.{not-suc-le-zero, le_of_suc-le-suc}
use native.Mathlib.Omega.{arith}
use lib.Dec.{T, eqb, T_not, not_T}
use Rattle.lend.specs.declared.Link.{Link}
use Rattle.lend.specs.declared.Link.TheVariants.{Nothing, Frame, Page}
use Rattle.lend.specs.declared.Slot.{Slot}
use Rattle.lend.specs.Sizes.{Sizes, slot_count, key, space_of, in_pool}
use Rattle.lend.specs.Lists.{any, member, distinct, every}
use Rattle.lend.specs.Slots.{Table, slot_at, held}
use Rattle.lend.specs.Line.{line, line_of, parent, onward}
use Rattle.lend.specs.SoundTest.{line_test}
use Rattle.lend_basics.proofs.Bools.{and_l, and_r, and_i, or_l, or_r, or_cases, same_test, not_is_false}
use Rattle.lend_basics.proofs.Lists.{any_map, each, every_of}
use Rattle.lend_code.specs.Inner.{Fitting, quick_line}
use Rattle.lend_code.proofs.Fits.{key_in}
use Rattle.lend_code.proofs.Ends.{fit_page, fit_frame}

-- what is on a line is on it when it is followed further
any_further : (z : Sizes) (f : Table) (t : ℕ → Bool) (m n k : ℕ) → m ≤ n → T (any t (line z f m k)) → T (any t (line z f n k))
unfolding line
any_further z f t zero n k h a = absurd a
any_further z f t (suc m) zero k h a = absurd (not-suc-le-zero h)
any_further z f t (suc m) (suc n) k h a = go (any_further z f t m n) (f k).link refl (or_cases (t k) (any t (onward (parent z f k) (λ q. line z f m q))) a)
  where
    go : ((q : ℕ) → m ≤ n → T (any t (line z f m q)) → T (any t (line z f n q))) → (l : Link) → (f k).link ≡ l
        → T (t k) ⊎ T (any t (onward (parent z f k) (λ q. line z f m q))) → T (t k || any t (onward (parent z f k) (λ q. line z f n q)))
    go ih l e (inl x) = or_l (t k) (any t (onward (parent z f k) (λ q. line z f n q))) x
    go ih Nothing e (inr x) = absurd (rw e at x)
    go ih (Frame i) e (inr x) = absurd (rw e at x)
    go ih (Page s p) e (inr x) = or_r (t k) (any t (onward (parent z f k) (λ q. line z f n q))) (rw e (ih (key z s p) (le_of_suc-le-suc h) (rw e at x)))

module _ (z : Sizes) (b : List Slot) (fit : Fitting z b) (one : 1 ≤ z.spaces) where
  -- the line of a lent page, by its own page and the rest
  line_lent : (n k s p : ℕ) → (slot_at b k).link ≡ Page s p → line z (slot_at b) (suc n) k ≡ k ∷ line z (slot_at b) n (key z s p)
  unfolding line
  line_lent n k s p e = rw e

  full : suc (z.spaces - 1) ≡ z.spaces
  full = omega arith

  whole_lent : (k s p : ℕ) → (slot_at b k).link ≡ Page s p → line_of z (slot_at b) k ≡ k ∷ line z (slot_at b) (z.spaces - 1) (key z s p)
  whole_lent k s p e = ap (λ (n : ℕ). line z (slot_at b) n k) (sym full) ∙ line_lent (z.spaces - 1) k s p e

  line_frame : (n k i : ℕ) → (slot_at b k).link ≡ Frame i → line z (slot_at b) (suc n) k ≡ k ∷ []
  unfolding line
  line_frame n k i e = rw e

  -- ── from the quick test ──────────────────────────────────────────────────
  module _ (quick : (k : ℕ) → k < slot_count z → T (quick_line z (slot_at b) k)) where
    alone_up : (k s p : ℕ) → k < slot_count z → (slot_at b k).link ≡ Page s p → T (not (any (λ q. eqb (space_of z q) (space_of z k)) (line z (slot_at b) (z.spaces - 1) (key z s p))))
    unfolding quick_line
    alone_up k s p h e = and_r (any (in_pool z) (line z (slot_at b) (z.spaces - 1) (key z s p))) _ (rw e at (quick k h))

    reaches_up : (k s p : ℕ) → k < slot_count z → (slot_at b k).link ≡ Page s p → T (any (in_pool z) (line z (slot_at b) (z.spaces - 1) (key z s p)))
    unfolding quick_line
    reaches_up k s p h e = and_l (any (in_pool z) (line z (slot_at b) (z.spaces - 1) (key z s p))) _ (rw e at (quick k h))

    distinct_line : (n k : ℕ) → n ≤ z.spaces → k < slot_count z → T (distinct (map (space_of z) (line z (slot_at b) n k)))
    unfolding line
    distinct_line zero k l h = tt
    distinct_line (suc n) k l h = go (distinct_line n) (slot_at b k).link refl
      where
        go : ((q : ℕ) → n ≤ z.spaces → q < slot_count z → T (distinct (map (space_of z) (line z (slot_at b) n q)))) → (x : Link) → (slot_at b k).link ≡ x
            → T (distinct (map (space_of z) (line z (slot_at b) (suc n) k)))
        go ih Nothing e = rw e tt
        go ih (Frame i) e = rw e tt
        go ih (Page s p) e =
            let f = fit_page z b fit k s p h e in
            rw e
            (and_i (not (member (space_of z k) (map (space_of z) (line z (slot_at b) n (key z s p))))) _
            (rw (any_map (space_of z) (λ y. eqb y (space_of z k)) (line z (slot_at b) n (key z s p))) apart)
            (ih (key z s p) (omega arith) (key_in z s p f.space_in f.page_in)))
          where
            apart : T (not (any (λ q. eqb (space_of z q) (space_of z k)) (line z (slot_at b) n (key z s p))))
            apart = not_T (any (λ q. eqb (space_of z q) (space_of z k)) (line z (slot_at b) n (key z s p)))
                (λ a. T_not (any (λ q. eqb (space_of z q) (space_of z k)) (line z (slot_at b) (z.spaces - 1) (key z s p))) (alone_up k s p h e)
                (any_further z (slot_at b) (λ q. eqb (space_of z q) (space_of z k)) n (z.spaces - 1) (key z s p) (omega arith) a))

    reaches_line : (k : ℕ) → k < slot_count z → T (held (slot_at b k)) → T (any (in_pool z) (line_of z (slot_at b) k))
    reaches_line k h t = go (slot_at b k).link refl
      where
        go : (x : Link) → (slot_at b k).link ≡ x → T (any (in_pool z) (line_of z (slot_at b) k))
        go Nothing e = absurd (rw e at t)
        go (Frame i) e = subst (λ (n : ℕ). T (any (in_pool z) (line z (slot_at b) n k))) full (rw (line_frame (z.spaces - 1) k i e) (or_l (in_pool z k) false (fit_frame z b fit k i h e)))
        go (Page s p) e = rw (whole_lent k s p e) (or_r (in_pool z k) _ (reaches_up k s p h e))

    to_test : (k : ℕ) → k < slot_count z → T (not (held (slot_at b k)) || line_test z (slot_at b) k)
    to_test k h = go (held (slot_at b k)) refl
      where
        go : (t : Bool) → held (slot_at b k) ≡ t → T (not t || line_test z (slot_at b) k)
        go false e = tt
        go true e = and_i (any (in_pool z) (line_of z (slot_at b) k)) _ (reaches_line k h (rw e tt)) (distinct_line z.spaces k (omega arith) h)

  -- ── from the definition ──────────────────────────────────────────────────
  to_quick : ((k : ℕ) → k < slot_count z → T (not (held (slot_at b k)) || line_test z (slot_at b) k)) → (k : ℕ) → k < slot_count z → T (quick_line z (slot_at b) k)
  unfolding quick_line
  to_quick test k h = go (slot_at b k).link refl
    where
      go : (x : Link) → (slot_at b k).link ≡ x → T (quick_line z (slot_at b) k)
      go Nothing e = rw e tt
      go (Frame i) e = rw e tt
      go (Page s p) e =
          let held_line_law : T (line_test z (slot_at b) k) = rw e at (test k h) in
          let reaches : T (in_pool z k || any (in_pool z) rest) = rw (whole_lent k s p e) at (and_l (any (in_pool z) (line_of z (slot_at b) k)) (distinct (map (space_of z) (line_of z (slot_at b) k))) held_line_law) in
          let once : T (not (member (space_of z k) (map (space_of z) rest)) && distinct (map (space_of z) rest)) = rw (whole_lent k s p e) at (and_r (any (in_pool z) (line_of z (slot_at b) k)) (distinct (map (space_of z) (line_of z (slot_at b) k))) held_line_law) in
          let apart : T (not (any (λ y. eqb y (space_of z k)) (map (space_of z) rest))) = and_l (not (member (space_of z k) (map (space_of z) rest))) (distinct (map (space_of z) rest)) once in
          rw e (and_i (any (in_pool z) rest) (not (any (λ q. eqb (space_of z q) (space_of z k)) rest)) (rw (not_is_false (in_pool z k) (fit_page z b fit k s p h e).outside) at reaches) (rw (any_map (space_of z) (λ y. eqb y (space_of z k)) rest) at apart))
        where
          rest : List ℕ
          rest = line z (slot_at b) (z.spaces - 1) (key z s p)

  pub quick_lines : every (slot_count z) (quick_line z (slot_at b)) ≡ every (slot_count z) (λ k. not (held (slot_at b k)) || line_test z (slot_at b) k)
  quick_lines = same_test _ _
      (λ q. every_of (slot_count z) (λ k. not (held (slot_at b k)) || line_test z (slot_at b) k) (to_test (each (slot_count z) (quick_line z (slot_at b)) q)))
      (λ t. every_of (slot_count z) (quick_line z (slot_at b)) (to_quick (each (slot_count z) (λ k. not (held (slot_at b k)) || line_test z (slot_at b) k) t)))
