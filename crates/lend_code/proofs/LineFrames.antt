-- The walk along the line of one page that tests it and finds its frame, one page a turn, on a table whose slots fit; and the walks
-- along all lines, one after the other. After so many turns a walk has come to the page at.
use mathlib.Core.Path.{◌≡◌, refl, sym, subst, ap, ◌∙◌}
use mathlib.Core.Bool.{Bool, true, false, not, ◌&&◌, cond}
use mathlib.Core.List.{List}
use Prim.Native.Nat.{ℕ, zero, suc, ◌+◌, ◌-◌, ◌≤◌, ◌<◌}
use native.Mathlib.Omega.{arith}
use lib.Dec.{T, eqb}
use lib.ListN.{length, set}
use borrow.Author.Tests.{eq-eqb, ne_eqb}
use Rattle.std.specs.declared.option.Option.{Option}
use Rattle.std.specs.declared.option.Option.TheVariants.{Some, None}
use Rattle.lend.specs.declared.Link.{Link}
use Rattle.lend.specs.declared.Link.TheVariants.{Nothing, Frame, Page}
use Rattle.lend.specs.declared.Slot.{Slot}
use Rattle.lend.specs.Sizes.{Sizes, slot_count, key, space_of, in_pool}
use Rattle.lend.specs.Lists.{any, every, tabulate}
use Rattle.lend.specs.Slots.{Table, slot_at, held}
use Rattle.lend.specs.Line.{line, frame, frame_of}
use Rattle.lend_basics.proofs.Bools.{is_true, not_is_false, and_false}
use Rattle.lend_basics.proofs.Loops.{Built, built_none, built_more, built_all, Tested, tested_none, tested_more, tested_not, tested_all}
use Rattle.lend_code.specs.Inner.{Fitting, rest_ok, quick_line}
use Rattle.lend_code.proofs.Fits.{key_in}
use Rattle.lend_code.proofs.Ends.{fit_page, fit_frame}
use Rattle.lend_code.proofs.LineWalks.{turn_visits, all_left, none_left}

-- ── the frame of a rooted line ───────────────────────────────────────────
-- what a walk finds at a page, by its link
abbrev found_at : Link → (ℕ → ℕ → Option ℕ) → Option ℕ
found_at Nothing go = Some 0
found_at (Frame i) go = Some i
found_at (Page s p) go = go s p

-- the walk along the line of k as a computation: what it finds from a page on, with n pages left to visit
unfoldable pub rooted : Sizes → Table → ℕ → ℕ → ℕ → Option ℕ
rooted z f k zero at = None
rooted z f k (suc n) at = found_at (f at).link (λ s p. cond (eqb (space_of z (key z s p)) (space_of z k)) None (rooted z f k n (key z s p)))

module _ (z : Sizes) (b : List Slot) (k : ℕ) where
  -- the line from a page on, followed for n pages at most, comes to space 0 and has no page in the space of k
  abbrev clear : ℕ → ℕ → Bool
  clear n q = any (in_pool z) (line z (slot_at b) n q) && not (any (λ j. eqb (space_of z j) (space_of z k)) (line z (slot_at b) n q))

  -- what the walk is to find there
  abbrev clear_frame : ℕ → ℕ → Option ℕ
  clear_frame n q = cond (clear n q) (Some (frame z (slot_at b) n q)) None

  -- what it is to find in all
  abbrev pub quick_frame : Option ℕ
  quick_frame = cond (quick_line z (slot_at b) k) (Some (frame_of z (slot_at b) k)) None

  -- a line that starts in the space of k is not clear
  not_clear : (n q : ℕ) → eqb (space_of z q) (space_of z k) ≡ true → clear n q ≡ false
  unfolding line
  not_clear zero q e = refl
  not_clear (suc n) q e = rw e (and_false _)

  -- the step to the page q, by what the walk finds from there
  stepped : (n q : ℕ) → (eqb (space_of z q) (space_of z k) ≡ false → rooted z (slot_at b) k n q ≡ clear_frame n q)
      → cond (eqb (space_of z q) (space_of z k)) None (rooted z (slot_at b) k n q) ≡ clear_frame n q
  stepped n q from = go (eqb (space_of z q) (space_of z k)) refl
    where
      go : (t : Bool) → eqb (space_of z q) (space_of z k) ≡ t → cond t None (rooted z (slot_at b) k n q) ≡ clear_frame n q
      go true e = rw (not_clear n q e)
      go false e = from e

  module _ (fit : Fitting z b) where
    -- from a held page of another space on, the walk finds what it is to find
    rooted_from : (n q : ℕ) → q < slot_count z → T (held (slot_at b q)) → eqb (space_of z q) (space_of z k) ≡ false → rooted z (slot_at b) k n q ≡ clear_frame n q
    unfolding line frame rooted
    rooted_from zero q h t other = refl
    rooted_from (suc n) q h t other = go (slot_at b q).link refl (rooted_from n)
      where
        go : (l : Link) → (slot_at b q).link ≡ l
            → ((r : ℕ) → r < slot_count z → T (held (slot_at b r)) → eqb (space_of z r) (space_of z k) ≡ false → rooted z (slot_at b) k n r ≡ clear_frame n r)
            → rooted z (slot_at b) k (suc n) q ≡ clear_frame (suc n) q
        go Nothing e from = absurd (rw e at t)
        go (Frame i) e from = rw (e, other, is_true (in_pool z q) (fit_frame z b fit q i h e))
        go (Page s p) e from =
            let l = fit_page z b fit q s p h e in
            rw (e, other, not_is_false (in_pool z q) l.outside)
            (stepped n (key z s p) (from (key z s p) (key_in z s p l.space_in l.page_in) l.parent_held))

    -- and so it does from k on
    rooted_start : (n : ℕ) → k < slot_count z → rooted z (slot_at b) k (suc n) k ≡ cond (rest_ok z (slot_at b) k (suc n) (slot_at b k).link) (Some (frame z (slot_at b) (suc n) k)) None
    unfolding frame rooted
    rooted_start n h = go (slot_at b k).link refl
      where
        less_one : suc n - 1 ≡ n
        less_one = omega arith

        go : (l : Link) → (slot_at b k).link ≡ l → rooted z (slot_at b) k (suc n) k ≡ cond (rest_ok z (slot_at b) k (suc n) (slot_at b k).link) (Some (frame z (slot_at b) (suc n) k)) None
        go Nothing e = rw e
        go (Frame i) e = rw e
        go (Page s p) e =
            let l = fit_page z b fit k s p h e in
            rw (e, less_one) (stepped n (key z s p) (rooted_from n (key z s p) (key_in z s p l.space_in l.page_in) l.parent_held))

    rooted_all : k < slot_count z → 1 ≤ z.spaces → rooted z (slot_at b) k z.spaces k ≡ quick_frame
    unfolding quick_line
    rooted_all h one =
        let full : suc (z.spaces - 1) ≡ z.spaces = omega arith in
        subst (λ (n : ℕ). rooted z (slot_at b) k n k ≡ cond (rest_ok z (slot_at b) k n (slot_at b k).link) (Some (frame z (slot_at b) n k)) None) full (rooted_start (z.spaces - 1) h)

  -- what is left to find, from the page at on, is what the walk is to find
  pub record Rooting (n at turn : ℕ) : Type 0 where
    pub fitting : Fitting z b
    pub long : n ≡ slot_count z
    pub at_in : at < n
    pub same : rooted z (slot_at b) k (z.spaces - turn) at ≡ quick_frame

  pub rooting_none : {n : ℕ} → Fitting z b → n ≡ slot_count z → 1 ≤ z.spaces → k < n → Rooting n k 0
  rooting_none fit e one h = record {
    fitting = fit;
    long = e;
    at_in = h;
    same = ap (λ (m : ℕ). rooted z (slot_at b) k m k) (all_left z.spaces) ∙ rooted_all fit (omega arith) one;
  }

  module _ {n at turn : ℕ} (w : Rooting n at turn) where
    -- no page is left to visit
    pub rooting_over : z.spaces ≤ turn → None ≡ quick_frame
    unfolding rooted
    rooting_over h = ap (λ (m : ℕ). rooted z (slot_at b) k m at) (sym (none_left z.spaces turn h)) ∙ w.same

    module _ (h : turn < z.spaces) where
      next : rooted z (slot_at b) k (suc (z.spaces - (turn + 1))) at ≡ quick_frame
      next = ap (λ (m : ℕ). rooted z (slot_at b) k m at) (sym (turn_visits z.spaces turn h)) ∙ w.same

      -- the page at is empty, or has a frame
      pub rooting_empty : (slot_at b at).link ≡ Nothing → Some 0 ≡ quick_frame
      unfolding rooted
      rooting_empty e = rw e at next

      pub rooting_frame : {i : ℕ} → (slot_at b at).link ≡ Frame i → Some i ≡ quick_frame
      unfolding rooted
      rooting_frame e = rw e at next

      module _ {x y up : ℕ} (e : (slot_at b at).link ≡ Page x y) (u : up ≡ key z x y) where
        -- it has a parent in the space of k
        pub rooting_back : space_of z up ≡ space_of z k → None ≡ quick_frame
        unfolding rooted
        rooting_back s = rw (e, eq-eqb (space_of z (key z x y)) (space_of z k) (ap (space_of z) (sym u) ∙ s)) at next

        -- its parent is in another, and the walk goes on there
        pub rooting_up : (space_of z up ≡ space_of z k → ⊥) → Rooting n up (turn + 1)
        unfolding rooted
        rooting_up s = record {
          fitting = w.fitting;
          long = w.long;
          at_in = let l = fit_page z b w.fitting at x y (omega (arith, w.long, w.at_in)) e in let i = key_in z x y l.space_in l.page_in in omega (arith, w.long);
          same = rw u (rw (e, ne_eqb (space_of z (key z x y)) (space_of z k) (λ o. s (ap (space_of z) u ∙ o))) at next);
        }

-- ── the frames of all lines ──────────────────────────────────────────────
module _ (z : Sizes) (b : List Slot) where
  -- the lines before k are good, and their frames are found
  pub record Framing (n : ℕ) (frames : List ℕ) (k : ℕ) : Type 0 where
    pub long : n ≡ slot_count z
    pub tested : Tested (quick_line z (slot_at b)) k
    pub built : Built 0 n (λ i. frame_of z (slot_at b) i) frames k

  -- what the walks along all lines are to find
  abbrev quick_frames : Option (List ℕ)
  quick_frames = cond (every (slot_count z) (quick_line z (slot_at b))) (Some (tabulate (slot_count z) (λ i. frame_of z (slot_at b) i))) None

  pub framing_none : {n : ℕ} (frames : List ℕ) → n ≡ slot_count z → length frames ≡ n → Framing n frames 0
  framing_none {n} frames e long = record {
    long = e;
    tested = tested_none (quick_line z (slot_at b));
    built = built_none 0 n (λ i. frame_of z (slot_at b) i) frames long;
  }

  module _ {n : ℕ} {frames : List ℕ} {k : ℕ} (w : Framing n frames k) where
    -- what a walk found says of its line
    quick_some : {i : ℕ} → Some i ≡ quick_frame z b k → (quick_line z (slot_at b) k ≡ true) × (i ≡ frame_of z (slot_at b) k)
    quick_some {i} e = go (quick_line z (slot_at b) k) e
      where
        go : (t : Bool) → Some i ≡ cond t (Some (frame_of z (slot_at b) k)) None → (t ≡ true) × (i ≡ frame_of z (slot_at b) k)
        go true e = (refl, cc)
        go false e = cc

    -- one line is not good
    pub framing_lost : k < n → None ≡ quick_frame z b k → None ≡ quick_frames
    framing_lost h e = rw (tested_not (quick_line z (slot_at b)) (slot_count z) k (omega (arith, w.long)) (go (quick_line z (slot_at b) k) e))
      where
        go : (t : Bool) → None ≡ cond t (Some (frame_of z (slot_at b) k)) None → t ≡ false
        go true e = cc
        go false e = refl

    -- the next is
    pub framing_more : {i : ℕ} → k < n → Some i ≡ quick_frame z b k → Framing n (set frames k i) (k + 1)
    framing_more {i} h e =
        let q = quick_some e in
        record {
          long = w.long;
          tested = tested_more (quick_line z (slot_at b)) k w.tested q.0;
          built = built_more 0 n (λ j. frame_of z (slot_at b) j) frames k i w.built h q.1;
        }

    -- all are
    pub framing_all : n ≤ k → Some frames ≡ quick_frames
    framing_all h = rw (tested_all (quick_line z (slot_at b)) (slot_count z) k w.tested (omega (arith, w.long)), ← w.long, built_all 0 n (λ i. frame_of z (slot_at b) i) frames k w.built h)
