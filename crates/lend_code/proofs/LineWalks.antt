-- The walks along one line, one page a turn: what holds before each turn, and what each kind of turn does. After so many turns a walk
-- has come to the page at, and may visit as many pages more as there are spaces left.
use mathlib.Core.Path.{◌≡◌, refl, sym, ap, ◌∙◌}
use mathlib.Core.Bool.{Bool, true, false, ◌||◌}
use mathlib.Core.List.{List}
use Prim.Native.Nat.{ℕ, zero, suc, ◌+◌, ◌-◌, ◌≤◌, ◌<◌}
use native.Mathlib.Nat.{add-zero}
use native.Mathlib.Omega.{arith}
use lib.ListN.{length, get_or-eq_default}
use Rattle.lend.specs.declared.Link.{Link}
use Rattle.lend.specs.declared.Link.TheVariants.{Nothing, Frame, Page}
use Rattle.lend.specs.declared.Slot.{Slot}
use Rattle.lend.specs.Sizes.{Sizes, key}
use Rattle.lend.specs.Lists.{any}
use Rattle.lend.specs.Slots.{empty_slot, slot_at}
use Rattle.lend.specs.Line.{line, line_of, parent_of, parent, onward, frame, frame_of, links, links_of}
use Rattle.lend_code.specs.Inner.{has}
use Rattle.lend_code.proofs.Walks.{any_line, any_past}

-- a turn visits one of the pages that are left
pub turn_visits : (spaces turn : ℕ) → turn < spaces → spaces - turn ≡ suc (spaces - (turn + 1))
turn_visits spaces turn h = omega arith

-- before the first all are left
pub all_left : (spaces : ℕ) → spaces - 0 ≡ spaces
all_left spaces = omega arith

-- and after as many turns as there are spaces none is left
pub none_left : (spaces turn : ℕ) → spaces ≤ turn → spaces - turn ≡ 0
none_left spaces turn h = omega arith

one_over : (over m : ℕ) → over + 1 + m ≡ over + suc m
one_over over m = omega arith

-- a link that leads to no page has no line above it
no_parent : (z : Sizes) (t : ℕ → Bool) (l : Link) (go : ℕ → List ℕ) → ((s p : ℕ) → l ≡ Page s p → ⊥) → any t (onward (parent_of z l) go) ≡ false
no_parent z t Nothing go other = refl
no_parent z t (Frame i) go other = refl
no_parent z t (Page s p) go other = absurd (other s p refl)

-- ── whether a line meets a set ───────────────────────────────────────────
module _ (z : Sizes) (b : List Slot) (s : List Bool) (k : ℕ) where
  -- what is left of the line of k, from the page at on, has the answer for all of it
  pub record Meeting (n at turn : ℕ) : Type 0 where
    pub slots_long : length b ≡ n
    pub set_long : length s ≡ n
    pub same : any (has s) (line z (slot_at b) (z.spaces - turn) at) ≡ any (has s) (line_of z (slot_at b) k)

  module _ {n at turn : ℕ} (w : Meeting n at turn) where
    -- the walk has come past the table
    pub meeting_past : n ≤ at → false ≡ any (has s) (line_of z (slot_at b) k)
    meeting_past h =
        sym (any_past z b (has s) (z.spaces - turn) at (omega (arith, w.slots_long)) (get_or-eq_default s false {n = at} (omega (arith, w.set_long))))
        ∙ w.same

    -- no page is left to visit
    pub meeting_over : z.spaces ≤ turn → false ≡ any (has s) (line_of z (slot_at b) k)
    unfolding line
    meeting_over h = ap (λ (m : ℕ). any (has s) (line z (slot_at b) m at)) (sym (none_left z.spaces turn h)) ∙ w.same

    module _ (h : turn < z.spaces) where
      step : (has s at || any (has s) (onward (parent z (slot_at b) at) (λ q. line z (slot_at b) (z.spaces - (turn + 1)) q))) ≡ any (has s) (line_of z (slot_at b) k)
      step =
          sym (ap (λ (m : ℕ). any (has s) (line z (slot_at b) m at)) (turn_visits z.spaces turn h) ∙ any_line z (slot_at b) (has s) (z.spaces - (turn + 1)) at)
          ∙ w.same

      -- the page at is in the set
      pub meeting_hit : has s at ≡ true → true ≡ any (has s) (line_of z (slot_at b) k)
      meeting_hit e = rw e at step

      -- it is not, and the line ends there, or goes on to its parent
      pub meeting_end : has s at ≡ false → ((x y : ℕ) → (slot_at b at).link ≡ Page x y → ⊥) → false ≡ any (has s) (line_of z (slot_at b) k)
      meeting_end e other = sym (no_parent z (has s) (slot_at b at).link (λ q. line z (slot_at b) (z.spaces - (turn + 1)) q) other) ∙ rw e at step

      pub meeting_up : {x y up : ℕ} → has s at ≡ false → (slot_at b at).link ≡ Page x y → up ≡ key z x y → Meeting n up (turn + 1)
      meeting_up e l u = record { slots_long = w.slots_long; set_long = w.set_long; same = rw u (rw (e, l) at step) }

  -- a page whose link leads to no page is alone on its line
  pub alone_met : 1 ≤ z.spaces → ((x y : ℕ) → (slot_at b k).link ≡ Page x y → ⊥) → has s k ≡ any (has s) (line_of z (slot_at b) k)
  alone_met one other =
      go (has s k) (any (has s) above) (no_parent z (has s) (slot_at b k).link (λ q. line z (slot_at b) (z.spaces - 1) q) other)
      ∙ sym (ap (λ (m : ℕ). any (has s) (line z (slot_at b) m k)) first ∙ any_line z (slot_at b) (has s) (z.spaces - 1) k)
    where
      first : z.spaces ≡ suc (z.spaces - 1)
      first = omega (arith, one)

      above : List ℕ
      above = onward (parent z (slot_at b) k) (λ q. line z (slot_at b) (z.spaces - 1) q)

      go : (x y : Bool) → y ≡ false → x ≡ (x || y)
      go true y e = refl
      go false y e = sym e

-- ── the frame at the end of a line ───────────────────────────────────────
module _ (z : Sizes) (b : List Slot) (k : ℕ) where
  -- what is left has the frame of k, and the links that k has more than the walk has gone over
  pub record Looking (n at over turn : ℕ) : Type 0 where
    pub slots_long : length b ≡ n
    pub gone : over ≡ turn
    pub same : frame z (slot_at b) (z.spaces - turn) at ≡ frame_of z (slot_at b) k
    pub more : over + links z (slot_at b) (z.spaces - turn) at ≡ links_of z (slot_at b) k

  -- what the walk comes to: the frame of k and its links
  abbrev pub Found : ℕ → ℕ → Type 0
  Found fr over = (fr ≡ frame_of z (slot_at b) k) × (over ≡ links_of z (slot_at b) k)

  -- a page past the table has no frame, and no link
  past_none : (n q : ℕ) → length b ≤ q → (frame z (slot_at b) n q ≡ 0) × (links z (slot_at b) n q ≡ 0)
  unfolding frame links
  past_none zero q h = (refl, refl)
  past_none (suc n) q h = rw (get_or-eq_default b empty_slot {n = q} h) (refl, refl)

  module _ {n at over turn : ℕ} (w : Looking n at over turn) where
    -- the walk has come past the table
    pub looking_past : n ≤ at → Found 0 over
    looking_past h =
        let none = past_none (z.spaces - turn) at (omega (arith, w.slots_long)) in
        (sym none.0 ∙ w.same, sym (ap (λ (m : ℕ). over + m) none.1 ∙ add-zero over) ∙ w.more)

    -- no page is left to visit
    pub looking_over : z.spaces ≤ turn → Found 0 over
    unfolding frame links
    looking_over h =
        let e = none_left z.spaces turn h in
        (ap (λ (m : ℕ). frame z (slot_at b) m at) (sym e) ∙ w.same, sym (ap (λ (m : ℕ). over + links z (slot_at b) m at) e ∙ add-zero over) ∙ w.more)

    module _ (h : turn < z.spaces) where
      ahead : (frame z (slot_at b) (suc (z.spaces - (turn + 1))) at ≡ frame_of z (slot_at b) k) × (over + links z (slot_at b) (suc (z.spaces - (turn + 1))) at ≡ links_of z (slot_at b) k)
      ahead =
          let e = turn_visits z.spaces turn h in
          (sym (ap (λ (m : ℕ). frame z (slot_at b) m at) e) ∙ w.same, sym (ap (λ (m : ℕ). over + links z (slot_at b) m at) e) ∙ w.more)

      -- the page at is empty
      pub looking_empty : (slot_at b at).link ≡ Nothing → Found 0 over
      unfolding frame links
      looking_empty e = let a = rw e at ahead in (a.0, sym (add-zero over) ∙ a.1)

      -- it has a frame
      pub looking_frame : {i : ℕ} → (slot_at b at).link ≡ Frame i → Found i (over + 1)
      unfolding frame links
      looking_frame e = rw e at ahead

      -- it has a parent, and the walk goes on there
      pub looking_up : {x y up : ℕ} → (slot_at b at).link ≡ Page x y → up ≡ key z x y → Looking n up (over + 1) (turn + 1)
      unfolding frame links
      looking_up e u =
          let a = rw e at ahead in
          record {
            slots_long = w.slots_long;
            gone = omega (arith, w.gone);
            same = rw u a.0;
            more = rw u (one_over over _ ∙ a.1);
          }
