-- unmap and flush of one page on a sound table: each is a withdrawal, from the pages below y, or from those with y on their line.
use mathlib.Core.Path.{◌≡◌, refl, sym, ap, ◌∙◌, fun_ext}
use mathlib.Core.Bool.{Bool, true, false, not, ◌&&◌, cond}
use mathlib.Core.List.{List}
use Prim.Native.Nat.{ℕ, ◌≤◌, ◌<◌}
use native.Mathlib.Decide.{dec_lt}
use native.Mathlib.Omega.{arith}
use lib.Dec.{T, eqb, eqb→eq, lit<}
use lib.ListN.{length, get_or-eq_default}
use borrow.Author.Tests.{ne_eqb}
use Rattle.lend.specs.declared.Slot.{Slot}
use Rattle.lend.specs.declared.Link.TheVariants.{Page}
use Rattle.lend.specs.Sizes.{Sizes, key}
use Rattle.lend.specs.Rights.{within}
use Rattle.lend.specs.Lists.{any}
use Rattle.lend.specs.Slots.{Table, empty_slot, cut, slot_at, each_slot}
use Rattle.lend.specs.Line.{line_of, is_on_line, below}
use Rattle.lend.specs.Sound.{SoundPages}
use Rattle.lend.specs.Withdraw.{unmapped, flushed}
use Rattle.lend_basics.proofs.Bools.{and_l, or_r}
use Rattle.lend_basics.proofs.Rights.{within_refl, within_zero_l}
use Rattle.lend_basics.proofs.Lists.{length_tabulate, tabulate_at, tabulate_past}
use Rattle.lend_sound.proofs.Lines.{line_step, line_self, line_top, pool_top, below_up, below_top}
use Rattle.lend_laws.proofs.Withdraw.{cut_empty, cut_zero, withdraw, Closed, withdraw_sound}

-- ── a rule for each slot ─────────────────────────────────────────────────
-- what a rule that keeps the empty form gives at each page, past the end too
pub each_at : (g : ℕ → Slot → Slot) → ((k : ℕ) → g k empty_slot ≡ empty_slot) → (b : List Slot) (k : ℕ)
    → slot_at (each_slot g b) k ≡ g k (slot_at b k)
each_at g h b k = go (dec_lt k (length b))
  where
    go : Dec (k < length b) → slot_at (each_slot g b) k ≡ g k (slot_at b k)
    go (yes l) = tabulate_at (λ j. g j (slot_at b j)) (length b) k empty_slot l
    go (no l) =
        tabulate_past (λ j. g j (slot_at b j)) (length b) k empty_slot (omega arith)
        ∙ (sym (h k) ∙ ap (g k) (sym (get_or-eq_default b empty_slot {n = k} (omega arith))))

-- and how many slots it gives
pub length_each : (g : ℕ → Slot → Slot) (b : List Slot) → length (each_slot g b) ≡ length b
length_each g b = length_tabulate (λ k. g k (slot_at b k)) (length b)

-- unmap keeps the number of pages
pub length_unmapped : (z : Sizes) (y d : ℕ) (b : List Slot) → length (unmapped z y d b) ≡ length b
unfolding unmapped
length_unmapped z y d b = length_each (λ k s. cond (below z (slot_at b) k y) (cut d s) s) b

-- flush does
pub length_flushed : (z : Sizes) (y d : ℕ) (b : List Slot) → length (flushed z y d b) ≡ length b
unfolding flushed
length_flushed z y d b = length_each (λ k s. cond (eqb k y) (cut d s) s) (unmapped z y d b) ∙ length_unmapped z y d b

cond_empty : (t : Bool) (d : ℕ) → cond t (cut d empty_slot) empty_slot ≡ empty_slot
cond_empty true d = cut_empty d
cond_empty false d = refl

cond_cut : (t : Bool) (d : ℕ) (s : Slot) → cut 0 s ≡ s → cond t (cut d s) s ≡ cut (cond t d 0) s
cond_cut true d s h = refl
cond_cut false d s h = sym h

-- ── amounts given by a test ──────────────────────────────────────────────
-- a test that no page of space 0 passes, and every page whose parent passes
pub record Down (z : Sizes) (f : Table) (t : ℕ → Bool) : Type 0 where
  pub not_pool : (k : ℕ) → k < z.pages → t k ≡ false
  pub down : (k s p : ℕ) → (f k).link ≡ Page s p → T (t (key z s p)) → T (t k)

-- the rights d, from the pages that pass such a test, are amounts for a withdrawal
pub down_closed : (z : Sizes) (f : Table) (t : ℕ → Bool) (d : ℕ) → d < 8 → Down z f t → Closed z f (λ k. cond (t k) d 0)
down_closed z f t d h w = record {
  small = λ k. small (t k);
  not_pool = λ k l. rw (w.not_pool k l);
  down = λ k s p e. down (t (key z s p)) (t k) (w.down k s p e);
}
  where
    small : (b : Bool) → cond b d 0 < 8
    small true = h
    small false = lit< tt

    down : (a b : Bool) → (T a → T b) → T (within (cond a d 0) (cond b d 0))
    down true true i = within_refl d h
    down true false i = absurd (i tt)
    down false true i = within_zero_l d h
    down false false i = within_zero_l 0 (lit< tt)

module _ (z : Sizes) (live : List Bool) (f : Table) (len : length live ≡ z.spaces) (sound : SoundPages z live f) where
  -- having on the line a page that passes a test goes down to children
  pub line_down : (t : ℕ → Bool) → ((k : ℕ) → k < z.pages → t k ≡ false) → Down z f (λ k. any t (line_of z f k))
  line_down t out = record {
    not_pool = λ k h. rw (line_top z live f len sound k (pool_top z live f len sound k h), out k h);
    down = λ k s p e h. rw (line_step z live f len sound k s p e) (or_r (t k) (any t (line_of z f (key z s p))) h);
  }

  -- so does being below a page
  below_down : (y : ℕ) → Down z f (λ k. below z f k y)
  below_down y = record {
    not_pool = λ k h. below_top z live f len sound k y (pool_top z live f len sound k h);
    down = λ k s p e h.
        rw (below_up z live f len sound k s p y e) (and_l (is_on_line z f (key z s p) y) (not (eqb (key z s p) y)) h);
  }

  -- the amounts of an unmap
  pub unmap_closed : (y d : ℕ) → d < 8 → Closed z f (λ k. cond (below z f k y) d 0)
  unmap_closed y d h = down_closed z f (λ k. below z f k y) d h (below_down y)

  -- the amounts of a flush of a page outside space 0
  pub flush_closed : (y d : ℕ) → z.pages ≤ y → d < 8 → Closed z f (λ k. cond (is_on_line z f k y) d 0)
  flush_closed y d out h =
      down_closed z f (λ k. is_on_line z f k y) d h (line_down (λ x. eqb x y) (λ k l. ne_eqb k y (λ e. omega arith)))

-- ── unmap and flush ──────────────────────────────────────────────────────
module _ (z : Sizes) (live : List Bool) (b : List Slot) (len : length live ≡ z.spaces) (sound : SoundPages z live (slot_at b)) where
  -- an unmap takes the rights d from each page below y
  pub unmapped_at : (y d k : ℕ) → slot_at (unmapped z y d b) k ≡ cut (cond (below z (slot_at b) k y) d 0) (slot_at b k)
  unfolding unmapped
  unmapped_at y d k =
      each_at (λ k s. cond (below z (slot_at b) k y) (cut d s) s) (λ k. cond_empty (below z (slot_at b) k y) d) b k
      ∙ cond_cut (below z (slot_at b) k y) d (slot_at b k) (cut_zero z live (slot_at b) sound k)

  -- a flush takes them from each page with y on its line, and y is on its own
  pub flushed_at : (y d k : ℕ) → slot_at (flushed z y d b) k ≡ cut (cond (is_on_line z (slot_at b) k y) d 0) (slot_at b k)
  unfolding flushed
  flushed_at y d k =
      each_at (λ k s. cond (eqb k y) (cut d s) s) (λ k. cond_empty (eqb k y) d) (unmapped z y d b) k
      ∙ rw (unmapped_at y d k) (go (is_on_line z (slot_at b) k y) (eqb k y) own)
    where
      own : T (eqb k y) → T (is_on_line z (slot_at b) k y)
      own e = rw (← (eqb→eq k y e)) (line_self z live (slot_at b) len sound k)

      go : (o e : Bool) → (T e → T o)
          → cond e (cut d (cut (cond (o && not e) d 0) (slot_at b k))) (cut (cond (o && not e) d 0) (slot_at b k)) ≡ cut (cond o d 0) (slot_at b k)
      go true true i = ap (cut d) (cut_zero z live (slot_at b) sound k)
      go true false i = refl
      go false true i = absurd (i tt)
      go false false i = refl

  -- an unmap, as tables
  pub unmapped_is : (y d : ℕ) → slot_at (unmapped z y d b) ≡ withdraw (λ k. cond (below z (slot_at b) k y) d 0) (slot_at b)
  unmapped_is y d = fun_ext (unmapped_at y d)

  -- a flush, as tables
  pub flushed_is : (y d : ℕ) → slot_at (flushed z y d b) ≡ withdraw (λ k. cond (is_on_line z (slot_at b) k y) d 0) (slot_at b)
  flushed_is y d = fun_ext (flushed_at y d)

  -- an unmap keeps a sound table sound
  pub unmapped_sound : (y d : ℕ) → d < 8 → SoundPages z live (slot_at (unmapped z y d b))
  unmapped_sound y d h =
      rw (unmapped_is y d)
      (withdraw_sound z live (slot_at b) sound (λ k. cond (below z (slot_at b) k y) d 0) (unmap_closed z live (slot_at b) len sound y d h))

  -- so does a flush of a page outside space 0
  pub flushed_sound : (y d : ℕ) → z.pages ≤ y → d < 8 → SoundPages z live (slot_at (flushed z y d b))
  flushed_sound y d out h =
      rw (flushed_is y d)
      (withdraw_sound z live (slot_at b) sound (λ k. cond (is_on_line z (slot_at b) k y) d 0) (flush_closed z live (slot_at b) len sound y d out h))
