-- The code's summary, by arrays of rights and frames, is that of the table; and its counts stay small.
use mathlib.Core.Path.{◌≡◌, refl, sym, subst, ap, ◌∙◌}
use mathlib.Core.Bool.{Bool, true, false, not, ◌&&◌, ◌||◌, cond}
use mathlib.Core.List.{List}
use Prim.Native.Nat.{ℕ, zero, suc, ◌+◌, ◌≤◌, ◌<◌}
use native.Mathlib.Decide.{dec_lt, ℕ_discrete}
use native.Mathlib.Numerals.{add-one}
use native.Mathlib.Nat.{le_of_eq}
use native.Mathlib.Omega.{arith}
use lib.Dec.{T, eqb}
use mir.Val.{bool_byte}
use lib.ListN.{length, get_or, set, length-set, replicate, length-replicate, get_or-replicate, get_or-eq_default}
use lib.Seq.{ext_get_or, get_or-set_same, get_or-set_other}
use borrow.Author.Tests.{lt-ltb}
use Rattle.lend.specs.declared.Count.{Count}
use Rattle.lend.specs.Sizes.{Sizes, slot_count, in_pool}
use Rattle.lend.specs.Rights.{read_right, write_right, execute_right, within}
use Rattle.lend.specs.Slots.{Table, held}
use Rattle.lend.specs.Line.{frame_of}
use Rattle.lend.specs.Summary.{no_count, count_at, counted, more, summary_to, summary_of}
use Rattle.lend_basics.proofs.Loops.{Counted, counted_none, counted_all}
use Rattle.lend_summary.specs.Counts.{lost_count, CountBelow}
use Rattle.lend_code.specs.Inner.{counts_at, summary_by, summary_with, more_in16, counted_in16, losses_of, Framed}

-- nothing stands past the end of a list, so nothing can be set there
pub set_past : (s : List Count) (i : ℕ) (x : Count) → length s ≤ i → set s i x ≡ s
set_past s i x h = ext_get_or no_count (set s i x) s (length-set s i x)
    (λ j l. get_or-set_other s i j x no_count (λ e. let m : j < length s = omega (arith, length-set s i x) in absurd (omega arith)))

module _ (z : Sizes) (rights frames : List ℕ) where
  pub by_long : (n : ℕ) → length (summary_by z rights frames n) ≡ z.pages
  unfolding summary_by
  by_long zero = length-replicate z.pages no_count
  by_long (suc k) =
      length-set (summary_by z rights frames k) (counts_at z k (get_or rights k 0) (get_or frames k 0))
      (counted (get_or rights k 0) (count_at (summary_by z rights frames k) (counts_at z k (get_or rights k 0) (get_or frames k 0))))
      ∙ by_long k

-- ── it is the summary of the table ───────────────────────────────────────
module _ (z : Sizes) (f : Table) (by_rights : (k : ℕ) → held (f k) ≡ not (eqb (f k).rights 0)) (rights frames : List ℕ)
    (same : (k : ℕ) → get_or rights k 0 ≡ (f k).rights) (framed : Framed z f frames) where
  -- a page is counted at its frame where it is held outside space 0
  counts_at_law : (k : ℕ) → counts_at z k (get_or rights k 0) (get_or frames k 0) ≡ cond (not (in_pool z k) && held (f k)) (frame_of z f k) z.pages
  counts_at_law k = ap (λ (r : ℕ). counts_at z k r (get_or frames k 0)) (same k) ∙ go (in_pool z k) (held (f k)) refl (eqb (f k).rights 0) refl
    where
      go : (p h : Bool) → held (f k) ≡ h → (e : Bool) → eqb (f k).rights 0 ≡ e
          → cond (p || e) z.pages (get_or frames k 0) ≡ cond (not p && h) (frame_of z f k) z.pages
      go true h eh e ee = refl
      go false true eh true ee = let x : true ≡ false = sym eh ∙ (by_rights k ∙ rw ee) in absurd (subst T x tt)
      go false true eh false ee = framed.right k (rw eh tt)
      go false false eh true ee = refl
      go false false eh false ee = let x : false ≡ true = sym eh ∙ (by_rights k ∙ rw ee) in absurd (subst T (sym x) tt)

  counted_or_not : (s : List Count) (r i : ℕ) (t : Bool) → length s ≡ z.pages
      → set s (cond t i z.pages) (counted r (count_at s (cond t i z.pages))) ≡ cond t (set s i (counted r (count_at s i))) s
  counted_or_not s r i true l = refl
  counted_or_not s r i false l = set_past s z.pages (counted r (count_at s z.pages)) (le_of_eq l)

  pub summary_to_law : (n : ℕ) → summary_by z rights frames n ≡ summary_to z f n
  unfolding summary_by summary_to
  summary_to_law zero = refl
  summary_to_law (suc k) =
      ap (λ (i : ℕ). set (summary_by z rights frames k) i (counted (get_or rights k 0) (count_at (summary_by z rights frames k) i))) (counts_at_law k)
      ∙ (ap (λ (r : ℕ). set (summary_by z rights frames k) (cond t (frame_of z f k) z.pages) (counted r (count_at (summary_by z rights frames k) (cond t (frame_of z f k) z.pages)))) (same k)
      ∙ (counted_or_not (summary_by z rights frames k) (f k).rights (frame_of z f k) t (by_long z rights frames k)
      ∙ ap (λ (s : List Count). cond t (set s (frame_of z f k) (counted (f k).rights (count_at s (frame_of z f k)))) s) (summary_to_law k)))
    where
      t : Bool
      t = not (in_pool z k) && held (f k)

  pub summary_by_law : summary_with z rights frames ≡ summary_of z f
  summary_by_law = summary_to_law (slot_count z)

-- ── in 16 bits ───────────────────────────────────────────────────────────
more_fits : (t : Bool) (n : ℕ) → n < 65535 → more_in16 t n ≡ more t n
more_fits true n h = rw (lt-ltb n 65535 h) (add-one n)
more_fits false n h = refl

-- with room for one more, one more is counted
pub counted_fits : (r : ℕ) (c : Count) → CountBelow 65535 c → counted_in16 r c ≡ counted r c
unfolding counted_in16
counted_fits r c room = λ i. record {
  held = more_fits true c.held room.held_below i;
  read = more_fits (within read_right r) c.read room.read_below i;
  write = more_fits (within write_right r) c.write room.write_below i;
  execute = more_fits (within execute_right r) c.execute room.execute_below i;
}

-- ── the loop ─────────────────────────────────────────────────────────────
-- no count is above n
pub record Small (c : Count) (n : ℕ) : Type 0 where
  pub held : c.held ≤ n
  pub read : c.read ≤ n
  pub write : c.write ≤ n
  pub execute : c.execute ≤ n

more_small : (t : Bool) (m n : ℕ) → m ≤ n → more t m ≤ suc n
more_small true m n h = omega arith
more_small false m n h = omega arith

module _ (z : Sizes) (rights frames : List ℕ) where
  -- after n pages no count is above n
  pub by_small : (n i : ℕ) → Small (count_at (summary_by z rights frames n) i) n
  unfolding summary_by
  by_small zero i = rw (none (dec_lt i z.pages)) (record { held = le_of_eq refl; read = le_of_eq refl; write = le_of_eq refl; execute = le_of_eq refl })
    where
      none : Dec (i < z.pages) → count_at (replicate z.pages no_count) i ≡ no_count
      none (yes l) = get_or-replicate z.pages i no_count no_count l
      none (no l) = get_or-eq_default (replicate z.pages no_count) no_count {n = i} (omega (arith, length-replicate z.pages no_count))
  by_small (suc k) i = go (ℕ_discrete i at) (dec_lt at z.pages) (by_small k i) (by_small k at)
    where
      s : List Count
      s = summary_by z rights frames k

      r : ℕ
      r = get_or rights k 0

      at : ℕ
      at = counts_at z k (get_or rights k 0) (get_or frames k 0)

      up : (c : Count) → Small c k → Small c (suc k)
      up c h = record { held = omega (arith, h.held); read = omega (arith, h.read); write = omega (arith, h.write); execute = omega (arith, h.execute) }

      on : (c : Count) → Small c k → Small (counted r c) (suc k)
      on c h = record { held = omega (arith, h.held); read = more_small (within read_right r) c.read k h.read; write = more_small (within write_right r) c.write k h.write; execute = more_small (within execute_right r) c.execute k h.execute }

      go : Dec (i ≡ at) → Dec (at < z.pages) → Small (count_at s i) k → Small (count_at s at) k → Small (count_at (set s at (counted r (count_at s at))) i) (suc k)
      go (yes e) (yes l) h g = rw (e, get_or-set_same s at (counted r (count_at s at)) no_count (omega (arith, by_long z rights frames k))) (on (count_at s at) g)
      go (yes e) (no l) h g = rw (set_past s at (counted r (count_at s at)) (omega (arith, by_long z rights frames k))) (up (count_at s i) h)
      go (no e) d h g = rw (get_or-set_other s at i (counted r (count_at s at)) no_count e) (up (count_at s i) h)

  -- the counts after k pages
  pub record Tallied (s : List Count) (k : ℕ) : Type 0 where
    pub is : s ≡ summary_by z rights frames k
    pub in_table : k ≤ slot_count z

  pub tallied_none : (s : List Count) → s ≡ replicate z.pages no_count → Tallied s 0
  unfolding summary_by
  tallied_none s e = record { is = e; in_table = omega arith }

  module _ (s : List Count) (k at : ℕ) (w : Tallied s k) (l : k < slot_count z) (is_at : at ≡ counts_at z k (get_or rights k 0) (get_or frames k 0)) where
    -- its count has room for one more
    room : slot_count z < 65535 → CountBelow 65535 (count_at s at)
    room few =
        let h = by_small k at in
        rw w.is (record { held_below = omega (arith, h.held); read_below = omega (arith, h.read); write_below = omega (arith, h.write); execute_below = omega (arith, h.execute) })

    -- a page that is counted
    pub tallied_more : slot_count z < 65535 → (c : Count) → c ≡ counted_in16 (get_or rights k 0) (count_at s at) → Tallied (set s at c) (k + 1)
    unfolding summary_by
    tallied_more few c e = record { is = rw (add-one k, e ∙ counted_fits (get_or rights k 0) (count_at s at) (room few), is_at, w.is); in_table = omega arith }

    -- and one that is not
    pub tallied_skip : z.pages ≤ at → Tallied s (k + 1)
    unfolding summary_by
    tallied_skip h = record {
      is = w.is ∙ sym (rw (add-one k) (set_past (summary_by z rights frames k) (counts_at z k (get_or rights k 0) (get_or frames k 0)) (counted (get_or rights k 0) (count_at (summary_by z rights frames k) (counts_at z k (get_or rights k 0) (get_or frames k 0)))) (omega (arith, by_long z rights frames k, is_at))));
      in_table = omega arith;
    }

  pub tallied_all : (s : List Count) (k : ℕ) → Tallied s k → slot_count z ≤ k → s ≡ summary_with z rights frames
  tallied_all s k w h = w.is ∙ ap (summary_by z rights frames) (antisym w.in_table h)
    where
      antisym : k ≤ slot_count z → slot_count z ≤ k → k ≡ slot_count z
      antisym a b = omega arith

-- ── what was lost ────────────────────────────────────────────────────────
-- each test has passed at so many of the first k pages
pub record Losing (before after : List ℕ) (held read write execute k : ℕ) : Type 0 where
  pub held_lost : Counted (λ j. not (eqb (get_or before j 0) 0) && eqb (get_or after j 0) 0) held k
  pub read_lost : Counted (λ j. within read_right (get_or before j 0) && not (within read_right (get_or after j 0))) read k
  pub write_lost : Counted (λ j. within write_right (get_or before j 0) && not (within write_right (get_or after j 0))) write k
  pub execute_lost : Counted (λ j. within execute_right (get_or before j 0) && not (within execute_right (get_or after j 0))) execute k

pub losing_none : (before after : List ℕ) → Losing before after 0 0 0 0 0
losing_none before after = record { held_lost = counted_none _; read_lost = counted_none _; write_lost = counted_none _; execute_lost = counted_none _ }

-- a test that is cast is at most 1
pub bit_small : (b : Bool) → bool_byte b ≤ 1
bit_small true = omega arith
bit_small false = omega arith

pub losing_all : (z : Sizes) (before after : List ℕ) (held read write execute k : ℕ) → Losing before after held read write execute k → k ≡ slot_count z
    → ◌≡◌ {A = Count} (record { held = held; read = read; write = write; execute = execute }) (losses_of z before after)
unfolding losses_of lost_count
losing_all z before after held read write execute k l e = λ i. record {
  held = counted_all _ held k l.held_lost e i;
  read = counted_all _ read k l.read_lost e i;
  write = counted_all _ write k l.write_lost e i;
  execute = counted_all _ execute k l.execute_lost e i;
}
