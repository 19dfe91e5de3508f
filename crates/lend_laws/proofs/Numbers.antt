-- The numbers of a call's cases rise, so 'the first case that holds' is 'the case that holds while none of a smaller number does'.
use mathlib.Core.Path.{◌≡◌, refl}
use mathlib.Core.Bool.{Bool, true, false, not, ◌&&◌, ◌||◌}
use mathlib.Core.List.{List, [], ◌∷◌}
use mathlib.Core.Logic.{◌⊎◌, inl, inr, ◌↔◌}
use Prim.Native.Nat.{ℕ, ◌≤◌, ◌<◌}
use native.Mathlib.Decide.{dec_lt}
use native.Mathlib.Omega.{arith}
use lib.Dec.{T, eqb, ltb, eqb→eq, ltb→lt, T_not}
use borrow.Author.Tests.{eq-eqb, ne_eqb}
use Rattle.lend.specs.Sizes.{Sizes}
use Rattle.lend.specs.Tables.{State}
use Rattle.lend.specs.SoundTest.{sound_test}
use Rattle.lend.specs.Numbers.{Case, ◌when◌, first_number}
use Rattle.lend.specs.Calls.{Call, Create, Delete, Unmap, Flush, Map, Grant, Translate, Load, Store, cases, number}
use Rattle.lend.specs.Ranges.{RangeCall, UnmapRange, FlushRange, MapRange, GrantRange, range_cases, range_number}
use Rattle.lend_basics.proofs.Bools.{and_l, and_r, or_l, or_r, or_cases, not_or, or_not, and_false}

-- ── rising cases ─────────────────────────────────────────────────────────
-- the numbers of the list rise, from above n
abbrev pub rises_from : ℕ → List Case → Bool
rises_from n [] = true
rises_from n (c ∷ cs) = ltb n c.number && rises_from c.number cs

-- the case of number n holds
abbrev pub holds_at : ℕ → List Case → Bool
holds_at n [] = false
holds_at n (c ∷ cs) = (eqb c.number n && c.holds) || holds_at n cs

-- no case of a smaller number than n holds
abbrev pub NoneBefore : ℕ → List Case → Type 0
NoneBefore n cs = (m : ℕ) → m < n → T (not (holds_at m cs))

-- a list that rises from above n has no case of n or less
none_low : (cs : List Case) (n m : ℕ) → T (rises_from n cs) → m ≤ n → T (not (holds_at m cs))
none_low [] n m h l = tt
none_low (c ∷ cs) n m h l =
    let up : n < c.number = ltb→lt n c.number (and_l (ltb n c.number) (rises_from c.number cs) h) in
    or_not (eqb c.number m && c.holds) (holds_at m cs) (rw (ne_eqb c.number m (λ e. omega arith)) tt)
    (none_low cs c.number m (and_r (ltb n c.number) (rises_from c.number cs) h) (omega arith))

-- the first case that holds, where its number is n and not 0, holds, and none before it does
first_holds : (cs : List Case) (b n : ℕ) → T (rises_from b cs) → 1 ≤ n → first_number cs ≡ n → T (holds_at n cs) × NoneBefore n cs
first_holds [] b n h l e = absurd (omega arith)
first_holds (c ∷ cs) b n h l e = go (first_holds cs c.number n rise l) c.holds refl
  where
    rise : T (rises_from c.number cs)
    rise = and_r (ltb b c.number) (rises_from c.number cs) h

    go : (first_number cs ≡ n → T (holds_at n cs) × NoneBefore n cs) → (t : Bool) → c.holds ≡ t → T (holds_at n (c ∷ cs)) × NoneBefore n (c ∷ cs)
    go rest true q =
        let e' : c.number ≡ n = rw q at e in (
          or_l (eqb c.number n && c.holds) (holds_at n cs) (rw (q, eq-eqb c.number n e') tt),
          λ m l. or_not (eqb c.number m && c.holds) (holds_at m cs) (rw (ne_eqb c.number m (λ d. omega arith)) tt)
              (none_low cs c.number m rise (omega arith)),
        )
    go rest false q =
        let r = rest (rw q at e) in (
          or_r (eqb c.number n && c.holds) (holds_at n cs) r.0,
          λ m l. or_not (eqb c.number m && c.holds) (holds_at m cs) (rw (q, and_false (eqb c.number m)) tt) (r.1 m l),
        )

-- and a case that holds, with none before it that does, is the first that holds
holds_first : (cs : List Case) (b n : ℕ) → T (rises_from b cs) → T (holds_at n cs) → NoneBefore n cs → first_number cs ≡ n
holds_first [] b n h t none = absurd t
holds_first (c ∷ cs) b n h t none =
    go (λ w. holds_first cs c.number n rise w (λ m l. (not_or (eqb c.number m && c.holds) (holds_at m cs) (none m l)).1)) c.holds refl
    (or_cases (eqb c.number n && c.holds) (holds_at n cs) t)
  where
    rise : T (rises_from c.number cs)
    rise = and_r (ltb b c.number) (rises_from c.number cs) h

    -- a case that holds before n is shut out
    before : c.holds ≡ true → T (holds_at n cs) → Dec (c.number < n) → ⊥
    before q w (yes l) =
        T_not (holds_at c.number (c ∷ cs)) (none c.number l)
        (or_l (eqb c.number c.number && c.holds) (holds_at c.number cs) (rw (q, eq-eqb c.number c.number refl) tt))
    before q w (no l) = T_not (holds_at n cs) (none_low cs c.number n rise (omega arith)) w

    go : (T (holds_at n cs) → first_number cs ≡ n) → (t : Bool) → c.holds ≡ t → T (eqb c.number n && c.holds) ⊎ T (holds_at n cs)
        → first_number (c ∷ cs) ≡ n
    go rest true q (inl w) = rw q (eqb→eq c.number n (and_l (eqb c.number n) c.holds w))
    go rest true q (inr w) = absurd (before q w (dec_lt c.number n))
    go rest false q (inl w) = let f : T false = rw q at (and_r (eqb c.number n) c.holds w) in absurd f
    go rest false q (inr w) = rw q (rest w)

-- so the first case that holds has the number n, not 0, just where the case of n holds and no case of a smaller number does
first_exactly : (cs : List Case) → T (rises_from 0 cs) → (n : ℕ) → 1 ≤ n → (first_number cs ≡ n) ↔ (T (holds_at n cs) × NoneBefore n cs)
first_exactly cs rise n l = (first_holds cs 0 n rise l, λ r. holds_first cs 0 n rise r.0 r.1)

-- ── the numbers of a call ────────────────────────────────────────────────
-- the cases of a call, with that of an unsound board before them
abbrev pub with_first : Sizes → State → List Case → List Case
with_first z st cs = (1 when not (sound_test z st.board)) ∷ cs

module _ (z : Sizes) (st : State) where
  -- of every call, on every board, the numbers of the cases rise, from above 0
  pub numbers_rise : (c : Call) → T (rises_from 0 (with_first z st (cases z st c)))
  unfolding cases
  numbers_rise (Create space) = tt
  numbers_rise (Delete space) = tt
  numbers_rise (Unmap space page rights) = tt
  numbers_rise (Flush space page rights) = tt
  numbers_rise (Map from page to at rights) = tt
  numbers_rise (Grant from page to at rights) = tt
  numbers_rise (Translate space address rights) = tt
  numbers_rise (Load space address) = tt
  numbers_rise (Store space address byte) = tt

  -- so it gives the number n, which is not 0, just where the case of n holds and no case of a smaller number does
  pub number_exactly : (c : Call) (n : ℕ) → 1 ≤ n
      → (number z st c ≡ n) ↔ (T (holds_at n (with_first z st (cases z st c))) × NoneBefore n (with_first z st (cases z st c)))
  unfolding number
  number_exactly c = first_exactly (with_first z st (cases z st c)) (numbers_rise c)

  -- of every call over a range, too
  pub range_numbers_rise : (c : RangeCall) → T (rises_from 0 (with_first z st (range_cases z st c)))
  unfolding range_cases
  range_numbers_rise (UnmapRange space base size rights) = tt
  range_numbers_rise (FlushRange space base size rights) = tt
  range_numbers_rise (MapRange from base size to atBase atSize rights) = tt
  range_numbers_rise (GrantRange from base size to atBase atSize rights) = tt

  -- and so it is with the number that it gives
  pub range_number_exactly : (c : RangeCall) (n : ℕ) → 1 ≤ n
      → (range_number z st c ≡ n)
      ↔ (T (holds_at n (with_first z st (range_cases z st c))) × NoneBefore n (with_first z st (range_cases z st c)))
  unfolding range_number
  range_number_exactly c = first_exactly (with_first z st (range_cases z st c)) (range_numbers_rise c)
