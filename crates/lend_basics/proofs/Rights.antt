-- The laws of rights, over 0 to 7, each by one test that antt computes.
use mathlib.Core.Path.{◌≡◌, refl}
use mathlib.Core.Bool.{Bool, true, ◌&&◌}
use Prim.Native.Nat.{ℕ, zero, suc, ◌<◌}
use native.Mathlib.Nat.{le_of_suc-le-suc, not-suc-le-zero, eq-or-lt_of_le}
use mathlib.Core.Logic.{◌⊎◌, inl, inr}
use lib.Dec.{T, ltb, eqb, eqb→eq, ltb→lt}
use lib.Bits.{bit_or}
use Rattle.lend.specs.Rights.{less, within}
use Rattle.lend_basics.proofs.Bools.{and_l, and_r, implies, implied}

-- the test passes at every number below n, to be computed
abbrev passes : ℕ → (ℕ → Bool) → Bool
passes zero t = true
passes (suc n) t = t n && passes n t

each : (n : ℕ) (t : ℕ → Bool) → T (passes n t) → (k : ℕ) → k < n → T (t k)
each zero t h k l = absurd (not-suc-le-zero l)
each (suc n) t h k l = pick (each n t (and_r (t n) (passes n t) h) k) (eq-or-lt_of_le (le_of_suc-le-suc l))
  where
    pick : (k < n → T (t k)) → (k ≡ n) ⊎ (k < n) → T (t k)
    pick rest (inl e) = rw e (and_l (t n) (passes n t) h)
    pick rest (inr m) = rest m

each2 : (t : ℕ → ℕ → Bool) → T (passes 8 (λ a. passes 8 (t a))) → (a b : ℕ) → a < 8 → b < 8 → T (t a b)
each2 t h a b la lb = each 8 (t a) (each 8 (λ x. passes 8 (t x)) h a la) b lb

each3 : (t : ℕ → ℕ → ℕ → Bool) → T (passes 8 (λ a. passes 8 (λ b. passes 8 (t a b)))) → (a b c : ℕ) → a < 8 → b < 8 → c < 8 → T (t a b c)
each3 t h a b c la lb lc = each2 (t a) (each 8 (λ x. passes 8 (λ y. passes 8 (t x y))) h a la) b c lb lc

-- the rights of d and those of e
unfoldable pub join : ℕ → ℕ → ℕ
join d e = bit_or d e

-- ── what is left ─────────────────────────────────────────────────────────
pub less_none : (d : ℕ) → less 0 d ≡ 0
unfolding less
less_none d = refl

pub less_lt : (r d : ℕ) → r < 8 → d < 8 → less r d < 8
unfolding less
less_lt r d hr hd = ltb→lt (less r d) 8 (each2 (λ a b. ltb (less a b) 8) tt r d hr hd)

pub less_zero : (r : ℕ) → r < 8 → less r 0 ≡ r
unfolding less
less_zero r hr = eqb→eq (less r 0) r (each 8 (λ a. eqb (less a 0) a) tt r hr)

pub less_all : (r : ℕ) → r < 8 → less r 7 ≡ 0
unfolding less
less_all r hr = eqb→eq (less r 7) 0 (each 8 (λ a. eqb (less a 7) 0) tt r hr)

pub less_within : (r d : ℕ) → r < 8 → d < 8 → T (within (less r d) r)
unfolding less within
less_within r d hr hd = each2 (λ a b. within (less a b) a) tt r d hr hd

-- rights that are all among what is left were not touched
pub less_whole : (r d : ℕ) → r < 8 → d < 8 → T (within r (less r d)) → r ≡ less r d
unfolding less within
less_whole r d hr hd w =
    eqb→eq r (less r d) (implied (within r (less r d)) (eqb r (less r d)) (each2 (λ a b. implies (within a (less a b)) (eqb a (less a b))) tt r d hr hd) w)

-- two withdrawals are one, of all that either takes
pub less_less : (r d e : ℕ) → r < 8 → d < 8 → e < 8 → less (less r d) e ≡ less r (join d e)
unfolding less join
less_less r d e hr hd he = eqb→eq (less (less r d) e) (less r (join d e)) (each3 (λ a b c. eqb (less (less a b) c) (less a (join b c))) tt r d e hr hd he)

less_mono : (r q d : ℕ) → r < 8 → q < 8 → d < 8 → T (within r q) → T (within (less r d) (less q d))
unfolding less within
less_mono r q d hr hq hd w = implied (within r q) (within (less r d) (less q d)) (each3 (λ a b c. implies (within a b) (within (less a c) (less b c))) tt r q d hr hq hd) w

less_anti : (r d e : ℕ) → r < 8 → d < 8 → e < 8 → T (within d e) → T (within (less r e) (less r d))
unfolding less within
less_anti r d e hr hd he w = implied (within d e) (within (less r e) (less r d)) (each3 (λ a b c. implies (within b c) (within (less a c) (less a b))) tt r d e hr hd he) w

-- ── contained ────────────────────────────────────────────────────────────
pub within_zero_l : (r : ℕ) → r < 8 → T (within 0 r)
unfolding within
within_zero_l r hr = each 8 (λ a. within 0 a) tt r hr

pub within_refl : (r : ℕ) → r < 8 → T (within r r)
unfolding within
within_refl r hr = each 8 (λ a. within a a) tt r hr

pub within_zero : (r : ℕ) → r < 8 → T (within r 0) → r ≡ 0
unfolding within
within_zero r hr w = eqb→eq r 0 (implied (within r 0) (eqb r 0) (each 8 (λ a. implies (within a 0) (eqb a 0)) tt r hr) w)

pub within_trans : (a b c : ℕ) → a < 8 → b < 8 → c < 8 → T (within a b) → T (within b c) → T (within a c)
unfolding within
within_trans a b c ha hb hc h k =
    implied (within b c) (within a c)
    (implied (within a b) (implies (within b c) (within a c)) (each3 (λ x y w. implies (within x y) (implies (within y w) (within x w))) tt a b c ha hb hc) h) k

pub within_antisym : (a b : ℕ) → a < 8 → b < 8 → T (within a b) → T (within b a) → a ≡ b
unfolding within
within_antisym a b ha hb h k =
    eqb→eq a b
    (implied (within b a) (eqb a b)
    (implied (within a b) (implies (within b a) (eqb a b)) (each2 (λ x y. implies (within x y) (implies (within y x) (eqb x y))) tt a b ha hb) h) k)

-- what the parent loses the child loses: the child's rights stay within the parent's
pub less_within_less : (r q d e : ℕ) → r < 8 → q < 8 → d < 8 → e < 8 → T (within r q) → T (within d e) → T (within (less r e) (less q d))
less_within_less r q d e hr hq hd he w v =
    within_trans (less r e) (less r d) (less q d) (less_lt r e hr he) (less_lt r d hr hd) (less_lt q d hq hd) (less_anti r d e hr hd he v)
    (less_mono r q d hr hq hd w)

-- ── joined ───────────────────────────────────────────────────────────────
pub join_lt : (r d : ℕ) → r < 8 → d < 8 → join r d < 8
unfolding join
join_lt r d hr hd = ltb→lt (join r d) 8 (each2 (λ a b. ltb (join a b) 8) tt r d hr hd)

pub within_join_l : (d e : ℕ) → d < 8 → e < 8 → T (within d (join d e))
unfolding join within
within_join_l d e hd he = each2 (λ a b. within a (join a b)) tt d e hd he

pub within_join_r : (d e : ℕ) → d < 8 → e < 8 → T (within e (join d e))
unfolding join within
within_join_r d e hd he = each2 (λ a b. within b (join a b)) tt d e hd he

pub join_least : (d e g : ℕ) → d < 8 → e < 8 → g < 8 → T (within d g) → T (within e g) → T (within (join d e) g)
unfolding join within
join_least a b c ha hb hc h k =
    implied (within b c) (within (join a b) c)
    (implied (within a c) (implies (within b c) (within (join a b) c)) (each3 (λ x y w. implies (within x w) (implies (within y w) (within (join x y) w))) tt a b c ha hb hc) h) k
