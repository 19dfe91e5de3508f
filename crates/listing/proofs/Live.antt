-- The number of the live spaces: written and read back, both ways; each bit tells its space; and how large it can be.
use Prim.Native.Nat.{ℕ, zero, suc, ◌+◌, ◌*◌, ◌-◌, ◌/◌, ◌%◌, ◌^◌, ◌≤◌, ◌<◌}
use mir.Val.{bool_byte}
use mathlib.Core.Path.{◌≡◌, refl, sym, ap, ◌∙◌}
use mathlib.Core.Bool.{Bool, true, false, cond}
use mathlib.Core.List.{List, [], ◌∷◌, ◌++◌}
use native.Mathlib.Nat.{zero-div, div-div-eq-div-mul, mul_comm, pow-suc}
use native.Mathlib.Omega.{arith}
use native.Mathlib.Numerals.{add-one}
use lib.ListN.{length, replicate, drop, get_or, set, length-set, drop_of_length-le}
use lib.Seq.{drop-cons, ext_get_or, get_or-set_same, get_or-set_other}
use Rattle.std.specs.Prelude.{reverse}
use Rattle.std.proofs.lemmas.List.{reverse-append, length-reverse}
use borrow.Author.Count.{below_more}
use lib.Dec.{eqb}
use borrow.Author.Tests.{eq-eqb, ne_eqb, eqb-true, eqb-false}
use Rattle.lend.specs.Tables.{alive}
use Rattle.listing.specs.Live.{live_number, live_flags}

pub flags_length : (n m : ℕ) → length (live_flags n m) ≡ n
unfolding live_flags
flags_length zero m = refl
flags_length (suc n) m = ap suc (flags_length n (m / 2))

-- a flag in front of a number
low_bit : (is : Bool) (m : ℕ) → eqb ((cond is 1 0 + 2 * m) % 2) 1 ≡ is
low_bit true m = eq-eqb ((1 + 2 * m) % 2) 1 (omega arith)
low_bit false m = ne_eqb ((0 + 2 * m) % 2) 1 (λ e. omega arith)

high_bits : (is : Bool) (m : ℕ) → (cond is 1 0 + 2 * m) / 2 ≡ m
high_bits true m = omega arith
high_bits false m = omega arith

-- written, then read
pub flags_of_number : (live : List Bool) → live_flags (length live) (live_number live) ≡ live
unfolding live_flags live_number
flags_of_number [] = refl
flags_of_number (is ∷ rest) = rw (low_bit is (live_number rest), high_bits is (live_number rest), flags_of_number rest)

-- bit s is set when space s is live, and only then
pub bit_is_live : (live : List Bool) (s : ℕ) → eqb (live_number live / 2 ^ s % 2) 1 ≡ alive live s
unfolding live_number
bit_is_live [] s = rw (zero-div (2 ^ s))
bit_is_live (is ∷ rest) zero = let one : (cond is 1 0 + 2 * live_number rest) / 2 ^ 0 ≡ cond is 1 0 + 2 * live_number rest = omega arith in rw one (low_bit is (live_number rest))
bit_is_live (is ∷ rest) (suc s) =
    let n = cond is 1 0 + 2 * live_number rest in
    let e : n / 2 ^ suc s ≡ live_number rest / 2 ^ s =
    ap (λ (m : ℕ). n / m) (pow-suc 2 s ∙ mul_comm (2 ^ s) 2) ∙ sym (div-div-eq-div-mul n 2 (2 ^ s)) ∙ ap (λ (m : ℕ). m / 2 ^ s) (high_bits is (live_number rest)) in
    rw e (bit_is_live rest s)

-- a number of so many bits
abbrev pub all_set : ℕ → ℕ
all_set n = live_number (replicate n true)

bit_back : (b : Bool) (m : ℕ) → eqb (m % 2) 1 ≡ b → cond b 1 0 + 2 * (m / 2) ≡ m
bit_back true m e = let h : m % 2 ≡ 1 = eqb-true (m % 2) 1 e in omega arith
bit_back false m e = let h : m % 2 ≡ 1 → ⊥ = eqb-false (m % 2) 1 e in even (m % 2) refl h
  where
    even : (d : ℕ) → m % 2 ≡ d → (m % 2 ≡ 1 → ⊥) → 0 + 2 * (m / 2) ≡ m
    even zero q h = omega arith
    even (suc zero) q h = absurd (h q)
    even (suc (suc d)) q h = omega arith

-- read, then written
pub number_of_flags : (n m : ℕ) → m ≤ all_set n → live_number (live_flags n m) ≡ m
unfolding live_flags live_number
number_of_flags zero m h = omega arith
number_of_flags (suc n) m h =
    let r : live_number (live_flags n (m / 2)) ≡ m / 2 = number_of_flags n (m / 2) (omega arith) in
    rw r (bit_back (eqb (m % 2) 1) m refl)

-- no larger than with all set
pub number_most : (live : List Bool) → live_number live ≤ all_set (length live)
unfolding live_number
number_most [] = omega arith
number_most (true ∷ rest) = omega (arith, number_most rest)
number_most (false ∷ rest) = omega (arith, number_most rest)

-- more spaces make no smaller one
all_set_more : (n m : ℕ) → n ≤ m → all_set n ≤ all_set m
unfolding live_number
all_set_more zero m h = omega arith
all_set_more (suc n) zero h = absurd (omega arith)
all_set_more (suc n) (suc m) h = omega (arith, all_set_more n m (omega arith))

sixteen : all_set 16 ≡ 65535
unfolding live_number
sixteen = refl

-- of sixteen spaces it has five digits
pub few_set : (n : ℕ) → n ≤ 16 → all_set n ≤ 65535
few_set n h = omega (arith, all_set_more n 16 h, sixteen)

-- ── the turns of the loops over the spaces ───────────────────────────────
-- behind the highest space stand no flags, and their number is 0
pub number_none : (live : List Bool) (k : ℕ) → length live ≡ k → (k ≤ length live) × (0 ≡ live_number (drop k live))
unfolding live_number
number_none live k e =
    let h : length live ≤ k = omega arith in
    (omega arith, rw (drop_of_length-le live h))

-- the next lower space's flag goes behind the number of those that a loop came by, the highest space's first
pub number_turn : (ys : List Bool) (is : Bool) → live_number (reverse (ys ++ is ∷ [])) ≡ bool_byte is + 2 * live_number (reverse ys)
unfolding live_number
number_turn ys is = rw (reverse-append ys (is ∷ [])) (flag_first is)
  where
    flag_first : (b : Bool) → cond b 1 0 + 2 * live_number (reverse ys) ≡ bool_byte b + 2 * live_number (reverse ys)
    flag_first true = refl
    flag_first false = refl

pub number_room : (ys : List Bool) {spaces : ℕ} → length ys < spaces → 2 * live_number (reverse ys) + 1 ≤ all_set spaces
unfolding live_number
number_room ys {spaces} h =
    omega (arith, number_most (reverse ys), all_set_more (length (reverse ys) + 1) spaces (omega (arith, length-reverse ys)), one_more (length (reverse ys)))
  where
    one_more : (n : ℕ) → all_set (n + 1) ≡ 1 + 2 * all_set n
    one_more n = rw (add-one n) refl

-- the first k flags of the number n are set, and m has the others
pub record Flagging (spaces n : ℕ) (live : List Bool) (m k : ℕ) : Type 0 where
  pub within : k ≤ spaces
  pub long : length live ≡ spaces
  pub done : (j : ℕ) → j < k → get_or live j false ≡ get_or (live_flags spaces n) j false
  pub left : live_flags (spaces - k) m ≡ drop k (live_flags spaces n)

pub flag_none : (spaces n : ℕ) (live : List Bool) → length live ≡ spaces → Flagging spaces n live n 0
flag_none spaces n live e = record { within = omega arith; long = e; done = λ j h. absurd (omega arith); left = let z : spaces - 0 ≡ spaces = omega arith in ap (λ (k : ℕ). live_flags k n) z }

module _ {spaces n : ℕ} {live : List Bool} {m k : ℕ} (g : Flagging spaces n live m k) where
  flags_next : k < spaces → eqb (m % 2) 1 ∷ live_flags (spaces - (k + 1)) (m / 2) ≡ get_or (live_flags spaces n) k false ∷ drop (suc k) (live_flags spaces n)
  unfolding live_flags
  flags_next h =
      let e : spaces - k ≡ suc (spaces - (k + 1)) = omega arith in
      rw e at g.left ∙ drop-cons (live_flags spaces n) k false (omega (arith, flags_length spaces n))

  pub flag_turn : k < spaces → {is : Bool} → is ≡ eqb (m % 2) 1 → Flagging spaces n (set live k is) (m / 2) (k + 1)
  flag_turn h {is} e =
      let q = flags_next h in
      let head : eqb (m % 2) 1 ≡ get_or (live_flags spaces n) k false = ap (λ (l : List Bool). get_or l 0 false) q in
      let tail : live_flags (spaces - (k + 1)) (m / 2) ≡ drop (suc k) (live_flags spaces n) = ap (λ (l : List Bool). drop 1 l) q in
      record {
        within = omega arith;
        long = length-set live k is ∙ g.long;
        done = below_more (λ (j : ℕ). get_or (set live k is) j false ≡ get_or (live_flags spaces n) j false) k
            (λ j l. get_or-set_other live k j is false (λ u. omega arith) ∙ g.done j l)
            (get_or-set_same live k is false (omega (arith, g.long)) ∙ e ∙ head);
        left = tail ∙ ap (λ (i : ℕ). drop i (live_flags spaces n)) (sym (add-one k));
      }

  pub flag_end : spaces ≤ k → live ≡ live_flags spaces n
  flag_end h = ext_get_or false live (live_flags spaces n) (g.long ∙ sym (flags_length spaces n)) (λ j l. g.done j (omega (arith, g.long, g.within)))
