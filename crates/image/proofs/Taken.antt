-- Elements that are read one by one, each of which may be none: what a loop of such reads has done, and what it answers.
use Prim.Native.Nat.{ℕ, ◌+◌, ◌≤◌, ◌<◌}
use mathlib.Core.Path.{◌≡◌, refl, ap}
use mathlib.Core.Bool.{Bool, true, false, cond}
use mathlib.Core.List.{List}
use native.Mathlib.Omega.{arith}
use lib.ListN.{length, set}
use Rattle.std.specs.declared.option.Option.{Option}
use Rattle.std.specs.declared.option.Option.TheVariants.{Some, None}
use Rattle.lend.specs.Lists.{every, tabulate}
use Rattle.lend_basics.proofs.Loops.{Built, built_none, built_more, built_all, Tested, tested_none, tested_more, tested_not, tested_all}

abbrev or_else : {A : Type 0} → A → Option A → A
or_else d None = d
or_else d (Some x) = x

abbrev how_many : {A : Type 0} → Option A → ℕ
how_many None = 0
how_many (Some x) = 1

-- where a read that a test allows gives one, the test passed, and it is that one
pub read_as : {A : Type 0} (b : Bool) (v x : A) → Some v ≡ cond b (Some x) None → (b ≡ true) × (v ≡ x)
read_as true v x e = (refl, ap (or_else v) e)
read_as false v x e = let wrong : ◌≡◌ {A = ℕ} 1 0 = ap how_many e in absurd (omega (arith, wrong))

pub not_read : {A : Type 0} (b : Bool) (x : A) → None ≡ cond b (Some x) None → b ≡ false
not_read true x e = let wrong : ◌≡◌ {A = ℕ} 0 1 = ap how_many e in absurd (omega (arith, wrong))
not_read false x e = refl

-- of n elements the first k are read: each passed its test
pub record Taken {A : Type 0} (d : A) (n : ℕ) (t : ℕ → Bool) (g : ℕ → A) (out : List A) (k : ℕ) : Type 0 where
  pub built : Built d n g out k
  pub tested : Tested t k

module _ {A : Type 0} (d : A) (n : ℕ) (t : ℕ → Bool) (g : ℕ → A) where
  pub taken_none : (out : List A) → length out ≡ n → Taken d n t g out 0
  taken_none out e = record { built = built_none d n g out e; tested = tested_none t }

  pub taken_more : (out : List A) (k : ℕ) (v : A) → Taken d n t g out k → k < n → Some v ≡ cond (t k) (Some (g k)) None → Taken d n t g (set out k v) (k + 1)
  taken_more out k v b l e =
      let r = read_as (t k) v (g k) e in record {
        built = built_more d n g out k v b.built l r.1;
        tested = tested_more t k b.tested r.0;
      }

  pub taken_all : (out : List A) (k : ℕ) → Taken d n t g out k → n ≤ k → Some out ≡ cond (every n t) (Some (tabulate n g)) None
  taken_all out k b l = rw (tested_all t n k b.tested l) (ap Some (built_all d n g out k b.built l))

-- one that is none settles it
pub taken_not : {A : Type 0} (n : ℕ) (t : ℕ → Bool) (g : ℕ → A) (k : ℕ) → k < n → None ≡ cond (t k) (Some (g k)) None
    → None ≡ cond (every n t) (Some (tabulate n g)) None
taken_not n t g k l e = rw (tested_not t n k l (not_read (t k) (g k) e))
