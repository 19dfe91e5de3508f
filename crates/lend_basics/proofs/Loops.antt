-- What a loop has done after k turns, once for each shape of loop: it builds a list, counts, tests every number.
use mathlib.Core.Path.{◌≡◌, refl, sym, subst, ◌∙◌}
use mathlib.Core.Bool.{Bool, true, false}
use mathlib.Core.List.{List}
use Prim.Native.Nat.{ℕ, ◌+◌, ◌≤◌, ◌<◌}
use native.Mathlib.Nat.{not-suc-le-zero, lt_irrefl}
use native.Mathlib.Numerals.{add-one}
use native.Mathlib.Omega.{arith}
use lib.Dec.{T}
use lib.ListN.{length, get_or, set, length-set}
use lib.Seq.{ext_get_or, get_or-set_same, get_or-set_other}
use borrow.Author.Count.{below_more}
use Rattle.lend.specs.Lists.{every, count, tabulate}
use Rattle.lend_basics.proofs.Bools.{is_true, is_false}
use Rattle.lend_basics.proofs.Lists.{length_tabulate, tabulate_at, each, every_of}

-- ── a list is built ──────────────────────────────────────────────────────
-- of n elements the first k are g's; d is what a read past the end gives
pub record Built {A : Type 0} (d : A) (n : ℕ) (g : ℕ → A) (out : List A) (k : ℕ) : Type 0 where
  pub long : length out ≡ n
  pub done : (j : ℕ) → j < k → get_or out j d ≡ g j

module _ {A : Type 0} (d : A) (n : ℕ) (g : ℕ → A) where
  pub built_none : (out : List A) → length out ≡ n → Built d n g out 0
  built_none out e = record { long = e; done = λ j h. absurd (not-suc-le-zero h) }

  pub built_more : (out : List A) (k : ℕ) (v : A) → Built d n g out k → k < n → v ≡ g k → Built d n g (set out k v) (k + 1)
  built_more out k v b h e = record {
    long = length-set out k v ∙ b.long;
    done = below_more (λ (j : ℕ). get_or (set out k v) j d ≡ g j) k
        (λ j l. get_or-set_other out k j v d (λ q. lt_irrefl k (subst (λ (m : ℕ). m < k) q l)) ∙ b.done j l)
        (get_or-set_same out k v d (omega (arith, b.long)) ∙ e);
  }

  pub built_all : (out : List A) (k : ℕ) → Built d n g out k → n ≤ k → out ≡ tabulate n g
  built_all out k b h =
      ext_get_or d out (tabulate n g) (b.long ∙ sym (length_tabulate g n))
      (λ j l. b.done j (omega (arith, b.long)) ∙ sym (tabulate_at g n j d (omega (arith, b.long))))

-- ── a list is changed in place ───────────────────────────────────────────
-- below k the elements are g's, from k on they are still the old ones
pub record Changed {A : Type 0} (d : A) (g : ℕ → A) (old out : List A) (k : ℕ) : Type 0 where
  pub long : length out ≡ length old
  pub done : (j : ℕ) → j < k → get_or out j d ≡ g j
  pub left : (j : ℕ) → k ≤ j → get_or out j d ≡ get_or old j d

module _ {A : Type 0} (d : A) (g : ℕ → A) (old : List A) where
  pub changed_none : Changed d g old old 0
  changed_none = record { long = refl; done = λ j h. absurd (not-suc-le-zero h); left = λ j h. refl }

  pub changed_more : (out : List A) (k : ℕ) (v : A) → Changed d g old out k → k < length old → v ≡ g k → Changed d g old (set out k v) (k + 1)
  changed_more out k v b h e = record {
    long = length-set out k v ∙ b.long;
    done = below_more (λ (j : ℕ). get_or (set out k v) j d ≡ g j) k
        (λ j l. get_or-set_other out k j v d (λ q. lt_irrefl k (subst (λ (m : ℕ). m < k) q l)) ∙ b.done j l)
        (get_or-set_same out k v d (omega (arith, b.long)) ∙ e);
    left = λ j l. get_or-set_other out k j v d (λ q. lt_irrefl k (omega arith)) ∙ b.left j (omega arith);
  }

  -- a turn that has nothing to change
  pub changed_skip : (out : List A) (k : ℕ) → Changed d g old out k → get_or old k d ≡ g k → Changed d g old out (k + 1)
  changed_skip out k b e = record {
    long = b.long;
    done = below_more (λ (j : ℕ). get_or out j d ≡ g j) k b.done (b.left k (omega arith) ∙ e);
    left = λ j l. b.left j (omega arith);
  }

  changed_all : (out : List A) (k : ℕ) → Changed d g old out k → length old ≤ k → out ≡ tabulate (length old) g
  changed_all out k b h =
      ext_get_or d out (tabulate (length old) g) (b.long ∙ sym (length_tabulate g (length old)))
      (λ j l. b.done j (omega (arith, b.long)) ∙ sym (tabulate_at g (length old) j d (omega (arith, b.long))))

  -- the same, where the length is known
  pub changed_to : (n : ℕ) (out : List A) (k : ℕ) → Changed d g old out k → length old ≡ n → n ≤ k → out ≡ tabulate n g
  changed_to n out k b e h = rw (← e) (changed_all out k b (omega arith))

-- ── numbers are counted ──────────────────────────────────────────────────
-- n of the first k numbers pass the test
pub record Counted (t : ℕ → Bool) (n k : ℕ) : Type 0 where
  pub is : n ≡ count k t
  pub small : n ≤ k

pub counted_none : (t : ℕ → Bool) → Counted t 0 0
unfolding count
counted_none t = record { is = refl; small = omega arith }

module _ (t : ℕ → Bool) (n k : ℕ) (c : Counted t n k) where
  pub counted_yes : t k ≡ true → Counted t (n + 1) (k + 1)
  unfolding count
  counted_yes e = record { is = rw (add-one k, e) (omega (arith, c.is)); small = omega (arith, c.small) }

  pub counted_no : t k ≡ false → Counted t n (k + 1)
  unfolding count
  counted_no e = record { is = rw (add-one k, e) (omega (arith, c.is)); small = omega (arith, c.small) }

pub counted_all : (t : ℕ → Bool) (n k : ℕ) {m : ℕ} → Counted t n k → k ≡ m → n ≡ count m t
counted_all t n k c e = rw (← e) c.is

-- ── every number is tested ───────────────────────────────────────────────
-- the test passes at the first k numbers
pub record Tested (t : ℕ → Bool) (k : ℕ) : Type 0 where
  pub all : every k t ≡ true

module _ (t : ℕ → Bool) where
  pub tested_none : Tested t 0
  unfolding every
  tested_none = record { all = refl }

  pub tested_more : (k : ℕ) → Tested t k → t k ≡ true → Tested t (k + 1)
  unfolding every
  tested_more k a e = record { all = rw (add-one k, e, a.all) }

  -- one that fails settles it
  pub tested_not : (n k : ℕ) → k < n → t k ≡ false → every n t ≡ false
  tested_not n k l e = is_false (every n t) (λ h. let x : T (t k) = each n t h k l in (rw e at x))

  pub tested_all : (n k : ℕ) → Tested t k → n ≤ k → every n t ≡ true
  tested_all n k a l = is_true (every n t) (every_of n t (λ j m. each k t (rw a.all tt) j (omega arith)))
