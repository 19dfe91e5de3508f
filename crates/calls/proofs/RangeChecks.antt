-- The first checks of a call over ranges are those of the rules, over plain variables.
use mathlib.Core.Path.{◌≡◌, refl, sym, ap, ◌∙◌}
use mathlib.Core.Bool.{Bool, true, false, not, ◌||◌, cond}
use Prim.Native.Nat.{ℕ}
use lib.Dec.{eqb}
use borrow.Author.Tests.{eq-eqb, ne_eqb}
use Rattle.std.specs.declared.option.Option.{Option}
use Rattle.std.specs.declared.option.Option.TheVariants.{Some, None}
use Rattle.std.specs.declared.result.Result.{Result}
use Rattle.std.specs.declared.result.Result.TheVariants.{Ok, Err}
use Rattle.std.specs.Option.{ok_or}
use Rattle.lend.specs.declared.refusal.Refusal.{Refusal}
use Rattle.lend.specs.declared.refusal.Refusal.TheVariants.{Unsound, NoSpace, NotLive, BadRights, InvalidRange}
use Rattle.lend.specs.Sizes.{Sizes}
use Rattle.lend.specs.Tables.{Tables, alive}
use Rattle.lend.specs.SoundTest.{Tells}
use Rattle.lend.specs.Refusals.{number_of, answer_of}
use Rattle.lend.specs.Numbers.{no_space, bad_rights}
use Rattle.lend.specs.Ranges as rules
use Rattle.lend_code.specs.Ranges.{one_number, pair_number}
use Rattle.board.specs.Range.{range_meant}
use Rattle.board.specs.declared.range.Range.{Range}
use Rattle.calls.proofs.Refused.{not_done}

-- ── the tests that need no range ─────────────────────────────────────────
abbrev row : Bool → Bool → Bool → Bool → ℕ → ℕ
row t u v w rest = cond t 1 (cond u 3 (cond v 4 (cond w 6 rest)))

-- one that holds gives the number, whatever comes after
row_refused : (t u v w : Bool) (r : Refusal) (rest : ℕ) → number_of r ≡ row t u v w 0 → number_of r ≡ row t u v w rest
row_refused true u v w r rest e = e
row_refused false true v w r rest e = e
row_refused false false true w r rest e = e
row_refused false false false true r rest e = e
row_refused false false false false r rest e = absurd (not_done r e)

-- and where none holds, what comes after does
row_passed : (t u v w : Bool) (rest : ℕ) → 0 ≡ row t u v w 0 → rest ≡ row t u v w rest
row_passed true u v w rest e = absurd (not_done Unsound (sym e))
row_passed false true v w rest e = absurd (not_done NoSpace (sym e))
row_passed false false true w rest e = absurd (not_done NotLive (sym e))
row_passed false false false true rest e = absurd (not_done BadRights (sym e))
row_passed false false false false rest e = refl

-- ── the range of one space ───────────────────────────────────────────────
abbrev invalid_or : Option Range → Result Range Refusal
invalid_or x = ok_or x InvalidRange

-- t tells whether the board is sound
module _ (z : Sizes) (b : Tables) (s d : ℕ) (t live bad : Bool) (told : Tells z b t) (is-live : live ≡ alive b.live s) (is-bad : bad ≡ bad_rights d) where
  pub one_refused : (q : rules.Range) (r : Refusal) → number_of r ≡ row (not t) (no_space z s) (not live) bad 0 → number_of r ≡ one_number z b s q d
  unfolding one_number
  one_refused q r e =
      row_refused (not t) (no_space z s) (not live) bad r (cond (not (rules.is_valid q)) 7 0) e ∙ rw (told.as_test, is-live, is-bad)

  pub one_passed : (x : Option Range) (q : rules.Range) → range_meant x ≡ q → 0 ≡ row (not t) (no_space z s) (not live) bad 0
      → answer_of (invalid_or x) ≡ one_number z b s q d
  unfolding one_number
  one_passed x q is e =
      valid x
      ∙ (ap (λ (p : rules.Range). cond (not (rules.is_valid p)) 7 0) is
      ∙ (row_passed (not t) (no_space z s) (not live) bad (cond (not (rules.is_valid q)) 7 0) e ∙ rw (told.as_test, is-live, is-bad)))
    where
      valid : (x : Option Range) → answer_of (invalid_or x) ≡ cond (not (rules.is_valid (range_meant x))) 7 0
      valid None = refl
      valid (Some y) = refl

-- its pages
abbrev count_of : Result Range Refusal → ℕ
count_of (Ok r) = r.count
count_of (Err r) = 0

-- ── two ranges ───────────────────────────────────────────────────────────
-- the tests of the ranges
abbrev both : rules.Range → rules.Range → ℕ
both q p = cond (not (rules.is_valid q) || not (rules.is_valid p)) 7 (cond (not (eqb (rules.page_count q) (rules.page_count p))) 8 0)

-- u and v tell of the giver's space and of the taker's whether they are live
module _ (z : Sizes) (b : Tables) (from to d : ℕ) (t u v bad : Bool) (told : Tells z b t) (is-u : u ≡ alive b.live from) (is-v : v ≡ alive b.live to)
    (is-bad : bad ≡ bad_rights d) where
  abbrev past : Bool
  past = no_space z from || no_space z to

  abbrev dead : Bool
  dead = not u || not v

  pub pair_refused : (q p : rules.Range) (r : Refusal) → number_of r ≡ row (not t) past dead bad 0 → number_of r ≡ pair_number z b from q to p d
  unfolding pair_number
  pair_refused q p r e = row_refused (not t) past dead bad r (both q p) e ∙ rw (told.as_test, is-u, is-v, is-bad)

  -- what the ranges give is the number where no other test holds
  numbered : (q p : rules.Range) → 0 ≡ row (not t) past dead bad 0 → (n : ℕ) → n ≡ both q p → n ≡ pair_number z b from q to p d
  unfolding pair_number
  numbered q p passed n e = e ∙ (row_passed (not t) past dead bad (both q p) passed ∙ rw (told.as_test, is-u, is-v, is-bad))

  pub pair_given : (x : Option Range) (q p : rules.Range) → range_meant x ≡ q → 0 ≡ row (not t) past dead bad 0 → (r : Refusal) → Err r ≡ invalid_or x
      → number_of r ≡ pair_number z b from q to p d
  pair_given x q p is-q passed r e = numbered q p passed (number_of r) (go x e ∙ ap (λ (o : rules.Range). both o p) is-q)
    where
      go : (x : Option Range) → Err r ≡ invalid_or x → number_of r ≡ both (range_meant x) p
      go None e = ap answer_of e
      go (Some a) e = absurd (not_done r (ap answer_of e))

  module _ (x y : Option Range) (q p : rules.Range) (is-q : range_meant x ≡ q) (is-p : range_meant y ≡ p) (passed : 0 ≡ row (not t) past dead bad 0) where
    two : (n : ℕ) → n ≡ both (range_meant x) (range_meant y) → n ≡ pair_number z b from q to p d
    two n e = numbered q p passed n (e ∙ (ap (both (range_meant x)) is-p ∙ ap (λ (o : rules.Range). both o p) is-q))

    pub pair_taken : (a : Range) (r : Refusal) → Ok a ≡ invalid_or x → Err r ≡ invalid_or y → number_of r ≡ pair_number z b from q to p d
    pair_taken a r h e = two (number_of r) (go x y h e)
      where
        go : (x y : Option Range) → Ok a ≡ invalid_or x → Err r ≡ invalid_or y → number_of r ≡ both (range_meant x) (range_meant y)
        go None y h e = absurd (not_done InvalidRange (sym (ap answer_of h)))
        go (Some i) None h e = ap answer_of e
        go (Some i) (Some j) h e = absurd (not_done r (ap answer_of e))

    -- both ranges are valid
    module _ (a c : Range) (is-a : Ok a ≡ invalid_or x) (is-c : Ok c ≡ invalid_or y) where
      counts : both (range_meant x) (range_meant y) ≡ cond (not (eqb a.count c.count)) 8 0
      counts = go x y is-a is-c
        where
          go : (x y : Option Range) → Ok a ≡ invalid_or x → Ok c ≡ invalid_or y → both (range_meant x) (range_meant y) ≡ cond (not (eqb a.count c.count)) 8 0
          go None y e h = absurd (not_done InvalidRange (sym (ap answer_of e)))
          go (Some i) None e h = absurd (not_done InvalidRange (sym (ap answer_of h)))
          go (Some i) (Some j) e h = ap (λ (n : ℕ). cond (not (eqb n j.count)) 8 0) (ap count_of (sym e)) ∙ ap (λ (n : ℕ). cond (not (eqb a.count n)) 8 0) (ap count_of (sym h))

      pub pair_unequal : (a.count ≡ c.count → ⊥) → 8 ≡ pair_number z b from q to p d
      pair_unequal n = two 8 (sym (counts ∙ rw (ne_eqb a.count c.count n)))

      pub pair_passed : a.count ≡ c.count → 0 ≡ pair_number z b from q to p d
      pair_passed e = two 0 (sym (counts ∙ rw (eq-eqb a.count c.count e)))
