-- A call over a range that passes its first checks leaves what its one-page calls leave, made one after the other.
use mathlib.Core.Path.{◌≡◌, refl, sym, ap, ◌∙◌}
use mathlib.Core.Bool.{Bool, true, false, cond}
use Prim.Native.Nat.{ℕ, zero, suc, ◌+◌}
use native.Mathlib.Nat.{add-zero, zero-add, add-suc, suc-add}
use lib.Dec.{eqb}
use borrow.Author.Tests.{eq-eqb, eqb-false}
use Rattle.lend.specs.Sizes.{Sizes}
use Rattle.lend.specs.Lists.{tabulate_from}
use Rattle.lend.specs.Tables.{State}
use Rattle.lend.specs.Calls.{Call, step, steps}
use Rattle.lend.specs.Ranges.{RangeCall, range_number, range_pages, page_call, Progress, page_done, page_passed, page_made, range_to, range_step}
use Rattle.lend_lending.proofs.RangeCalls.{passed_state}
use Rattle.lend_demands.specs.RangeSteps.{page_calls}

-- after a page, done or passed over, the state is the one that its call leaves
page_state : (z : Sizes) (p : Progress) (i : ℕ) (c : Call) → (page_made p i (step z p.state c)).state ≡ (step z p.state c).state
page_state z p i c = go (eqb (step z p.state c).reply.number 0) refl
  where
    go : (t : Bool) → eqb (step z p.state c).reply.number 0 ≡ t
        → (cond t (page_done p (step z p.state c).state) (page_passed p (step z p.state c).reply.number i)).state ≡ (step z p.state c).state
    go true e = refl
    go false e = sym (passed_state z p.state c (eqb-false (step z p.state c).reply.number 0 e))

module _ (z : Sizes) (st : State) (c : RangeCall) where
  -- n pages on from page i
  pages_steps : (i n : ℕ) → steps z (range_to z st c i).state (tabulate_from i n (page_call z c)) ≡ (range_to z st c (i + n)).state
  unfolding steps tabulate_from range_to
  pages_steps i zero = rw (add-zero i)
  pages_steps i (suc n) =
      ap (λ (x : State). steps z x (tabulate_from (suc i) n (page_call z c))) (sym (page_state z (range_to z st c i) i (page_call z c i)))
      ∙ (pages_steps (suc i) n ∙ ap (λ (k : ℕ). (range_to z st c k).state) (suc-add i n ∙ sym (add-suc i n)))

  pub range_steps : range_number z st c ≡ 0 → (range_step z st c).state ≡ steps z st (page_calls z c)
  unfolding range_step range_to page_calls
  range_steps e =
      rw (eq-eqb (range_number z st c) 0 e)
      (sym (pages_steps 0 (range_pages z c) ∙ ap (λ (k : ℕ). (range_to z st c k).state) (zero-add (range_pages z c))))
