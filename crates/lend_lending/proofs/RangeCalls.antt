-- The calls over ranges are made of one-page calls: they too keep a sound board sound, and memory as long as it was.
use mathlib.Core.Path.{◌≡◌, ap, ◌∙◌}
use mathlib.Core.Bool.{Bool, true, false, cond}
use Prim.Native.Nat.{ℕ, zero, suc, ◌≤◌}
use lib.Dec.{eqb}
use Rattle.lend.specs.Sizes.{Sizes}
use Rattle.lend.specs.Tables.{State}
use Rattle.lend.specs.Sound.{Sound}
use Rattle.lend.specs.Calls.{Call, Outcome, step}
use Rattle.lend.specs.Ranges.{RangeCall, range_number, range_pages, page_call, Progress, page_made, page_done, page_passed, range_to, range_done, range_refused, range_step}
use Rattle.lend_laws.proofs.Accepted.{refused, step_number}
use Rattle.lend_lending.proofs.Always.{step_sound}

-- a call that reports another number than 0 has left the state as it was
pub passed_state : (z : Sizes) (st : State) (c : Call) → ((step z st c).reply.number ≡ 0 → ⊥) → (step z st c).state ≡ st
passed_state z st c h = ap (λ (o : Outcome). o.state) (refused z st c (λ e. h (step_number z st c ∙ e)))

-- what holds of the state before a page and of the state after its call holds of the state it leaves
made : (P : State → Type 0) (p : Progress) (i : ℕ) (o : Outcome) → P p.state → P o.state → P (page_made p i o).state
made P p i o before after = go (eqb o.reply.number 0)
  where
    go : (t : Bool) → P (cond t (page_done p o.state) (page_passed p o.reply.number i)).state
    go true = after
    go false = before

module _ (z : Sizes) (P : State → Type 0) (keeps : (st : State) → P st → (c : Call) → P (step z st c).state) (st : State) (h : P st) (c : RangeCall) where
  pages_keep : (n : ℕ) → P (range_to z st c n).state
  unfolding range_to
  pages_keep zero = h
  pages_keep (suc n) =
      made P (range_to z st c n) n (step z (range_to z st c n).state (page_call z c n)) (pages_keep n)
      (keeps (range_to z st c n).state (pages_keep n) (page_call z c n))

  -- what a one-page call keeps, a call over a range keeps
  range_keeps : P (range_step z st c).state
  unfolding range_step
  range_keeps = go (eqb (range_number z st c) 0)
    where
      go : (t : Bool) → P (cond t (range_done st (range_to z st c (range_pages z c))) (range_refused st (range_number z st c))).state
      go true = pages_keep (range_pages z c)
      go false = h

-- a call over a range, done or refused, leaves a sound board sound
pub range_sound : (z : Sizes) → 1 ≤ z.pages → (st : State) → Sound z st.board → (c : RangeCall) → Sound z (range_step z st c).state.board
range_sound z some_page st sound c = range_keeps z (λ x. Sound z x.board) (step_sound z some_page) st sound c
