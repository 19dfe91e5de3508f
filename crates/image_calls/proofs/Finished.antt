-- The last part of a call, by what the call on the board answered.
use Prim.Native.Nat.{ℕ}
use mathlib.Core.Path.{◌≡◌, refl, sym, ap, ◌∙◌}
use mathlib.Core.Bool.{Bool, true, false, not, cond}
use mir.Val.{bool_byte}
use mathlib.Core.List.{List, []}
use Rattle.std.specs.Result.{IsOkAnd, MatchResult}
use Rattle.std.specs.declared.result.Result.{Result}
use Rattle.std.specs.declared.result.Result.TheVariants.{Ok, Err}
use Rattle.lend.specs.declared.refusal.Refusal.{Refusal}
use Rattle.lend.specs.Sizes.{Sizes}
use Rattle.lend.specs.Tables.{Tables, State, alone}
use Rattle.lend.specs.Refusals.{answer_of}
use Rattle.lend.specs.Calls.{Call, Outcome, step}
use Rattle.lend.specs.Ranges.{RangeOutcome}
use Rattle.image.specs.Image.{board_from, written}
use Rattle.image.specs.Answered.{left, three_of, out_of, answer_to, finishing}
use Rattle.image.proofs.Answered.{answered_on, range_finished_refused, range_finished_done}
use Rattle.calls.specs.Answer.{emptied_of}
use Rattle.access.specs.Answers.{beside}
use Rattle.image_calls.specs.Fields.{fields_of, range_finished}

-- an answer whose value is told in three fields
abbrev pub filled : {A : Type 0} → (A → ℕ × ℕ × ℕ) → Result A Refusal → Result (ℕ × ℕ × ℕ) Refusal
filled f (Ok x) = Ok (f x)
filled f (Err r) = Err r

abbrev pub three : ℕ × ℕ × ℕ → List ℕ
three x = three_of x.0 x.1 x.2

module _ {A : Type 0} (f : A → ℕ × ℕ × ℕ) {P : A → ℕ × ℕ × ℕ → Type 0} (gives : (x : A) (y : ℕ × ℕ × ℕ) → P x y → y ≡ f x) where
  -- what `map` gives for it
  mapped : (r : Result A Refusal) {m : Result (ℕ × ℕ × ℕ) Refusal} → MatchResult r (λ x. IsOkAnd m (P x)) (λ e. m ≡ Err e) → m ≡ filled f r
  mapped (Ok x) {m = Ok y} p = ap Ok (gives x y p)
  mapped (Ok x) {m = Err e} p = absurd p
  mapped (Err r) p = p

filled_number : {A : Type 0} (f : A → ℕ × ℕ × ℕ) (r : Result A Refusal) → answer_of (filled f r) ≡ answer_of r
filled_number f (Ok x) = refl
filled_number f (Err r) = refl

-- a call on the board that was read, whose answer was told so
pub told_on : (z : Sizes) (call : Call) (image memory : List ℕ) {b : Tables} (o : Outcome) → b ≡ board_from z image → o ≡ step z (beside b memory) call
    → {A : Type 0} (f : A → ℕ × ℕ × ℕ) {P : A → ℕ × ℕ × ℕ → Type 0} → ((x : A) (y : ℕ × ℕ × ℕ) → P x y → y ≡ f x)
    → (r : Result A Refusal) (m : Result (ℕ × ℕ × ℕ) Refusal) → MatchResult r (λ x. IsOkAnd m (P x)) (λ e. m ≡ Err e)
    → answer_of r ≡ o.reply.number → three (fields_of (filled f r)) ≡ out_of call o.reply
    → {n : ℕ} {image' memory' out' : List ℕ} → left n image' [] out' ≡ finishing z o.state.board (answer_of m) (fields_of m).0 (fields_of m).1 (fields_of m).2 image
    → memory' ≡ o.state.memory
    → left n image' memory' out' ≡ answer_to z call image memory
told_on z call image memory o e is f gives r m map-is number-is out-is {n} {image'} {memory'} {out'} finish-is mem-is =
    let m-is = mapped f gives r map-is in
    let finish-is' : left n image' [] out' ≡ finishing z o.state.board o.reply.number (fields_of (filled f r)).0 (fields_of (filled f r)).1 (fields_of (filled f r)).2 image =
    rw (← number-is, ← filled_number f r, ← m-is) finish-is in
    answered_on z call _ _ _ o e is _ _ _ _ _ _ _ finish-is' mem-is out-is

-- one field, and none
pub one_field : (r : Result ℕ Refusal) → three (fields_of (filled (λ n. (n, 0, 0)) r)) ≡ three_of (emptied_of r) 0 0
one_field (Ok n) = refl
one_field (Err r) = refl

pub no_field : (r : Result (Unit {0}) Refusal) → three (fields_of (filled (λ x. (0, 0, 0)) r)) ≡ three_of 0 0 0
no_field (Ok x) = refl
no_field (Err r) = refl

-- the number of start
pub other_length : (b : Bool) → bool_byte (not b) ≡ cond b 0 1
other_length true = refl
other_length false = refl

-- ── calls over ranges ────────────────────────────────────────────────────
-- the number and the out fields of an outcome
abbrev pub told : RangeOutcome → ℕ × List ℕ
told o = (o.number, three_of o.done o.offset o.emptied)

module _ (z : Sizes) (o : RangeOutcome) (image : List ℕ) {n : ℕ × List ℕ} (e : n ≡ told o) where
  -- no board's image is left as it is
  pub run_refused : n.0 ≡ 1 → left n.0 image [] n.1 ≡ range_finished z o image
  run_refused is = rw (is, e) (range_finished_refused z _ _ _ _ _ _ (sym (ap (λ (x : ℕ × List ℕ). x.0) e) ∙ is))

  -- with any other number it is written
  pub run_done : {t : Tables} {image' : List ℕ} → alone t ≡ o.state → (n.0 ≡ 1 → ⊥) → image' ≡ written z image t → left n.0 image' [] n.1 ≡ range_finished z o image
  run_done s h w = rw e (range_finished_done z _ _ _ _ _ _ _ (λ q. h (ap (λ (x : ℕ × List ℕ). x.0) e ∙ q)) (w ∙ ap (λ (x : State). written z image x.board) s))
