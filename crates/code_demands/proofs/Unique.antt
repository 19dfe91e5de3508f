-- Each view of a result that the contracts use loses nothing, so each contract admits one result.
use Prim.Native.Nat.{ℕ}
use mathlib.Core.Path.{◌≡◌, refl, sym, ap, ◌∙◌}
use mathlib.Core.Bool.{Bool, cond}
use mathlib.Core.List.{List}
use lib.Dec.{eqb}
use Rattle.std.specs.declared.option.Option.{Option}
use Rattle.std.specs.declared.option.Option.TheVariants.{Some, None}
use Rattle.std.specs.declared.result.Result.{Result}
use Rattle.std.specs.declared.result.Result.TheVariants.{Ok, Err}
use Rattle.lend.specs.declared.refusal.Refusal.{Refusal}
use Rattle.lend.specs.Sizes.{Sizes}
use Rattle.lend.specs.Tables.{Tables, State}
use Rattle.lend.specs.SoundTest.{Tells}
use Rattle.lend.specs.Refusals.{number_of, refusal_of, refusal_of_number, refusal_not_done, answer_of}
use Rattle.lend.specs.Calls.{Outcome}
use Rattle.lend.specs.Ranges as rules
use Rattle.lend.specs.Ranges.{RangeOutcome}
use Rattle.lend_basics.proofs.Unique.{one_result}
use Rattle.image.specs.Answered.{Left, left}
use Rattle.board.specs.declared.lines.Lookup.{Lookup}
use Rattle.board.specs.declared.range.Range.{Range}
use Rattle.board.specs.declared.sound.Checked.{Checked}
use Rattle.board.specs.declared.Board.{Board}
use Rattle.board.specs.Board.{tables}
use Rattle.board.specs.Range.{range_meant, range_back, range_back_meant}
use Rattle.board.proofs.Boards.{same_board}
use Rattle.calls.specs.declared.progress.Progress.{Progress}
use Rattle.calls.specs.Answer.{outcome, emptied_of}
use Rattle.calls.specs.Progress.{refused_number, refused_offset, range_outcome, range_state}
use Rattle.access.specs.declared.translate.Translation.{Translation}
use Rattle.access.specs.Answers.{beside, translated, byte_of, loaded, stored}

module _ {spaces pages slots places : ℕ} where
  -- a function whose contract is `tables r ≡ ..`
  pub one_board : {meaning : Tables} {r s : Board spaces pages slots places} → tables r ≡ meaning → tables s ≡ meaning → r ≡ s
  one_board {r = r} {s = s} v w = same_board r s (v ∙ sym w)

-- `sound`: one answer to whether a board is sound
pub one_told : {z : Sizes} {b : Tables} {r s : Bool} → Tells z b r → Tells z b s → r ≡ s
one_told v w = v.as_test ∙ sym w.as_test

-- `lookup`, whose contract gives the frame and the links: there is no other field
pub one_lookup : {end far : ℕ} {r s : Lookup} → r.frame ≡ end → r.links ≡ far → s.frame ≡ end → s.links ≡ far → r ≡ s
one_lookup rf rl sf sl = λ i. record { frame = (rf ∙ sym sf) i; links = (rl ∙ sym sl) i }

-- `checked`, whose contract gives whether the board is sound and the frames of its pages: there is no other field
pub one_checked : {n : ℕ} {is : Bool} {ends : List ℕ} {r s : Checked n} → r.sound ≡ is → r.frames ≡ ends → s.sound ≡ is → s.frames ≡ ends → r ≡ s
one_checked rs rf ss sf = λ i. record { sound = (rs ∙ sym ss) i; frames = (rf ∙ sym sf) i }

-- a function whose contract is `result ≡ ..`, as those of `examine`, `check` and `tally` are
pub one_value : {A : Type 0} {meaning r s : A} → r ≡ meaning → s ≡ meaning → r ≡ s
one_value v w = v ∙ sym w

-- ── answers ──────────────────────────────────────────────────────────────
-- the answer that a number and a value make: a number other than 0 is a refusal's
pub answer : {A : Type 0} → ℕ → A → Result A Refusal
answer n x = cond (eqb n 0) (Ok x) (Err (refusal_of n))

refused_answer : {A : Type 0} (r : Refusal) (x : A) → answer (number_of r) x ≡ Err r
unfolding answer
refused_answer r x = rw (refusal_not_done r) (ap Err (refusal_of_number r))

emptied_back : (r : Result ℕ Refusal) → answer (answer_of r) (emptied_of r) ≡ r
unfolding answer
emptied_back (Ok n) = refl
emptied_back (Err r) = refused_answer r 0

-- `outcome` loses nothing: the answer is in the reply, and the board is the state's
pub answer_of_outcome : (r : Result ℕ Refusal) (t : Tables)
    → (answer (outcome r t).reply.number (outcome r t).reply.emptied ≡ r) × ((outcome r t).state.board ≡ t)
answer_of_outcome r t = (emptied_back r, refl)

-- a call whose contract is `outcome r (tables b) ≡ ..`: the answer, and all of the board after it
pub one_answer : {meaning : Outcome} {r s : Result ℕ Refusal} {t u : Tables} → outcome r t ≡ meaning → outcome s u ≡ meaning → (r ≡ s) × (t ≡ u)
one_answer {r = r} {s = s} v w =
    let e = v ∙ sym w in
    (sym (emptied_back r) ∙ (ap (λ (o : Outcome). answer o.reply.number o.reply.emptied) e ∙ emptied_back s), ap (λ (o : Outcome). o.state.board) e)

-- a call over a range, whose contract gives what the first checks say and `range_outcome z r (tables b) ≡ ..`
pub range_back_of : ℕ → RangeOutcome → Result Progress Refusal
range_back_of first o = answer first (record { done = o.done; refused = cond (eqb o.number 0) None (Some (o.offset, refusal_of o.number)); emptied = o.emptied })

range_backs : (z : Sizes) (r : Result Progress Refusal) (t : Tables) → range_back_of (answer_of r) (range_outcome z r t) ≡ r
unfolding range_back_of answer
range_backs z (Ok p) t = ap (λ (x : Option (ℕ × Refusal)). Ok (record { done = p.done; refused = x; emptied = p.emptied })) (at p.refused)
  where
    at : (x : Option (ℕ × Refusal)) → cond (eqb (refused_number x) 0) None (Some (refused_offset z.pages x, refusal_of (refused_number x))) ≡ x
    at None = refl
    at (Some y) = rw (refusal_not_done y.1) (ap (λ (r : Refusal). Some (y.0, r)) (refusal_of_number y.1))
range_backs z (Err r) t = refused_answer r _

pub range_answer_of_range_outcome : (z : Sizes) (r : Result Progress Refusal) (t : Tables)
    → (range_back_of (answer_of r) (range_outcome z r t) ≡ r) × ((range_outcome z r t).state.board ≡ t)
range_answer_of_range_outcome z r t = (range_backs z r t, ap (λ (x : State). x.board) (sym (range_state z r t)))

pub one_range_answer : (z : Sizes) {first : ℕ} {meaning : RangeOutcome} {r s : Result Progress Refusal} {t u : Tables}
    → answer_of r ≡ first → range_outcome z r t ≡ meaning → answer_of s ≡ first → range_outcome z s u ≡ meaning → (r ≡ s) × (t ≡ u)
one_range_answer z {r = r} {s = s} {t = t} {u = u} f v g w =
    let e = v ∙ sym w in (
      sym (range_backs z r t) ∙ ((λ i. range_back_of ((f ∙ sym g) i) (e i)) ∙ range_backs z s u),
      ap (λ (x : State). x.board) (range_state z r t ∙ (ap (λ (o : RangeOutcome). o.state) e ∙ sym (range_state z s u))),
    )

-- and the range that a base and a size name
pub one_range : {meaning : rules.Range} {r s : Option Range} → range_meant r ≡ meaning → range_meant s ≡ meaning → r ≡ s
one_range = one_result range_meant range_back range_back_meant

-- a call whose contract is `translated r (tables b) ≡ ..`
pub translation_back : Outcome → Result Translation Refusal
translation_back o = answer o.reply.number (record { address = o.reply.address; hit = o.reply.hit; links = o.reply.links })

translation_backs : (r : Result Translation Refusal) (t : Tables) → translation_back (translated r t) ≡ r
unfolding translation_back answer
translation_backs (Ok x) t = refl
translation_backs (Err r) t = refused_answer r _

pub translated_of_translated : (r : Result Translation Refusal) (t : Tables) → (translation_back (translated r t) ≡ r) × ((translated r t).state.board ≡ t)
translated_of_translated r t = (translation_backs r t, refl)

pub one_translation : {meaning : Outcome} {r s : Result Translation Refusal} {t u : Tables} → translated r t ≡ meaning → translated s u ≡ meaning → (r ≡ s) × (t ≡ u)
one_translation {r = r} {s = s} {t = t} {u = u} v w =
    let e = v ∙ sym w in
    (sym (translation_backs r t) ∙ (ap translation_back e ∙ translation_backs s u), ap (λ (o : Outcome). o.state.board) e)

-- load: the memory is lent for reading and is the same
byte_back : (r : Result ℕ Refusal) → answer (answer_of r) (byte_of r) ≡ r
unfolding answer
byte_back (Ok n) = refl
byte_back (Err r) = refused_answer r 0

pub loaded_of_loaded : (r : Result ℕ Refusal) (t : Tables) (m : List ℕ)
    → (answer (loaded r t m).reply.number (loaded r t m).reply.byte ≡ r) × ((loaded r t m).state ≡ beside t m)
loaded_of_loaded r t m = (byte_back r, refl)

pub one_load : {meaning : Outcome} {r s : Result ℕ Refusal} {t u : Tables} {m : List ℕ} → loaded r t m ≡ meaning → loaded s u m ≡ meaning → (r ≡ s) × (t ≡ u)
one_load {r = r} {s = s} v w =
    let e = v ∙ sym w in
    (sym (byte_back r) ∙ (ap (λ (o : Outcome). answer o.reply.number o.reply.byte) e ∙ byte_back s), ap (λ (o : Outcome). o.state.board) e)

-- store: the answer, the board, and every byte of memory as the call leaves it
unit_back : (r : Result (Unit {0}) Refusal) → answer (answer_of r) tt ≡ r
unfolding answer
unit_back (Ok x) = refl
unit_back (Err r) = refused_answer r tt

-- the row of checks, which hands back no value
pub one_check : {meaning : ℕ} {r s : Result (Unit {0}) Refusal} → answer_of r ≡ meaning → answer_of s ≡ meaning → r ≡ s
one_check {r = r} {s = s} v w = sym (unit_back r) ∙ (ap (λ (n : ℕ). answer n (tt {0})) (v ∙ sym w) ∙ unit_back s)

pub stored_of_stored : (r : Result (Unit {0}) Refusal) (t : Tables) (m : List ℕ)
    → (answer (stored r t m).reply.number (tt {0}) ≡ r) × ((stored r t m).state ≡ beside t m)
stored_of_stored r t m = (unit_back r, refl)

pub one_store : {meaning : Outcome} {r s : Result (Unit {0}) Refusal} {t u : Tables} {m n : List ℕ} → stored r t m ≡ meaning → stored s u n ≡ meaning
    → (r ≡ s) × (t ≡ u) × (m ≡ n)
one_store {r = r} {s = s} v w =
    let e = v ∙ sym w in (
      sym (unit_back r) ∙ (ap (λ (o : Outcome). answer o.reply.number (tt {0})) e ∙ unit_back s),
      ap (λ (o : Outcome). o.state.board) e,
      ap (λ (o : Outcome). o.state.memory) e,
    )

-- a function that hands nothing back, as the one that writes a board's image: every byte at exit
pub one_bytes : {meaning i j : List ℕ} → i ≡ meaning → j ≡ meaning → i ≡ j
one_bytes = one_result (λ x. x) (λ x. x) (λ x. refl)

-- a call from C: the number that comes back, and every byte of image, memory and out at exit
pub one_left : {meaning : Left} {r s : ℕ} {i j m n o p : List ℕ} → left r i m o ≡ meaning → left s j n p ≡ meaning
    → (r ≡ s) × (i ≡ j) × (m ≡ n) × (o ≡ p)
one_left hr hs =
    let e = hr ∙ sym hs in
    (ap (λ (l : Left). l.number) e, ap (λ (l : Left). l.image) e, ap (λ (l : Left). l.memory) e, ap (λ (l : Left). l.out) e)
