-- What one line does: a comment, and any other.
use Prim.Native.Nat.{ℕ}
use mathlib.Core.Path.{◌≡◌, ap}
use mathlib.Core.Bool.{Bool, true, false}
use mathlib.Core.List.{List}
use Rattle.std.specs.Prelude.{Some, None}
use Rattle.lend.specs.Sizes.{Sizes}
use Rattle.lend.specs.Tables.{State}
use Rattle.lend.specs.Calls.{Outcome, step}
use Rattle.text.specs.declared.Request.{Request}
use Rattle.text.specs.Request.{request_of, is_comment, call_of}
use Rattle.script.specs.declared.Said.TheVariants.{Garbled}
use Rattle.script.specs.Script.{Turn, silent, spoken, judged, turn}

module _ (z : Sizes) (st : State) where
  -- a comment, told by a test
  pub turn_comment : (line : List ℕ) {b : Bool} → b ≡ is_comment line → b ≡ true → silent st ≡ turn z st line
  unfolding turn
  turn_comment line e t = rw (← e, t)

  -- any other line, read and judged
  pub turn_request : (line : List ℕ) {b : Bool} {q : Request} {t : Turn} → b ≡ is_comment line → b ≡ false → Some q ≡ request_of line
      → t ≡ spoken (Some q) (judged z st (Some q)) → t ≡ turn z st line
  unfolding turn
  turn_request line e f g h = rw (← e, f, ← g) h

  -- and one that asks for nothing
  pub turn_garbled : (line : List ℕ) {b : Bool} → b ≡ is_comment line → b ≡ false → None ≡ request_of line
      → record { said = Garbled; state = st } ≡ turn z st line
  unfolding turn judged
  turn_garbled line e f g = rw (← e, f, ← g)

  -- a request is the call that it is, made by the rules
  pub called : (q : Request) {o : Outcome} → o ≡ step z st (call_of q) → spoken (Some q) o ≡ spoken (Some q) (judged z st (Some q))
  unfolding judged
  called q f = ap (spoken (Some q)) f
