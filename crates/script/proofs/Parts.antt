-- The first bytes of an input and of a listing; a listing that was read, and one that was refused; and the ends of both runs.
use Prim.Native.Nat.{ℕ, ◌<◌, ◌≤◌}
use mathlib.Core.Path.{◌≡◌, sym}
use mathlib.Core.List.{List}
use native.Mathlib.Omega.{arith}
use lib.ListN.{length, take}
use lib.Seq.{take_all}
use Rattle.std.proofs.Common.{Option, None, Some, Bor, inl, inr}
use Rattle.std.specs.Option.{unwrap_or}
use Rattle.std.specs.Slice.{IsGetRangeResult}
use borrow.Author.Tests.{eq-eqb, ne_eqb}
use Rattle.lend.specs.Sizes.{Sizes}
use Rattle.lend.specs.Tables.{Tables}
use Rattle.lend.specs.Start.{start_board}
use Rattle.text.specs.declared.write.Writer.{Writer}
use Rattle.text.specs.Write.{last_position, Wrote, refused_line}
use Rattle.text.specs.Writer.{writes}
use Rattle.listing.specs.Read.{Answer, reading}
use Rattle.script.specs.Script.{input_limit, output_of, script_output}
use Rattle.script.specs.From.{output_by, from_output}
use Rattle.script.specs.Bound.{output_bound}
use Rattle.script.specs.Run.{enough, Ran, RanFrom}
use Rattle.script.proofs.Bound.{enough_most, script_length, from_length}
use Rattle.script.proofs.Runs.{told_short, told_whole}

-- the first bytes of a slice: as many as are read, or all where it is shorter
pub record FirstOf (s f : List ℕ) : Type 0 where
  pub bytes : f ≡ take input_limit s
  pub within : length f ≤ input_limit

pub first_of : (s : Bor (List ℕ)) (r : Option (Bor (List ℕ))) → IsGetRangeResult s.now 0 input_limit r → FirstOf s.now (unwrap_or r s).now
first_of s None h = elim h.0 [
  | inl e ↦ absurd (omega arith)
  | inr e ↦ record { bytes = sym (take_all input_limit s.now (omega arith)); within = omega arith }
]
first_of s (Some x) h = record { bytes = h.0.2; within = omega (arith, h.0.3) }

module _ (z : Sizes) where
  -- ── from the answer to a listing ─────────────────────────────────────────
  module _ (a : Answer) (s : List ℕ) (w : Writer) {v : Writer} where
    pub by_board : a.number ≡ 0 → v ≡ writes w (output_of z a.board (take input_limit s)) → v ≡ writes w (output_by z a s)
    unfolding output_by
    by_board e f = rw (eq-eqb a.number 0 e) f

    pub by_refusal : (a.number ≡ 0 → ⊥) → v ≡ writes w (refused_line a.number) → v ≡ writes w (output_by z a s)
    unfolding output_by
    by_refusal e f = rw (ne_eqb a.number 0 e) f

  -- ── both runs: the buffer is too short, or long enough ───────────────────
  module _ (s out : List ℕ) {e : ℕ} (q : e ≡ enough z s) where
    pub ran_short : length out < e → Ran z s out out 0
    ran_short h = told_short (script_output z s) out (rw q at h)

    pub from_short : (listing : List ℕ) → length out < e → RanFrom z listing s out out 0
    from_short listing h = told_short (from_output z listing s) out (rw q at h)

    module _ (far : output_bound z input_limit ≤ last_position) (l : e ≤ length out) where
      near : enough z s ≤ last_position
      near = omega (arith, enough_most z s)

      long : enough z s ≤ length out
      long = rw q at l

      pub ran_whole : {b : Tables} {out' : List ℕ} {r : ℕ} → b ≡ start_board z → Wrote out 0 (output_of z b (take input_limit s)) out' r → Ran z s out out' r
      unfolding script_output
      ran_whole h w = told_whole (script_output z s) out (script_length z s) long near (rw h at w)

      pub from_whole : (listing : List ℕ) {a : Answer} {out' : List ℕ} {r : ℕ} → a ≡ reading z (take input_limit listing) → Wrote out 0 (output_by z a s) out' r
          → RanFrom z listing s out out' r
      unfolding from_output
      from_whole listing h w = told_whole (from_output z listing s) out (from_length z listing s) long near (rw h at w)
