-- A run on a buffer: too short, long enough; what a run settles.
use Prim.Native.Nat.{ℕ, ◌+◌, ◌<◌, ◌≤◌, zero-le}
use mathlib.Core.Path.{◌≡◌, refl, sym, ap, ◌∙◌}
use mathlib.Core.Bool.{Bool, true, false}
use mathlib.Core.List.{List, ◌++◌}
use native.Mathlib.Omega.{arith}
use lib.ListN.{length, length-append, length-drop, take, drop}
use lib.Dec.{ltb}
use lib.Seq.{take_at}
use borrow.Author.Tests.{lt-ltb, le-ltb, ltb-false}
use Rattle.lend.specs.Sizes.{Sizes}
use Rattle.text.specs.Write.{last_position, Wrote}
use Rattle.text.proofs.Writing.{Exactly, wrote_exactly}
use Rattle.script.specs.Run.{Printed, printed, printing, Told, Ran, RanFrom}

-- the buffer is too short
pub told_short : {most : ℕ} (output out : List ℕ) → length out < most → Told most output out out 0
unfolding printing
told_short output out l = record { is = rw (lt-ltb _ _ l) }

-- the buffer is long enough
pub told_whole : {most : ℕ} (output out : List ℕ) {out' : List ℕ} {r : ℕ} → length output ≤ most → most ≤ length out → most ≤ last_position
    → Wrote out 0 output out' r → Told most output out out' r
unfolding printing
told_whole output out {out'} {r} b l p w =
    let e : Exactly out output out' r = wrote_exactly w (omega arith) (omega arith) in
    record { is = rw (le-ltb _ _ l, ← e.held, ← e.count) }

-- ── what a run settles ───────────────────────────────────────────────────
-- one outcome only
told_once : {most : ℕ} {output out out' out'' : List ℕ} {r r' : ℕ} → Told most output out out' r → Told most output out out'' r'
    → (out' ≡ out'') × (r ≡ r')
told_once v w = let e = v.is ∙ sym w.is in (ap (λ (p : Printed). p.held) e, ap (λ (p : Printed). p.count) e)

pub ran_once : (z : Sizes) (s : List ℕ) {out out' out'' : List ℕ} {r r' : ℕ} → Ran z s out out' r → Ran z s out out'' r' → (out' ≡ out'') × (r ≡ r')
ran_once z s v w = told_once v w

pub from_once : (z : Sizes) (listing s : List ℕ) {out out' out'' : List ℕ} {r r' : ℕ} → RanFrom z listing s out out' r
    → RanFrom z listing s out out'' r' → (out' ≡ out'') × (r ≡ r')
from_once z listing s v w = told_once v w

module _ {most : ℕ} {output out out' : List ℕ} {r : ℕ} (g : Told most output out out' r) where
  -- in a buffer that is long enough the first bytes, as many as are told, are the output
  told_long : ltb (length out) most ≡ false → (out' ≡ output ++ drop (length output) out) × (r ≡ length output)
  unfolding printing
  told_long e =
      let p : printed out' r ≡ printed (output ++ drop (length output) out) (length output) = rw e at g.is in
      (ap (λ (w : Printed). w.held) p, ap (λ (w : Printed). w.count) p)

  pub told_output : most ≤ length out → take r out' ≡ output
  told_output h =
      let p = told_long (le-ltb (length out) most h) in
      rw (p.0, p.1) (take_at output (drop (length output) out) (length output) refl)

  -- the length that is told is within the buffer, whose length stays
  pub told_fits : length output ≤ most → (r ≤ length out') × (length out' ≡ length out)
  unfolding printing
  told_fits b = fits (ltb (length out) most) refl
    where
      fits : (t : Bool) → ltb (length out) most ≡ t → (r ≤ length out') × (length out' ≡ length out)
      fits true e =
          let p : printed out' r ≡ printed out 0 = rw e at g.is in
          let i : r ≡ 0 = ap (λ (w : Printed). w.count) p in
          (rw i zero-le, ap (λ (w : Printed). length w.held) p)
      fits false e =
          let p = told_long e in
          let l : length out' ≡ length output + length (drop (length output) out) = ap length p.0 ∙ length-append output (drop (length output) out) in
          let k : most ≤ length out = ltb-false _ _ e in
          (omega (arith, l, p.1), omega (arith, l, length-drop (length output) out, k, b))
