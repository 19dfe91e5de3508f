-- What a test of the whole board and a refusal say, over plain variables.
use mathlib.Core.Path.{◌≡◌, refl, sym, ap, ◌∙◌}
use mathlib.Core.Bool.{Bool, true, false, cond}
use Prim.Native.Nat.{ℕ}
use Rattle.std.specs.declared.result.Result.{Result}
use Rattle.std.specs.declared.result.Result.TheVariants.{Ok, Err}
use Rattle.std.proofs.lemmas.Bool.{eqb-false}
use Rattle.lend.specs.declared.refusal.Refusal.{Refusal}
use Rattle.lend.specs.declared.refusal.Refusal.TheVariants.{Unsound}
use Rattle.lend.specs.Sizes.{Sizes}
use Rattle.lend.specs.Tables.{Tables, alone}
use Rattle.lend.specs.Sound.{Sound}
use Rattle.lend.specs.SoundTest.{sound_test}
use Rattle.lend.specs.Refusals.{number_of, answer_of, refusal_not_done}
use Rattle.lend.specs.Calls.{Call, number, step, refuse}
use Rattle.lend_sound.proofs.SoundTest.{test_sound}
use Rattle.lend_code.proofs.Calls.{call_refused}
use Rattle.board.specs.Found.{pages_of}
use Rattle.board.specs.declared.sound.Pages.{Pages}

-- no refusal has the number of what is done
pub not_done : (r : Refusal) → number_of r ≡ 0 → ⊥
not_done r = eqb-false (number_of r) 0 (refusal_not_done r)

pub refused_by : (z : Sizes) (b : Tables) (c : Call) (r : Refusal) → number_of r ≡ number z (alone b) c → refuse (alone b) (number_of r) ≡ step z (alone b) c
refused_by z b c r e = call_refused z b c (number_of r) e (not_done r)

-- ── the test of the whole board ──────────────────────────────────────────
-- what was found, or else the other
abbrev found : {A : Type 0} → A → Result A Refusal → A
found x (Ok y) = y
found x (Err r) = x

module _ {pages slots : ℕ} (z : Sizes) (b : Tables) where
  abbrev checked : Bool → Result (Pages pages slots) Refusal
  checked t = cond t (Ok (pages_of z b.slots)) (Err Unsound)

  -- a board that is not sound refuses the call with 1
  pub unsound_by : (c : Call) (r : Refusal) → Err r ≡ checked (sound_test z b) → refuse (alone b) (number_of r) ≡ step z (alone b) c
  unfolding number
  unsound_by c r e = refused_by z b c r (go (sound_test z b) refl)
    where
      go : (t : Bool) → sound_test z b ≡ t → number_of r ≡ number z (alone b) c
      go true q = absurd (not_done r (ap answer_of (e ∙ ap checked q)))
      go false q = rw q (ap answer_of (e ∙ ap checked q))

  -- what is found of a sound board
  pub sound_by : (y : Pages pages slots) → Ok y ≡ checked (sound_test z b) → Sound z b × (y ≡ pages_of z b.slots)
  sound_by y e = go (sound_test z b) refl
    where
      go : (t : Bool) → sound_test z b ≡ t → Sound z b × (y ≡ pages_of z b.slots)
      go true q = (test_sound z b (rw q tt), ap (found (pages_of z b.slots)) (e ∙ ap checked q))
      go false q = absurd (not_done Unsound (sym (ap answer_of (e ∙ ap checked q))))
