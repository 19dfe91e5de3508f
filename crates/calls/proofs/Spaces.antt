-- A create and a delete from their checks to their outcome, over plain variables.
use mathlib.Core.Path.{◌≡◌, refl, sym, ap, ◌∙◌}
use mathlib.Core.Bool.{Bool, true, false, not, cond}
use mathlib.Core.List.{List}
use Prim.Native.Nat.{ℕ, ◌≤◌}
use lib.Dec.{leb}
use Rattle.lend.specs.declared.Count.{Count}
use Rattle.lend.specs.declared.refusal.Refusal.{Refusal}
use Rattle.lend.specs.Sizes.{Sizes, slot_count}
use Rattle.lend.specs.Rights.{all_rights}
use Rattle.lend.specs.Lists.{tabulate}
use Rattle.lend.specs.Tables.{Tables, alone, alive, table_of}
use Rattle.lend.specs.Line.{frame_of}
use Rattle.lend.specs.Sound.{Sound}
use Rattle.lend.specs.SoundTest.{Tells}
use Rattle.lend.specs.Refusals.{number_of}
use Rattle.lend.specs.Numbers.{no_space}
use Rattle.lend.specs.Calls.{Outcome, Create, Delete, number, cases, step, refuse, plain_reply, with_live}
use Rattle.lend_sound.proofs.SoundTest.{tells}
use Rattle.lend_code.specs.Inner.{line_has, rights_of, space_pages, summary_with, cut_of, cut_lost, with_summary, withdrawn_of}
use Rattle.lend_code.proofs.Calls.{call_judged, sound_true, create_done, delete_done}
use Rattle.lend_code.proofs.SoundCode.{all_framed}
use Rattle.lend_code.proofs.Withdrawals.{withdrawn_made, cut_counts}
use Rattle.calls.proofs.Refused.{refused_by}

-- ── create ───────────────────────────────────────────────────────────────
-- t tells whether the board is sound
module _ (z : Sizes) (b : Tables) (s : ℕ) (t live : Bool) (told : Tells z b t) (is-live : live ≡ alive b.live s) where
  abbrev create_checks : ℕ
  create_checks = cond (not t) 1 (cond (no_space z s) 3 (cond live 10 0))

  create_numbered : (n : ℕ) → n ≡ create_checks → n ≡ number z (alone b) (Create s)
  unfolding cases
  create_numbered n e = call_judged z b (Create s) n t told (rw is-live at e)

  pub create_refused : (r : Refusal) → number_of r ≡ create_checks → refuse (alone b) (number_of r) ≡ step z (alone b) (Create s)
  create_refused r e = refused_by z b (Create s) r (create_numbered (number_of r) e)

  pub create_made : 0 ≡ create_checks → refuse (alone (with_live b s true)) 0 ≡ step z (alone b) (Create s)
  create_made e = create_done z b s 0 (create_numbered 0 e) refl

-- ── delete ───────────────────────────────────────────────────────────────
-- on a board that is known to be sound
module _ (z : Sizes) (b : Tables) (sound : Sound z b) (s : ℕ) (live : Bool) (is-live : live ≡ alive b.live s) where
  abbrev delete_checks : ℕ
  delete_checks = cond (no_space z s) 3 (cond (not live) 4 (cond (leb s 1) 9 0))

  delete_numbered : (n : ℕ) → n ≡ delete_checks → n ≡ number z (alone b) (Delete s)
  unfolding cases
  delete_numbered n e = call_judged z b (Delete s) n true (tells z b true (sym (sound_true z b sound))) (rw is-live at e)

  pub delete_refused : (r : Refusal) → number_of r ≡ delete_checks → refuse (alone b) (number_of r) ≡ step z (alone b) (Delete s)
  delete_refused r e = refused_by z b (Delete s) r (delete_numbered (number_of r) e)

  -- the code's steps: t is the board once it lost the rights, its counts aside
  pub delete_made : 1 ≤ z.pages → 0 ≡ delete_checks → (only reached : List Bool) → only ≡ space_pages z s → reached ≡ line_has z b.slots only
      → (frames : List ℕ) → frames ≡ tabulate (slot_count z) (frame_of z (table_of b))
      → (t : Tables) (lost : Count) → t ≡ cut_of z (with_live b s false) reached all_rights → lost ≡ cut_lost z b.slots reached all_rights
      → (counts : List Count) → counts ≡ summary_with z (rights_of z t.slots) frames → (n : ℕ) → n ≡ lost.held
      → ◌≡◌ {A = Outcome} (record { reply = plain_reply 0 n; state = alone (with_summary t counts) }) (step z (alone b) (Delete s))
  delete_made one e only reached is-only is-reached frames is-frames t lost is-t is-lost counts is-counts n is-n =
      let gone = with_live b s false in
      let all : reached ≡ line_has z b.slots (space_pages z s) = is-reached ∙ ap (line_has z b.slots) is-only in
      (λ i. record { reply = plain_reply 0 (is-n i); state = alone (with_summary t counts) })
      ∙ (withdrawn_made z gone reached all_rights t lost counts is-t is-lost
      ∙ (ap (λ (l : List Bool). withdrawn_of z gone l all_rights counts) all
      ∙ delete_done z one b s 0 (delete_numbered 0 e) refl frames (all_framed z b.slots b.live sound.shape.slots_long frames is-frames) counts
      (is-counts ∙ cut_counts z gone all_rights t is-t all frames)))
