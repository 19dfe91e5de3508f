-- An unmap and a flush from the check of what they name to their outcome, over plain variables.
use mathlib.Core.Path.{◌≡◌, refl, ap, ◌∙◌}
use mathlib.Core.Bool.{Bool, false, cond}
use mathlib.Core.List.{List}
use Prim.Native.Nat.{ℕ}
use lib.Dec.{eqb}
use lib.ListN.{set}
use Rattle.std.proofs.lemmas.Bool.{eqb-false}
use Rattle.lend.specs.declared.Count.{Count}
use Rattle.lend.specs.declared.refusal.Refusal.{Refusal}
use Rattle.lend.specs.Sizes.{Sizes, key}
use Rattle.lend.specs.Tables.{Tables, alone, table_of}
use Rattle.lend.specs.Line.{frame_of}
use Rattle.lend.specs.Sound.{Sound}
use Rattle.lend.specs.Refusals.{number_of, refusal_not_done}
use Rattle.lend.specs.Calls.{Outcome, Unmap, Flush, number, step, refuse, plain_reply}
use Rattle.lend_laws.proofs.Accepted.{PageFine}
use Rattle.lend_summary.specs.Counts.{less_at}
use Rattle.lend_code.specs.Inner.{line_has, only_page, cut_of, cut_lost, withdrawn_of, page_checks, with_summary}
use Rattle.lend_code.proofs.Withdrawals.{withdrawn_at}
use Rattle.lend_code.proofs.Calls.{call_refused, page_checked, unmap_number, unmap_shows, unmap_done, flush_number, flush_shows, flush_done}

-- no refusal has the number of what is done
not_done : (r : Refusal) → number_of r ≡ 0 → ⊥
not_done r = eqb-false (number_of r) 0 (refusal_not_done r)

module _ (z : Sizes) (b : Tables) (sound : Sound z b) (s p d : ℕ) where
  -- on a sound board the checks are all of the number
  abbrev unmap_checks : ℕ
  unmap_checks = page_checks z b.live s p d 0

  abbrev flush_checks : ℕ
  flush_checks = page_checks z b.live s p d (cond (eqb s 0) 9 0)

  unmap_numbered : (n : ℕ) → n ≡ unmap_checks → n ≡ number z (alone b) (Unmap s p d)
  unmap_numbered n e = e ∙ (page_checked z b sound s p d 0 ∙ unmap_number z b s p d)

  flush_numbered : (n : ℕ) → n ≡ flush_checks → n ≡ number z (alone b) (Flush s p d)
  flush_numbered n e = e ∙ (page_checked z b sound s p d (cond (eqb s 0) 9 0) ∙ flush_number z b s p d (cond (eqb s 0) 9 0) refl)

  pub unmap_refused : (r : Refusal) → number_of r ≡ unmap_checks → refuse (alone b) (number_of r) ≡ step z (alone b) (Unmap s p d)
  unmap_refused r e = call_refused z b (Unmap s p d) (number_of r) (unmap_numbered (number_of r) e) (not_done r)

  pub flush_refused : (r : Refusal) → number_of r ≡ flush_checks → refuse (alone b) (number_of r) ≡ step z (alone b) (Flush s p d)
  flush_refused r e = call_refused z b (Flush s p d) (number_of r) (flush_numbered (number_of r) e) (not_done r)

  pub unmap_named : 0 ≡ unmap_checks → PageFine z b s p d
  unmap_named e = unmap_shows z b s p d 0 (unmap_numbered 0 e) refl

  pub flush_named : 0 ≡ flush_checks → PageFine z b s p d
  flush_named e = flush_shows z b s p d 0 (flush_numbered 0 e) refl

  -- ── what is done ───────────────────────────────────────────────────────
  -- the code's steps, at a set of pages: the withdrawal, and the count of the frame
  module _ (frame n : ℕ) (t new : Tables) (lost : Count) (counted : new ≡ with_summary t (less_at t.summary frame lost)) (held : n ≡ lost.held) where
    made : (pages set : List Bool) → pages ≡ set → t ≡ cut_of z b pages d → lost ≡ cut_lost z b.slots pages d
        → ◌≡◌ {A = Outcome} (record { reply = plain_reply 0 n; state = alone new }) (withdrawn_of z b set d (less_at b.summary frame (cut_lost z b.slots set d)))
    unfolding cut_of
    made pages set e ht hl =
        (λ i. record { reply = plain_reply 0 (held i); state = alone (counted i) })
        ∙ (withdrawn_at z b pages d t lost (less_at t.summary frame lost) frame ht hl (ap (λ (x : Tables). less_at x.summary frame lost) ht)
        ∙ ap (λ (l : List Bool). withdrawn_of z b l d (less_at b.summary frame (cut_lost z b.slots l d))) e)

    module _ (y : ℕ) (only line : List Bool) (hy : y ≡ key z s p) (ho : only ≡ only_page z y) (hl : line ≡ line_has z b.slots only)
        (hf : frame ≡ frame_of z (table_of b) y) where
      pub unmap_made : 0 ≡ unmap_checks → t ≡ cut_of z b (set line y false) d → lost ≡ cut_lost z b.slots (set line y false) d
          → ◌≡◌ {A = Outcome} (record { reply = plain_reply 0 n; state = alone new }) (step z (alone b) (Unmap s p d))
      unmap_made e ht hc =
          made (set line y false) (set (line_has z b.slots (only_page z (key z s p))) (key z s p) false) (rw (hl, ho, hy)) ht hc
          ∙ unmap_done z b s p d 0 (unmap_numbered 0 e) refl frame (hf ∙ ap (frame_of z (table_of b)) hy)

      pub flush_made : 0 ≡ flush_checks → t ≡ cut_of z b line d → lost ≡ cut_lost z b.slots line d
          → ◌≡◌ {A = Outcome} (record { reply = plain_reply 0 n; state = alone new }) (step z (alone b) (Flush s p d))
      flush_made e ht hc =
          made line (line_has z b.slots (only_page z (key z s p))) (rw (hl, ho, hy)) ht hc
          ∙ flush_done z b s p d 0 (flush_numbered 0 e) refl frame (hf ∙ ap (frame_of z (table_of b)) hy)
