-- A call of the code from its number to its outcome: refused, or accepted with all that the number 0 has shown.
use mathlib.Core.Path.{◌≡◌, refl, sym, ap, ◌∙◌}
use mathlib.Core.Bool.{Bool, true, false, not, cond}
use mathlib.Core.List.{List}
use Prim.Native.Nat.{ℕ, ◌≤◌, ◌<◌}
use lib.Dec.{eqb}
use Rattle.lend.specs.declared.Count.{Count}
use Rattle.lend.specs.Sizes.{Sizes, slot_count, key}
use Rattle.lend.specs.Rights.{all_rights}
use Rattle.lend.specs.Tables.{Tables, alone, table_of}
use Rattle.lend.specs.Line.{frame_of}
use Rattle.lend.specs.Sound.{Sound}
use Rattle.lend.specs.SoundTest.{sound_test, Tells}
use Rattle.lend.specs.Numbers.{first_number}
use Rattle.lend.specs.Calls.{Call, Create, Delete, Unmap, Flush, number, cases, step, accept, refuse, board_after, memory_after, report, with_live}
use Rattle.lend_basics.proofs.Bools.{is_true}
use Rattle.lend_sound.proofs.SoundTest.{test_sound, sound_test_law}
use Rattle.lend_laws.proofs.Accepted.{accepted, refused, tested, PageFine, DeleteFine, delete_fine, unmap_fine, flush_fine}
use Rattle.lend_laws.proofs.Emptied.{emptied_none}
use Rattle.lend_summary.specs.Counts.{less_at}
use Rattle.lend_code.specs.Inner.{line_has, rights_of, summary_with, Framed, space_pages, page_checks, page_number, cut_slots, cut_lost, withdrawn_of}
use Rattle.lend_code.proofs.Fits.{key_in}
use Rattle.lend_code.proofs.Withdrawals.{below_set, line_set, unmap_is, flush_is, delete_is}

module _ (z : Sizes) (b : Tables) (c : Call) (n : ℕ) (is : n ≡ number z (alone b) c) where
  -- a number other than 0 refuses the call
  pub call_refused : (n ≡ 0 → ⊥) → refuse (alone b) n ≡ step z (alone b) c
  call_refused h = ap (refuse (alone b)) is ∙ sym (refused z (alone b) c (λ e. h (is ∙ e)))

  -- 0 accepts it
  pub call_accepted : n ≡ 0 → accept z (alone b) c ≡ step z (alone b) c
  call_accepted e = sym (accepted z (alone b) c (sym is ∙ e))

  -- and shows that the board is sound
  pub call_sound : n ≡ 0 → Sound z b
  call_sound e = test_sound z b (tested z (alone b) c (sym is ∙ e))

-- the number of a call whose soundness was told apart
pub call_judged : (z : Sizes) (b : Tables) (c : Call) (n : ℕ) (t : Bool) → Tells z b t → n ≡ cond (not t) 1 (first_number (cases z (alone b) c)) → n ≡ number z (alone b) c
unfolding number
call_judged z b c n t told e = e ∙ ap (λ (s : Bool). cond (not s) 1 (first_number (cases z (alone b) c))) told.as_test

pub sound_true : (z : Sizes) (b : Tables) → Sound z b → sound_test z b ≡ true
sound_true z b sound = is_true (sound_test z b) (sound_test_law z b sound)

-- ── unmap and flush ──────────────────────────────────────────────────────
-- on a sound board the checks are all of the number
pub page_checked : (z : Sizes) (b : Tables) → Sound z b → (s p d rest : ℕ) → page_checks z b.live s p d rest ≡ page_number z b s p d rest
unfolding page_number
page_checked z b sound s p d rest = rw (sound_true z b sound)

pub unmap_number : (z : Sizes) (b : Tables) (s p d : ℕ) → page_number z b s p d 0 ≡ number z (alone b) (Unmap s p d)
unfolding page_checks page_number number cases
unmap_number z b s p d = refl

pub flush_number : (z : Sizes) (b : Tables) (s p d rest : ℕ) → rest ≡ cond (eqb s 0) 9 0 → page_number z b s p d rest ≡ number z (alone b) (Flush s p d)
unfolding page_checks page_number number cases
flush_number z b s p d rest e = rw e

module _ (z : Sizes) (b : Tables) (s p d n : ℕ) (is : n ≡ number z (alone b) (Unmap s p d)) (done : n ≡ 0) where
  pub unmap_shows : PageFine z b s p d
  unmap_shows = unmap_fine z (alone b) s p d (sym is ∙ done)

  pub unmap_done : (frame : ℕ) → frame ≡ frame_of z (table_of b) (key z s p)
      → withdrawn_of z b (below_set z b.slots (key z s p)) d (less_at b.summary frame (cut_lost z b.slots (below_set z b.slots (key z s p)) d)) ≡ step z (alone b) (Unmap s p d)
  unmap_done frame e = unmap_is z b (call_sound z b (Unmap s p d) n is done) s p d unmap_shows frame e ∙ call_accepted z b (Unmap s p d) n is done

module _ (z : Sizes) (b : Tables) (s p d n : ℕ) (is : n ≡ number z (alone b) (Flush s p d)) (done : n ≡ 0) where
  pub flush_shows : PageFine z b s p d
  flush_shows = (flush_fine z (alone b) s p d (sym is ∙ done)).0

  pub flush_done : (frame : ℕ) → frame ≡ frame_of z (table_of b) (key z s p)
      → withdrawn_of z b (line_set z b.slots (key z s p)) d (less_at b.summary frame (cut_lost z b.slots (line_set z b.slots (key z s p)) d)) ≡ step z (alone b) (Flush s p d)
  flush_done frame e =
      flush_is z b (call_sound z b (Flush s p d) n is done) s p d flush_shows frame e (flush_fine z (alone b) s p d (sym is ∙ done)).1
      ∙ call_accepted z b (Flush s p d) n is done

-- the page that an accepted call names is in the table
pub named_in : {z : Sizes} {b : Tables} {s p d : ℕ} → PageFine z b s p d → key z s p < slot_count z
named_in {z = z} {s = s} {p = p} fine = key_in z s p fine.space_in fine.page_in

-- ── create and delete ────────────────────────────────────────────────────
module _ (z : Sizes) (b : Tables) (s n : ℕ) (is : n ≡ number z (alone b) (Create s)) (done : n ≡ 0) where
  -- nothing is emptied, so the answer is like a refusal's with number 0
  pub create_done : refuse (alone (with_live b s true)) 0 ≡ step z (alone b) (Create s)
  unfolding board_after memory_after report
  create_done =
      (λ i. record { reply = record { number = 0; emptied = sym (emptied_none b.slots) i; address = 0; hit = false; links = 0; byte = 0 }; state = alone (with_live b s true) })
      ∙ call_accepted z b (Create s) n is done

module _ (z : Sizes) (one : 1 ≤ z.pages) (b : Tables) (s n : ℕ) (is : n ≡ number z (alone b) (Delete s)) (done : n ≡ 0) where
  pub delete_shows : DeleteFine z b s
  delete_shows = delete_fine z (alone b) s (sym is ∙ done)

  pub delete_done : (frames : List ℕ) → Framed z (table_of b) frames → (counts : List Count)
      → counts ≡ summary_with z (rights_of z (cut_slots z b.slots (line_has z b.slots (space_pages z s)) all_rights)) frames
      → withdrawn_of z (with_live b s false) (line_has z b.slots (space_pages z s)) all_rights counts ≡ step z (alone b) (Delete s)
  delete_done frames framed counts e =
      ap (withdrawn_of z (with_live b s false) (line_has z b.slots (space_pages z s)) all_rights) e
      ∙ (delete_is z b (call_sound z b (Delete s) n is done) one s delete_shows frames framed ∙ call_accepted z b (Delete s) n is done)
