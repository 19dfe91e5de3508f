-- The code's withdrawal, by arrays of rights and sets of pages, is what unmap, flush and delete do on a sound board.
use mathlib.Core.Path.{◌≡◌, refl, sym, subst, ap, ◌∙◌, fun_ext}
use mathlib.Core.Bool.{Bool, true, false, not, ◌&&◌, ◌||◌, cond}
use mathlib.Core.List.{List}
use Prim.Native.Nat.{ℕ, ◌/◌, ◌≤◌, ◌<◌}
use native.Mathlib.Nat.{div-lt_iff_lt-mul}
use native.Mathlib.Decide.{dec_lt, ℕ_discrete}
use native.Mathlib.Omega.{arith}
use lib.Dec.{T, eqb}
use lib.ListN.{length, get_or, set, get_or-eq_default}
use lib.Seq.{ext_get_or, get_or-set_same, get_or-set_other}
use borrow.Author.Tests.{eq-eqb, ne_eqb}
use Rattle.lend.specs.declared.Count.{Count}
use Rattle.lend.specs.declared.Slot.{Slot}
use Rattle.lend.specs.Sizes.{Sizes, slot_count, key, space_of}
use Rattle.lend.specs.Rights.{all_rights, less}
use Rattle.lend.specs.Lists.{any, count}
use Rattle.lend.specs.Slots.{Table, empty_slot, slot_at, held, with_rights, cut}
use Rattle.lend.specs.Tables.{Tables, alone, table_of}
use Rattle.lend.specs.Line.{line_of, is_on_line, below, frame_of}
use Rattle.lend.specs.Summary.{summary_of}
use Rattle.lend.specs.Cache.{dropped_where, lost_right}
use Rattle.lend.specs.Sound.{SoundPages, Sound}
use Rattle.lend.specs.Withdraw.{unmapped, flushed}
use Rattle.lend.specs.Spaces.{wiped}
use Rattle.lend.specs.Emptied.{emptied}
use Rattle.lend.specs.Calls.{Outcome, Unmap, Flush, Delete, accept, board_after, memory_after, report, emptied_reply, plain_reply, with_slots, with_live, no_taker}
use Rattle.lend_basics.proofs.Bools.{and_false, and_true, or_false}
use Rattle.lend_basics.proofs.Lists.{tabulate_at, tabulate_past}
use Rattle.lend_basics.proofs.Rights.{less_zero}
use Rattle.lend_laws.proofs.Withdraw.{rights_small, withdraw, was_held, frame_of_kept}
use Rattle.lend_laws.proofs.Flush.{length_unmapped, length_flushed, unmapped_at, flushed_at, unmapped_sound, flushed_sound}
use Rattle.lend_laws.proofs.Spaces.{out_of_pool, length_wiped, wiped_at, wiped_sound}
use Rattle.lend_laws.proofs.Emptied.{held_rights, rights_count}
use Rattle.lend_laws.proofs.Accepted.{PageFine, DeleteFine}
use Rattle.lend_laws.proofs.Keeps.{Withdrawn, delete_withdrawn}
use Rattle.lend_summary.specs.Counts.{lost_count, lost_of, less_at}
use Rattle.lend_summary.proofs.Calls.{unmap_summary, flush_summary}
use Rattle.lend_code.specs.Inner.{has, line_has, rights_of, left_of, rights_left, slots_with, lost_in, only_page, space_pages, losses_of, summary_with, Framed, cut_slots, cut_of, cut_lost, with_summary, withdrawn_of}
use Rattle.lend_code.proofs.Fits.{key_in}
use Rattle.lend_code.proofs.Columns.{rights_long, left_long, slots_long, line_has_long, rights_at, left_at, slots_at, line_has_at, lost_slots}
use Rattle.lend_code.proofs.Summary.{summary_by_law}

-- ── one withdrawal ───────────────────────────────────────────────────────
-- new is what is left of the slots when the pages of the set lose d
module _ (z : Sizes) (b : Tables) (sound : Sound z b) (pages : List Bool) (d : ℕ) (new : List Slot) (long : length new ≡ length b.slots)
    (after-sound : SoundPages z b.live (slot_at new)) (is : (k : ℕ) → k < slot_count z → slot_at new k ≡ cut (cond (has pages k) d 0) (table_of b k)) where
  before : List ℕ
  before = rights_of z b.slots

  after : List ℕ
  after = rights_left z (rights_of z b.slots) pages d

  all : length b.slots ≡ slot_count z
  all = sound.shape.slots_long

  before_at : (k : ℕ) → get_or before k 0 ≡ (table_of b k).rights
  unfolding before
  before_at k = rights_at z b.slots k all

  left_is : (k : ℕ) (t : Bool) → left_of (table_of b k).rights t d ≡ less (table_of b k).rights (cond t d 0)
  left_is k true = refl
  left_is k false = sym (less_zero (table_of b k).rights (rights_small z b.live (table_of b) sound.pages k))

  after_less : (k : ℕ) → get_or after k 0 ≡ less (table_of b k).rights (cond (has pages k) d 0)
  unfolding after
  after_less k =
      left_at z (rights_of z b.slots) pages d k (rights_long z b.slots)
      ∙ (ap (λ (r : ℕ). left_of r (has pages k) d) (rights_at z b.slots k all) ∙ left_is k (has pages k))

  after_at : (k : ℕ) → get_or after k 0 ≡ (slot_at new k).rights
  unfolding after
  after_at k = go (dec_lt k (slot_count z))
    where
      go : Dec (k < slot_count z) → get_or (rights_left z (rights_of z b.slots) pages d) k 0 ≡ (slot_at new k).rights
      go (yes h) = after_less k ∙ ap (λ (s : Slot). s.rights) (sym (is k h))
      go (no h) =
          get_or-eq_default (rights_left z (rights_of z b.slots) pages d) 0 {n = k} (omega (arith, left_long z (rights_of z b.slots) pages d))
          ∙ sym (ap (λ (s : Slot). s.rights) (get_or-eq_default new empty_slot {n = k} (omega (arith, all))))

  slots_are : cut_slots z b.slots pages d ≡ new
  unfolding cut_slots after
  slots_are =
      ext_get_or empty_slot (slots_with z b.slots after) new (slots_long z b.slots after ∙ sym (long ∙ all))
      (λ k l. at k (omega (arith, slots_long z b.slots after)))
    where
      at : (k : ℕ) → k < slot_count z → slot_at (slots_with z b.slots after) k ≡ slot_at new k
      at k h = slots_at z b.slots after k h ∙ (ap (λ (r : ℕ). with_rights r (table_of b k)) (after_less k) ∙ sym (is k h))

  lost_are : (cut_lost z b.slots pages d).held ≡ emptied b.slots new
  unfolding cut_lost losses_of lost_count before after
  lost_are =
      ap (count (slot_count z)) (fun_ext (λ k. ap (λ (r : ℕ). not (eqb r 0) && eqb (get_or after k 0) 0) (before_at k) ∙ ap (λ (r : ℕ). not (eqb (table_of b k).rights 0) && eqb r 0) (after_at k)))
      ∙ (ap (λ (n : ℕ). count n (λ k. not (eqb (table_of b k).rights 0) && eqb (slot_at new k).rights 0)) (sym all)
      ∙ sym (rights_count z b.live b.live b.slots new sound.pages after-sound))

  places_are : dropped_where z (lost_in before after) b.places ≡ dropped_where z (λ k. lost_right (table_of b) (slot_at new) k || no_taker k) b.places
  unfolding lost_right
  places_are =
      ap (λ (t : ℕ → Bool). dropped_where z t b.places)
      (fun_ext
      (λ k. let same : lost_in before after k ≡ (lost_right (table_of b) (slot_at new) k || no_taker k) = rw (before_at k, after_at k) (sym (or_false (lost_right (table_of b) (slot_at new) k))) in
      same))

  -- where one frame lost it all, the counts that the board had serve for the new ones
  pub counts_less : (i : ℕ) → less_at b.summary i (cut_lost z b.slots pages d) ≡ less_at (summary_of z (table_of b)) i (lost_of (slot_count z) b.slots new)
  counts_less i =
      ap (λ (c : List Count). less_at c i (cut_lost z b.slots pages d)) sound.summary
      ∙ (ap (less_at (summary_of z (table_of b)) i) (lost_slots z b.slots pages d all)
      ∙ ap (λ (l : List Slot). less_at (summary_of z (table_of b)) i (lost_of (slot_count z) b.slots l)) slots_are)

  -- counted anew by the frames of all pages they are right as well
  pub counts_anew : (frames : List ℕ) → Framed z (slot_at new) frames → summary_with z (rights_of z (cut_slots z b.slots pages d)) frames ≡ summary_of z (slot_at new)
  counts_anew frames framed =
      ap (λ (l : List Slot). summary_with z (rights_of z l) frames) slots_are
      ∙ summary_by_law z (slot_at new) (held_rights z b.live (slot_at new) after-sound) (rights_of z new) frames (λ k. rights_at z new k (long ∙ all)) framed

  pub withdrawn_is : (counts : List Count) → counts ≡ summary_of z (slot_at new)
      → withdrawn_of z b pages d counts ≡ record { reply = emptied_reply b.slots new; state = alone (with_slots z b new no_taker) }
  unfolding withdrawn_of cut_of before after
  withdrawn_is counts e = λ i. record {
    reply = record { number = 0; emptied = lost_are i; address = 0; hit = false; links = 0; byte = 0 };
    state = record {
      board = record { slots = slots_are i; live = b.live; places = places_are i; next = b.next; summary = e i };
      memory = (alone b).memory;
    };
  }

-- and the answer, from the two and the counts
pub withdrawn_made : (z : Sizes) (b : Tables) (pages : List Bool) (d : ℕ) (t : Tables) (lost : Count) (counts : List Count) → t ≡ cut_of z b pages d → lost ≡ cut_lost z b.slots pages d
    → ◌≡◌ {A = Outcome} (record { reply = plain_reply 0 lost.held; state = alone (with_summary t counts) }) (withdrawn_of z b pages d counts)
unfolding withdrawn_of
withdrawn_made z b pages d t lost counts ht hl = rw (hl, ht)

-- the counts by the slots of that board
pub cut_counts : (z : Sizes) (b : Tables) (d : ℕ) {pages set : List Bool} (t : Tables) → t ≡ cut_of z b pages d → pages ≡ set → (frames : List ℕ)
    → summary_with z (rights_of z t.slots) frames ≡ summary_with z (rights_of z (cut_slots z b.slots set d)) frames
unfolding cut_of
cut_counts z b d t e q frames = rw (e, q)

-- where one frame lost it all
pub withdrawn_at : (z : Sizes) (b : Tables) (pages : List Bool) (d : ℕ) (t : Tables) (lost : Count) (counts : List Count) (frame : ℕ) → t ≡ cut_of z b pages d → lost ≡ cut_lost z b.slots pages d
    → counts ≡ less_at b.summary frame lost
    → ◌≡◌ {A = Outcome} (record { reply = plain_reply 0 lost.held; state = alone (with_summary t counts) }) (withdrawn_of z b pages d (less_at b.summary frame (cut_lost z b.slots pages d)))
withdrawn_at z b pages d t lost counts frame ht hl hc =
    withdrawn_made z b pages d t lost counts ht hl ∙ ap (withdrawn_of z b pages d) (hc ∙ ap (less_at b.summary frame) hl)

-- ── sets of pages ────────────────────────────────────────────────────────
only_has : (z : Sizes) (y : ℕ) → y < slot_count z → has (only_page z y) ≡ (λ k. eqb k y)
unfolding only_page
only_has z y h = fun_ext (λ k. go k (dec_lt k (slot_count z)))
  where
    go : (k : ℕ) → Dec (k < slot_count z) → has (only_page z y) k ≡ eqb k y
    go k (yes l) = tabulate_at (λ j. eqb j y) (slot_count z) k false l
    go k (no l) = tabulate_past (λ j. eqb j y) (slot_count z) k false (omega arith) ∙ sym (ne_eqb k y (λ e. omega arith))

space_past : (z : Sizes) (s k : ℕ) → 1 ≤ z.pages → s < z.spaces → slot_count z ≤ k → space_of z k ≡ s → ⊥
space_past z s k one h l e =
    let m : k / z.pages < z.spaces = rw e h in
    let n : k < slot_count z = (div-lt_iff_lt-mul {k = z.pages} {x = k} {y = z.spaces} one).0 m in
    omega arith

pub space_has : (z : Sizes) (s : ℕ) → 1 ≤ z.pages → s < z.spaces → has (space_pages z s) ≡ (λ k. eqb (space_of z k) s)
unfolding space_pages
space_has z s one h = fun_ext (λ k. go k (dec_lt k (slot_count z)))
  where
    go : (k : ℕ) → Dec (k < slot_count z) → has (space_pages z s) k ≡ eqb (space_of z k) s
    go k (yes l) = tabulate_at (λ j. eqb (space_of z j) s) (slot_count z) k false l
    go k (no l) = tabulate_past (λ j. eqb (space_of z j) s) (slot_count z) k false (omega arith) ∙ sym (ne_eqb (space_of z k) s (λ e. space_past z s k one h (omega arith) e))

-- the pages that have page y on their line
pub reached_has : (z : Sizes) (b : List Slot) (y k : ℕ) → y < slot_count z → k < slot_count z
    → has (line_has z b (only_page z y)) k ≡ is_on_line z (slot_at b) k y
reached_has z b y k hy hk = line_has_at z b (only_page z y) k hk ∙ ap (λ (t : ℕ → Bool). any t (line_of z (slot_at b) k)) (only_has z y hy)

-- ── the calls ────────────────────────────────────────────────────────────
-- the pages below y, and those with y on their line, as the code finds them
abbrev pub below_set : Sizes → List Slot → ℕ → List Bool
below_set z b y = set (line_has z b (only_page z y)) y false

abbrev pub line_set : Sizes → List Slot → ℕ → List Bool
line_set z b y = line_has z b (only_page z y)

module _ (z : Sizes) (b : Tables) (sound : Sound z b) where
  live_long : length b.live ≡ z.spaces
  live_long = sound.shape.live_long

  below_has : (y k : ℕ) → y < slot_count z → k < slot_count z → has (below_set z b.slots y) k ≡ below z (table_of b) k y
  below_has y k hy hk = go (ℕ_discrete k y)
    where
      go : Dec (k ≡ y) → has (below_set z b.slots y) k ≡ below z (table_of b) k y
      go (yes e) =
          rw (e, eq-eqb y y refl)
          (get_or-set_same (line_has z b.slots (only_page z y)) y false false (omega (arith, line_has_long z b.slots (only_page z y)))
          ∙ sym (and_false (is_on_line z (table_of b) y y)))
      go (no e) =
          get_or-set_other (line_has z b.slots (only_page z y)) y k false false e
          ∙ (reached_has z b.slots y k hy hk ∙ sym (rw (ne_eqb k y e) (and_true (is_on_line z (table_of b) k y))))

  -- the page that is named is in the table
  page_in : (s p d : ℕ) → PageFine z b s p d → key z s p < slot_count z
  page_in s p d fine = key_in z s p fine.space_in fine.page_in

  -- ── unmap ──────────────────────────────────────────────────────────────
  module _ (s p d : ℕ) (fine : PageFine z b s p d) (frame : ℕ) (is-frame : frame ≡ frame_of z (table_of b) (key z s p)) where
    abbrev y : ℕ
    y = key z s p

    unmapped_cut : (k : ℕ) → k < slot_count z → slot_at (unmapped z y d b.slots) k ≡ cut (cond (has (below_set z b.slots y) k) d 0) (table_of b k)
    unmapped_cut k h =
        unmapped_at z b.live b.slots live_long sound.pages y d k
        ∙ ap (λ (t : Bool). cut (cond t d 0) (table_of b k)) (sym (below_has y k (page_in s p d fine) h))

    unmapped_stays : SoundPages z b.live (slot_at (unmapped z y d b.slots))
    unmapped_stays = unmapped_sound z b.live b.slots live_long sound.pages y d fine.known_rights

    pub unmap_is : withdrawn_of z b (below_set z b.slots y) d (less_at b.summary frame (cut_lost z b.slots (below_set z b.slots y) d)) ≡ accept z (alone b) (Unmap s p d)
    unfolding board_after memory_after report
    unmap_is =
        withdrawn_is z b sound (below_set z b.slots y) d (unmapped z y d b.slots) (length_unmapped z y d b.slots) unmapped_stays unmapped_cut _
        (counts_less z b sound (below_set z b.slots y) d (unmapped z y d b.slots) (length_unmapped z y d b.slots) unmapped_stays unmapped_cut frame
        ∙ (ap (λ (i : ℕ). less_at (summary_of z (table_of b)) i (lost_of (slot_count z) b.slots (unmapped z y d b.slots))) is-frame
        ∙ unmap_summary z b.live b.slots live_long sound.pages y d fine.known_rights))

    -- ── flush ────────────────────────────────────────────────────────────
    module _ (out : 1 ≤ s) where
      flushed_cut : (k : ℕ) → k < slot_count z → slot_at (flushed z y d b.slots) k ≡ cut (cond (has (line_set z b.slots y) k) d 0) (table_of b k)
      flushed_cut k h =
          flushed_at z b.live b.slots live_long sound.pages y d k
          ∙ ap (λ (t : Bool). cut (cond t d 0) (table_of b k)) (sym (reached_has z b.slots y k (page_in s p d fine) h))

      flushed_stays : SoundPages z b.live (slot_at (flushed z y d b.slots))
      flushed_stays = flushed_sound z b.live b.slots live_long sound.pages y d (out_of_pool z s p out) fine.known_rights

      pub flush_is : withdrawn_of z b (line_set z b.slots y) d (less_at b.summary frame (cut_lost z b.slots (line_set z b.slots y) d)) ≡ accept z (alone b) (Flush s p d)
      unfolding board_after memory_after report
      flush_is =
          withdrawn_is z b sound (line_set z b.slots y) d (flushed z y d b.slots) (length_flushed z y d b.slots) flushed_stays flushed_cut _
          (counts_less z b sound (line_set z b.slots y) d (flushed z y d b.slots) (length_flushed z y d b.slots) flushed_stays flushed_cut frame
          ∙ (ap (λ (i : ℕ). less_at (summary_of z (table_of b)) i (lost_of (slot_count z) b.slots (flushed z y d b.slots))) is-frame
          ∙ flush_summary z b.live b.slots live_long sound.pages y d (out_of_pool z s p out) fine.known_rights))

  -- ── delete ─────────────────────────────────────────────────────────────
  -- a page that is held after a withdrawal has the frame it had
  still_framed : (frames : List ℕ) → Framed z (table_of b) frames → (g : Table) → Withdrawn z (table_of b) g → Framed z g frames
  still_framed frames framed g w = record { right = λ k h. right k (subst (λ (x : Table). T (held (x k))) w.is h) ∙ ap (λ (x : Table). frame_of z x k) (sym w.is) }
    where
      right : (k : ℕ) → T (held (withdraw w.amounts (table_of b) k)) → get_or frames k 0 ≡ frame_of z (withdraw w.amounts (table_of b)) k
      right k h =
          framed.right k (was_held z b.live (table_of b) sound.pages w.amounts w.closed k h)
          ∙ sym (frame_of_kept z b.live (table_of b) sound.pages w.amounts w.closed k h)

  module _ (one : 1 ≤ z.pages) (s : ℕ) (fine : DeleteFine z b s) (frames : List ℕ) (framed : Framed z (table_of b) frames) where
    out : 1 ≤ s
    out = omega (arith, fine.others)

    wiped_cut : (k : ℕ) → k < slot_count z → slot_at (wiped z s b.slots) k ≡ cut (cond (has (line_has z b.slots (space_pages z s)) k) all_rights 0) (table_of b k)
    wiped_cut k h =
        wiped_at z b.live b.slots live_long sound.pages s out one k
        ∙ ap (λ (t : Bool). cut (cond t all_rights 0) (table_of b k))
        (sym (line_has_at z b.slots (space_pages z s) k h ∙ ap (λ (t : ℕ → Bool). any t (line_of z (table_of b) k)) (space_has z s one fine.space_in)))

    wiped_stays : SoundPages z b.live (slot_at (wiped z s b.slots))
    wiped_stays = wiped_sound z b.live b.slots live_long sound.pages s out

    abbrev anew : List Count
    anew = summary_with z (rights_of z (cut_slots z b.slots (line_has z b.slots (space_pages z s)) all_rights)) frames

    -- the space aside
    wiped_is : withdrawn_of z b (line_has z b.slots (space_pages z s)) all_rights anew ≡ record { reply = emptied_reply b.slots (wiped z s b.slots); state = alone (with_slots z b (wiped z s b.slots) no_taker) }
    unfolding board_after
    wiped_is =
        withdrawn_is z b sound (line_has z b.slots (space_pages z s)) all_rights (wiped z s b.slots) (length_wiped z s b.slots) wiped_stays wiped_cut anew
        (counts_anew z b sound (line_has z b.slots (space_pages z s)) all_rights (wiped z s b.slots) (length_wiped z s b.slots) wiped_stays wiped_cut frames
        (still_framed frames framed (slot_at (wiped z s b.slots)) (delete_withdrawn z one b sound s fine)))

    -- the space is made not live first, which no withdrawal asks about
    pub delete_is : withdrawn_of z (with_live b s false) (line_has z b.slots (space_pages z s)) all_rights anew ≡ accept z (alone b) (Delete s)
    unfolding withdrawn_of cut_of cut_lost board_after memory_after report
    delete_is = λ i. record {
      reply = (wiped_is i).reply;
      state = alone (with_live (wiped_is i).state.board s false);
    }
