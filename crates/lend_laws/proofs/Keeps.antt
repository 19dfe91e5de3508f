-- create, delete, unmap and flush keep a sound board sound, and only withdraw.
use mathlib.Core.Path.{◌≡◌, refl, sym, subst, ◌∙◌, fun_ext}
use mathlib.Core.Bool.{Bool, true, false, ◌||◌, cond}
use mathlib.Core.List.{List}
use Prim.Native.Nat.{ℕ, ◌≤◌}
use native.Mathlib.Decide.{ℕ_discrete}
use native.Mathlib.Omega.{arith}
use lib.Dec.{T, lit<}
use lib.ListN.{length, set, length-set}
use Rattle.lend.specs.declared.Slot.{Slot}
use Rattle.lend.specs.Sizes.{Sizes, key}
use Rattle.lend.specs.Rights.{all_rights}
use Rattle.lend.specs.Slots.{Table, slot_at, held}
use Rattle.lend.specs.Tables.{Tables, State, table_of}
use Rattle.lend.specs.Line.{is_on_line, below, meets}
use Rattle.lend.specs.Cache.{dropped_where, lost_right}
use Rattle.lend.specs.Sound.{SoundPages, SoundCache, Sound}
use Rattle.lend.specs.Withdraw.{unmapped, flushed}
use Rattle.lend.specs.Spaces.{wiped}
use Rattle.lend.specs.Calls.{Call, Create, Delete, Unmap, Flush, Map, Grant, Translate, Load, Store, number, with_slots, no_taker, with_live, board_after, step}
use Rattle.lend_basics.proofs.Rights.{within_zero_l}
use Rattle.lend_sound.proofs.Summary.{summary_long}
use Rattle.lend_laws.proofs.Withdraw.{cut_zero, withdraw, Closed, withdraw_sound, link_kept}
use Rattle.lend_laws.proofs.Flush.{length_unmapped, length_flushed, unmap_closed, flush_closed, unmapped_is, flushed_is}
use Rattle.lend_laws.proofs.Spaces.{out_of_pool, length_wiped, wiped_closed, wiped_is, wiped_gone, create_live, delete_live}
use Rattle.lend_laws.proofs.CacheDrops.{length_dropped, withdraw_cache}
use Rattle.lend_laws.proofs.Accepted.{accepted, refused, CreateFine, DeleteFine, PageFine, create_fine, delete_fine, unmap_fine, flush_fine}

-- ── a change that only withdraws ─────────────────────────────────────────
-- the table f became g by a withdrawal
pub record Withdrawn (z : Sizes) (f g : Table) : Type 0 where
  pub amounts : ℕ → ℕ
  pub closed : Closed z f amounts
  pub is : g ≡ withdraw amounts f

-- no change is a withdrawal of nothing
none_withdrawn : (z : Sizes) (live : List Bool) (f : Table) → SoundPages z live f → Withdrawn z f f
none_withdrawn z live f sound = record {
  amounts = λ k. 0;
  closed = record { small = λ k. lit< tt; not_pool = λ k h. refl; down = λ k s p e. within_zero_l 0 (lit< tt) };
  is = sym (fun_ext (cut_zero z live f sound));
}

-- a page that is held after a withdrawal has its old link
pub withdrawn_link : (z : Sizes) (live : List Bool) (f g : Table) → SoundPages z live f → Withdrawn z f g → (k : ℕ) → T (held (g k))
    → (g k).link ≡ (f k).link
withdrawn_link z live f g sound w k h =
    rw w.is (link_kept z live f sound w.amounts w.closed k (subst (λ (x : Table). T (held (x k))) w.is h))

-- ── boards ───────────────────────────────────────────────────────────────
module _ (z : Sizes) (b : Tables) (sound : Sound z b) where
  -- a board whose slots change by a withdrawal, with the entries of the pages that lose a right dropped
  slots_sound : (new : List Slot) → length new ≡ length b.slots
      → Withdrawn z (table_of b) (slot_at new) → Sound z (with_slots z b new no_taker)
  slots_sound new len w = record {
    shape = record {
      slots_long = len ∙ sound.shape.slots_long;
      live_long = sound.shape.live_long;
      places_long = length_dropped z (λ k. lost_right (table_of b) (slot_at new) k || no_taker k) b.places ∙ sound.shape.places_long;
      summary_long = summary_long z (slot_at new);
    };
    pages = subst (λ (g : Table). SoundPages z b.live g) (sym w.is)
        (withdraw_sound z b.live (table_of b) sound.pages w.amounts w.closed);
    cache = subst
        (λ (g : Table). SoundCache z g (dropped_where z (λ k. lost_right (table_of b) g k || no_taker k) b.places) b.next) (sym w.is)
        (withdraw_cache z b.live (table_of b) sound.pages w.amounts w.closed b.places b.next sound.cache);
    summary = refl;
  }

  -- a board whose live list changes at one space
  live_sound : (s : ℕ) (is : Bool) → SoundPages z (set b.live s is) (table_of b) → Sound z (with_live b s is)
  live_sound s is pages = record {
    shape = record {
      slots_long = sound.shape.slots_long;
      live_long = length-set b.live s is ∙ sound.shape.live_long;
      places_long = sound.shape.places_long;
      summary_long = sound.shape.summary_long;
    };
    pages = pages;
    cache = sound.cache;
    summary = sound.summary;
  }

-- ── the four calls ───────────────────────────────────────────────────────
module _ (z : Sizes) (some_page : 1 ≤ z.pages) (b : Tables) (sound : Sound z b) where
  -- a create leaves the slots
  create_withdrawn : (s : ℕ) → Withdrawn z (table_of b) (table_of (board_after z b (Create s)))
  unfolding board_after
  create_withdrawn s = none_withdrawn z b.live (table_of b) sound.pages

  wiped_withdrawn : (s : ℕ) → 1 ≤ s → Withdrawn z (table_of b) (slot_at (wiped z s b.slots))
  wiped_withdrawn s out = record {
    amounts = λ k. cond (meets z (table_of b) k s) all_rights 0;
    closed = wiped_closed z b.live (table_of b) sound.shape.live_long sound.pages s out;
    is = wiped_is z b.live b.slots sound.shape.live_long sound.pages s out some_page;
  }

  -- a delete is a withdrawal
  pub delete_withdrawn : (s : ℕ) → DeleteFine z b s → Withdrawn z (table_of b) (table_of (board_after z b (Delete s)))
  unfolding board_after
  delete_withdrawn s fine = wiped_withdrawn s (omega (arith, fine.others))

  -- an unmap is one
  pub unmap_withdrawn : (s p d : ℕ) → PageFine z b s p d → Withdrawn z (table_of b) (table_of (board_after z b (Unmap s p d)))
  unfolding board_after
  unmap_withdrawn s p d fine = record {
    amounts = λ k. cond (below z (table_of b) k (key z s p)) d 0;
    closed = unmap_closed z b.live (table_of b) sound.shape.live_long sound.pages (key z s p) d fine.known_rights;
    is = unmapped_is z b.live b.slots sound.shape.live_long sound.pages (key z s p) d;
  }

  -- a flush of a page outside space 0 is one
  pub flush_withdrawn : (s p d : ℕ) → 1 ≤ s → PageFine z b s p d → Withdrawn z (table_of b) (table_of (board_after z b (Flush s p d)))
  unfolding board_after
  flush_withdrawn s p d out fine = record {
    amounts = λ k. cond (is_on_line z (table_of b) k (key z s p)) d 0;
    closed = flush_closed z b.live (table_of b) sound.shape.live_long sound.pages (key z s p) d
        (out_of_pool z s p out) fine.known_rights;
    is = flushed_is z b.live b.slots sound.shape.live_long sound.pages (key z s p) d;
  }

  -- an accepted create keeps the board sound
  create_sound : (s : ℕ) → CreateFine z b s → Sound z (board_after z b (Create s))
  unfolding board_after
  create_sound s fine =
      live_sound z b sound s true
      (create_live z b.live (table_of b) s (omega (arith, fine.space_in, sound.shape.live_long)) sound.pages)

  -- so does an accepted delete
  delete_sound : (s : ℕ) → DeleteFine z b s → Sound z (board_after z b (Delete s))
  unfolding board_after
  delete_sound s fine =
      live_sound z (with_slots z b (wiped z s b.slots) no_taker) after s false
      (delete_live z b.live (slot_at (wiped z s b.slots)) s fine.others
      (wiped_gone z b.live b.slots sound.shape.live_long sound.pages s out some_page) after.pages)
    where
      out : 1 ≤ s
      out = omega (arith, fine.others)

      after : Sound z (with_slots z b (wiped z s b.slots) no_taker)
      after = slots_sound z b sound (wiped z s b.slots) (length_wiped z s b.slots) (wiped_withdrawn s out)

  -- an accepted unmap
  unmap_sound : (s p d : ℕ) → PageFine z b s p d → Sound z (board_after z b (Unmap s p d))
  unfolding board_after
  unmap_sound s p d fine =
      slots_sound z b sound (unmapped z (key z s p) d b.slots) (length_unmapped z (key z s p) d b.slots) (unmap_withdrawn s p d fine)

  -- and an accepted flush
  flush_sound : (s p d : ℕ) → 1 ≤ s → PageFine z b s p d → Sound z (board_after z b (Flush s p d))
  unfolding board_after
  flush_sound s p d out fine =
      slots_sound z b sound (flushed z (key z s p) d b.slots) (length_flushed z (key z s p) d b.slots) (flush_withdrawn s p d out fine)

-- ── one step ─────────────────────────────────────────────────────────────
-- create, delete, unmap and flush
abbrev pub plain : Call → Bool
plain (Create space) = true
plain (Delete space) = true
plain (Unmap space page rights) = true
plain (Flush space page rights) = true
plain (Map from page to at rights) = false
plain (Grant from page to at rights) = false
plain (Translate space address rights) = false
plain (Load space address) = false
plain (Store space address byte) = false

-- the call is one of them
abbrev pub Plain : Call → Type 0
Plain c = T (plain c)

module _ (z : Sizes) (some_page : 1 ≤ z.pages) (st : State) (sound : Sound z st.board) where
  accepted_sound : (c : Call) → Plain c → number z st c ≡ 0 → Sound z (board_after z st.board c)
  accepted_sound (Create s) y e = create_sound z some_page st.board sound s (create_fine z st s e)
  accepted_sound (Delete s) y e = delete_sound z some_page st.board sound s (delete_fine z st s e)
  accepted_sound (Unmap s p d) y e = unmap_sound z some_page st.board sound s p d (unmap_fine z st s p d e)
  accepted_sound (Flush s p d) y e = let r = flush_fine z st s p d e in flush_sound z some_page st.board sound s p d r.1 r.0
  accepted_sound (Map from page to at rights) y e = absurd y
  accepted_sound (Grant from page to at rights) y e = absurd y
  accepted_sound (Translate space address rights) y e = absurd y
  accepted_sound (Load space address) y e = absurd y
  accepted_sound (Store space address byte) y e = absurd y

  -- an accepted one only withdraws
  pub accepted_withdrawn : (c : Call) → Plain c → number z st c ≡ 0 → Withdrawn z (table_of st.board) (table_of (board_after z st.board c))
  accepted_withdrawn (Create s) y e = create_withdrawn z some_page st.board sound s
  accepted_withdrawn (Delete s) y e = delete_withdrawn z some_page st.board sound s (delete_fine z st s e)
  accepted_withdrawn (Unmap s p d) y e = unmap_withdrawn z some_page st.board sound s p d (unmap_fine z st s p d e)
  accepted_withdrawn (Flush s p d) y e = let r = flush_fine z st s p d e in flush_withdrawn z some_page st.board sound s p d r.1 r.0
  accepted_withdrawn (Map from page to at rights) y e = absurd y
  accepted_withdrawn (Grant from page to at rights) y e = absurd y
  accepted_withdrawn (Translate space address rights) y e = absurd y
  accepted_withdrawn (Load space address) y e = absurd y
  accepted_withdrawn (Store space address byte) y e = absurd y

-- a step of one of these calls, accepted or refused, leaves a sound board sound
pub keeps_sound : (z : Sizes) → 1 ≤ z.pages → (st : State) → Sound z st.board → (c : Call) → Plain c
    → Sound z (step z st c).state.board
keeps_sound z some_page st sound c y = go (ℕ_discrete (number z st c) 0)
  where
    go : Dec (number z st c ≡ 0) → Sound z (step z st c).state.board
    go (yes e) = rw (accepted z st c e) (accepted_sound z some_page st sound c y e)
    go (no h) = rw (refused z st c h) sound
