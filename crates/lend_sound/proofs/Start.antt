-- The start board is sound, whatever the sizes.
use mathlib.Core.Path.{◌≡◌, sym, ap, ◌∙◌}
use mathlib.Core.Bool.{false, not, ◌&&◌, cond}
use mathlib.Core.List.{[], ◌∷◌}
use Prim.Native.Nat.{ℕ, ◌≤◌, ◌<◌}
use native.Mathlib.Nat.{mul-le-mul_right, div-eq_of_lt}
use native.Mathlib.Decide.{dec_lt}
use native.Mathlib.Omega.{arith}
use lib.Dec.{T, leb, lit<, lt→ltb, T_not}
use lib.Seq.{ext_get_or}
use lib.ListN.{replicate, length-replicate, get_or-replicate, get_or-eq_default}
use borrow.Author.Tests.{lt-ltb, le-ltb}
use Rattle.lend.specs.declared.Link.TheVariants.{Nothing, Frame, Page}
use Rattle.lend.specs.declared.Slot.{Slot}
use Rattle.lend.specs.Sizes.{Sizes, entry, premium, slot_count, in_pool}
use Rattle.lend.specs.Rights.{read_right, write_right, execute_right, within}
use Rattle.lend.specs.Slots.{empty_slot, frame_slot}
use Rattle.lend.specs.Tables.{Shaped, table_of, alive}
use Rattle.lend.specs.Line.{ends}
use Rattle.lend.specs.Cache.{empty_place, filled, place_at}
use Rattle.lend.specs.Sound.{Lent, Rooted, SoundPages, SoundCache, Sound}
use Rattle.lend.specs.Start.{start_board}
use Rattle.lend.specs.Summary.{ends_at, endings, endings_with, count_of, summary_of, no_count, count_at}
use Rattle.lend_sound.proofs.Summary.{summary_long, summary_counts}
use Rattle.lend_basics.proofs.Bools.{or_l}
use Rattle.lend_basics.proofs.Counting.{count_none}
use Rattle.lend_basics.proofs.Lists.{length_tabulate, tabulate_at, tabulate_past}

-- at the start spaces 0 and 1 are live, and no other
pub start_live : (z : Sizes) (s : ℕ) → s < z.spaces → alive (start_board z).live s ≡ leb s 1
unfolding start_board
start_live z s h = tabulate_at (λ s. leb s 1) z.spaces s false h

-- at the start every place of the cache is empty
pub start_place : (z : Sizes) (i : ℕ) → place_at (start_board z).places i ≡ empty_place
unfolding start_board
start_place z i = go (dec_lt i z.places)
  where
    go : Dec (i < z.places) → place_at (replicate z.places empty_place) i ≡ empty_place
    go (yes h) = get_or-replicate z.places i empty_place empty_place h
    go (no h) = get_or-eq_default (replicate z.places empty_place) empty_place {n = i} (omega (arith, length-replicate z.places empty_place))

start_shape : (z : Sizes) → Shaped z (start_board z)
unfolding start_board
start_shape z = record {
  slots_long = length_tabulate (λ k. cond (in_pool z k) (frame_slot k) empty_slot) (slot_count z);
  live_long = length_tabulate (λ s. leb s 1) z.spaces;
  places_long = length-replicate z.places empty_place;
  summary_long = length-replicate z.pages no_count;
}

module _ (z : Sizes) (two : 2 ≤ z.spaces) where
  -- at the start page k of space 0 holds frame k with every right
  pub start_pool : (k : ℕ) → k < z.pages → table_of (start_board z) k ≡ frame_slot k
  unfolding start_board
  start_pool k l =
      tabulate_at (λ k. cond (in_pool z k) (frame_slot k) empty_slot) (slot_count z) k empty_slot (omega (arith, mul-le-mul_right z.pages two))
      ∙ rw (lt-ltb k z.pages l)

  -- at the start every page outside space 0 is empty
  pub start_empty : (k : ℕ) → z.pages ≤ k → table_of (start_board z) k ≡ empty_slot
  unfolding start_board
  start_empty k l = go (dec_lt k (slot_count z))
    where
      go : Dec (k < slot_count z) → table_of (start_board z) k ≡ empty_slot
      go (yes h) =
          tabulate_at (λ k. cond (in_pool z k) (frame_slot k) empty_slot) (slot_count z) k empty_slot h
          ∙ rw (le-ltb k z.pages l)
      go (no h) = tabulate_past (λ k. cond (in_pool z k) (frame_slot k) empty_slot) (slot_count z) k empty_slot (omega arith)

  pool_or_empty : (k : ℕ) (A : Type 0) → (k < z.pages → table_of (start_board z) k ≡ frame_slot k → A) → (table_of (start_board z) k ≡ empty_slot → A) → A
  pool_or_empty k A pool empty = go (dec_lt k z.pages)
    where
      go : Dec (k < z.pages) → A
      go (yes l) = pool l (start_pool k l)
      go (no l) = empty (start_empty k (omega arith))

  start_pages : SoundPages z (start_board z).live (table_of (start_board z))
  start_pages = record {
    pool_live = live0;
    first_live = rw (start_live z 1 (omega arith)) tt;
    pool = start_pool;
    no_frame = λ k i l e. let n : Nothing ≡ Frame i = sym (ap (λ (s : Slot). s.link) (start_empty k l)) ∙ e in let x : ◌≡◌ {A = ℕ} 0 1 = cc in omega arith;
    not_live = λ k n. pool_or_empty k (table_of (start_board z) k ≡ empty_slot)
        (λ l e. let n0 : T (not (alive (start_board z).live 0)) = rw (div-eq_of_lt l) at n in absurd (T_not (alive (start_board z).live 0) n0 live0))
        (λ e. e);
    no_link = λ k d. pool_or_empty k ((table_of (start_board z) k).rights ≡ 0)
        (λ l e. let n : Nothing ≡ Frame k = sym d ∙ ap (λ (s : Slot). s.link) e in let x : ◌≡◌ {A = ℕ} 0 1 = cc in absurd (omega arith))
        (λ e. ap (λ (s : Slot). s.rights) e);
    lent = λ k s p d. pool_or_empty k (Lent z (start_board z).live (table_of (start_board z)) k s p)
        (λ l e. let n : Page s p ≡ Frame k = sym d ∙ ap (λ (s : Slot). s.link) e in let x : ◌≡◌ {A = ℕ} 0 1 = cc in absurd (omega arith))
        (λ e. let n : Page s p ≡ Nothing = sym d ∙ ap (λ (s : Slot). s.link) e in let x : ◌≡◌ {A = ℕ} 0 1 = cc in absurd (omega arith));
    rooted = λ k h. pool_or_empty k (Rooted z (table_of (start_board z)) k)
        (λ l e. record { pages = k ∷ []; is_line = ends (rw e); reaches = or_l (in_pool z k) false (lt→ltb k z.pages l); once = tt })
        (λ e. absurd (rw e at h));
  }
    where
      live0 : T (alive (start_board z).live 0)
      live0 = rw (start_live z 0 (omega arith)) tt

not_filled : (z : Sizes) (i : ℕ) → T (filled (place_at (start_board z).places i)) → ⊥
not_filled z i h = rw (start_place z i) at h

start_cache : (z : Sizes) → 1 ≤ z.places → SoundCache z (table_of (start_board z)) (start_board z).places (start_board z).next
unfolding start_board
start_cache z one = record {
  filled_names = λ i h. absurd (not_filled z i h);
  one_each = λ i j h g e. absurd (not_filled z i h);
  empty_form = λ i h. start_place z i;
  next_in = one;
}

-- at the start no page outside space 0 is held, so nothing ends at a frame
start_ends : (z : Sizes) → 2 ≤ z.spaces → (i k : ℕ) → ends_at z (table_of (start_board z)) i k ≡ false
start_ends z two i k = go (dec_lt k z.pages)
  where
    go : Dec (k < z.pages) → ends_at z (table_of (start_board z)) i k ≡ false
    go (yes l) = rw (lt-ltb k z.pages l)
    go (no l) = rw (le-ltb k z.pages (omega arith), start_empty z two k (omega arith))

start_count : (z : Sizes) → 2 ≤ z.spaces → (i : ℕ) → count_of z (table_of (start_board z)) i ≡ no_count
unfolding count_of
start_count z two i = λ j. record { held = plain j; read = with read_right j; write = with write_right j; execute = with execute_right j }
  where
    plain : endings z (table_of (start_board z)) i ≡ 0
    plain = count_none (slot_count z) (ends_at z (table_of (start_board z)) i) (λ k l. start_ends z two i k)

    with : (r : ℕ) → endings_with z (table_of (start_board z)) r i ≡ 0
    with r = count_none (slot_count z) (λ k. ends_at z (table_of (start_board z)) i k && within r (table_of (start_board z) k).rights) (λ k l. rw (start_ends z two i k))

-- its summary is that of its pages
pub start_summary : (z : Sizes) → 2 ≤ z.spaces → (start_board z).summary ≡ summary_of z (table_of (start_board z))
unfolding start_board
start_summary z two =
    ext_get_or no_count (replicate z.pages no_count) (summary_of z (table_of (start_board z)))
    (length-replicate z.pages no_count ∙ sym (summary_long z (table_of (start_board z))))
    (λ i l. at i (omega (arith, length-replicate z.pages no_count)))
  where
    at : (i : ℕ) → i < z.pages → count_at (replicate z.pages no_count) i ≡ count_at (summary_of z (table_of (start_board z))) i
    at i h = get_or-replicate z.pages i no_count no_count h ∙ sym (summary_counts z (table_of (start_board z)) i h ∙ start_count z two i)

-- where there are spaces 0 and 1 and a place, the start board is sound
pub start_sound : (z : Sizes) → 2 ≤ z.spaces → 1 ≤ z.places → Sound z (start_board z)
start_sound z two one = record { shape = start_shape z; pages = start_pages z two; cache = start_cache z one; summary = start_summary z two }

-- Entry's start board is sound
pub entry_start : Sound entry (start_board entry)
entry_start = start_sound entry (lit< tt) (lit< tt)

-- Premium's start board is sound
pub premium_start : Sound premium (start_board premium)
premium_start = start_sound premium (lit< tt) (lit< tt)
