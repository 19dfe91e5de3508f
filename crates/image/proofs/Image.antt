-- Reading an image undoes writing it, and the other way round; bytes that are no image give a board that is not sound.
use Prim.Native.Nat.{ℕ, zero, suc, ◌+◌, ◌*◌, ◌<◌}
use mathlib.Core.Path.{◌≡◌, refl, sym, ap, ◌∙◌}
use mathlib.Core.Bool.{Bool, true, false, ◌&&◌, ◌||◌}
use mathlib.Core.List.{List}
use native.Mathlib.Omega.{arith}
use lib.Dec.{T, eqb, leb, eqb→eq, leb→le}
use lib.ListN.{length, get_or, replicate}
use lib.Seq.{ext_get_or}
use borrow.Author.Tests.{eq-eqb, ne_eqb}
use Rattle.lend.specs.declared.Link.{Link}
use Rattle.lend.specs.declared.Link.TheVariants.{Nothing, Frame, Page}
use Rattle.lend.specs.declared.Slot.{Slot}
use Rattle.lend.specs.declared.Place.{Place}
use Rattle.lend.specs.declared.Count.{Count}
use Rattle.lend.specs.Sizes.{Sizes, slot_count}
use Rattle.lend.specs.Slots.{empty_slot, slot_at}
use Rattle.lend.specs.Tables.{Tables, Shaped, alive}
use Rattle.lend.specs.Cache.{empty_place, place_at}
use Rattle.lend.specs.Summary.{no_count, count_at}
use Rattle.lend.specs.SoundTest.{sound_test, pages_test}
use Rattle.lend_basics.proofs.Bools.{and_l, and_r, and_i, is_true, is_false}
use Rattle.lend_basics.proofs.Lists.{length_tabulate, tabulate_at, each, every_of}
use Rattle.image.specs.Image.{kind_of, first_in, second_in, slot_bytes, live_byte, place_bytes, low_byte, high_byte, count_bytes, image_of, live_from, cache_from, next_from, summary_from, image_bytes, byte_at, link_reads, link_from, slot_from, place_from, number_from, slot_reads, slot_in, place_in, count_in, slots_read, live_reads, is_image, slots_in, live_in, places_in, summary_in, tables_in, no_board, board_from}
use Rattle.image.proofs.Bytes.{image_long, image_slot, image_live, image_place, image_next, image_count, Parts, each_byte}

-- ── one link, one live byte ──────────────────────────────────────────────
link_back : (l : Link) → link_from (kind_of l) (first_in l) (second_in l) ≡ l
link_back Nothing = refl
link_back (Frame i) = refl
link_back (Page s p) = refl

link_reads_law : (l : Link) → T (link_reads (kind_of l) (first_in l) (second_in l))
link_reads_law Nothing = tt
link_reads_law (Frame i) = tt
link_reads_law (Page s p) = tt

record Kept (kind x y : ℕ) (l : Link) : Type 0 where
  of_kind : kind_of l ≡ kind
  of_first : first_in l ≡ x
  of_second : second_in l ≡ y

link_kept : (kind x y : ℕ) → T (link_reads kind x y) → Kept kind x y (link_from kind x y)
link_kept zero x y h = record {
  of_kind = refl;
  of_first = sym (eqb→eq x 0 (and_l (eqb x 0) (eqb y 0) h));
  of_second = sym (eqb→eq y 0 (and_r (eqb x 0) (eqb y 0) h));
}
link_kept (suc zero) x y h = record { of_kind = refl; of_first = refl; of_second = sym (eqb→eq y 0 h) }
link_kept (suc (suc zero)) x y h = record { of_kind = refl; of_first = refl; of_second = refl }
link_kept (suc (suc (suc n))) x y h =
    let k : ℕ = suc (suc (suc n)) in
    let small : T (leb k 2) = and_l (leb k 2) (leb 1 k || eqb x 0) (and_l (leb k 2 && (leb 1 k || eqb x 0)) (leb 2 k || eqb y 0) h) in
    absurd (omega (arith, leb→le k 2 small))

live_back : (b : Bool) → eqb (live_byte b) 1 ≡ b
live_back true = refl
live_back false = refl

live_reads_law : (b : Bool) → T (leb (live_byte b) 1)
live_reads_law true = tt
live_reads_law false = tt

live_kept : (n : ℕ) → T (leb n 1) → live_byte (eqb n 1) ≡ n
live_kept zero h = refl
live_kept (suc zero) h = refl
live_kept (suc (suc n)) h = absurd (omega (arith, leb→le (suc (suc n)) 1 h))

slot_back : (s : Slot) → slot_from (kind_of s.link) (first_in s.link) (second_in s.link) s.rights ≡ s
slot_back s = λ i. record { link = link_back s.link i; rights = s.rights }

-- ── one number of the summary ────────────────────────────────────────────
number_back : (n : ℕ) {low high : ℕ} → low ≡ low_byte n → high ≡ high_byte n → number_from low high ≡ n
number_back n e f = omega (arith, e, f)

low_kept : (low high : ℕ) → low < 256 → low_byte (number_from low high) ≡ low
low_kept low high h = omega arith

high_kept : (low high : ℕ) → low < 256 → high_byte (number_from low high) ≡ high
high_kept low high h = omega arith

-- ── what was written is read ─────────────────────────────────────────────
module _ (z : Sizes) (t : Tables) (s : Shaped z t) where
  slot_written : (k : ℕ) → k < slot_count z → slot_in (image_of t) (4 * k) ≡ slot_at t.slots k
  slot_written k h =
      let at-0 = image_slot z t s k 0 (4 * k) h (omega arith) (omega arith) in
      let at_1 = image_slot z t s k 1 (4 * k + 1) h (omega arith) refl in
      let at-2 = image_slot z t s k 2 (4 * k + 2) h (omega arith) refl in
      let at-3 = image_slot z t s k 3 (4 * k + 3) h (omega arith) refl in
      (λ i. slot_from (at-0 i) (at_1 i) (at-2 i) (at-3 i)) ∙ slot_back (slot_at t.slots k)

  place_written : (i : ℕ) → i < z.places → place_in (image_of t) (cache_from z + 4 * i) ≡ place_at t.places i
  place_written i h =
      let at-0 = image_place z t s i 0 (cache_from z + 4 * i) h (omega arith) (omega arith) in
      let at_1 = image_place z t s i 1 (cache_from z + 4 * i + 1) h (omega arith) refl in
      let at-2 = image_place z t s i 2 (cache_from z + 4 * i + 2) h (omega arith) refl in
      let at-3 = image_place z t s i 3 (cache_from z + 4 * i + 3) h (omega arith) refl in
      λ j. place_from (at-0 j) (at_1 j) (at-2 j) (at-3 j)

  count_written : (k : ℕ) → k < z.pages → count_in (image_of t) (summary_from z + 8 * k) ≡ count_at t.summary k
  count_written k h =
      let at-0 = image_count z t s k 0 (summary_from z + 8 * k) h (omega arith) (omega arith) in
      let at_1 = image_count z t s k 1 (summary_from z + 8 * k + 1) h (omega arith) refl in
      let at-2 = image_count z t s k 2 (summary_from z + 8 * k + 2) h (omega arith) refl in
      let at-3 = image_count z t s k 3 (summary_from z + 8 * k + 3) h (omega arith) refl in
      let at-4 = image_count z t s k 4 (summary_from z + 8 * k + 4) h (omega arith) refl in
      let at_5 = image_count z t s k 5 (summary_from z + 8 * k + 5) h (omega arith) refl in
      let at-6 = image_count z t s k 6 (summary_from z + 8 * k + 6) h (omega arith) refl in
      let at_7 = image_count z t s k 7 (summary_from z + 8 * k + 7) h (omega arith) refl in
      let n = count_at t.summary k in
      λ i. record {
        held = number_back n.held at-0 at_1 i;
        read = number_back n.read at-2 at-3 i;
        write = number_back n.write at-4 at_5 i;
        execute = number_back n.execute at-6 at_7 i;
      }

  slots_written : slots_in z (image_of t) ≡ t.slots
  unfolding slots_in
  slots_written =
      ext_get_or empty_slot (slots_in z (image_of t)) t.slots (long ∙ sym s.slots_long)
      (λ k l. tabulate_at (λ j. slot_in (image_of t) (4 * j)) (slot_count z) k empty_slot (omega (arith, long)) ∙ slot_written k (omega (arith, long)))
    where
      long : length (slots_in z (image_of t)) ≡ slot_count z
      long = length_tabulate (λ k. slot_in (image_of t) (4 * k)) (slot_count z)

  live_written : live_in z (image_of t) ≡ t.live
  unfolding live_in
  live_written =
      ext_get_or false (live_in z (image_of t)) t.live (long ∙ sym s.live_long)
      (λ k l. tabulate_at (λ j. eqb (byte_at (image_of t) (live_from z + j)) 1) z.spaces k false (omega (arith, long)) ∙ at k (omega (arith, long)))
    where
      long : length (live_in z (image_of t)) ≡ z.spaces
      long = length_tabulate (λ j. eqb (byte_at (image_of t) (live_from z + j)) 1) z.spaces

      at : (k : ℕ) → k < z.spaces → eqb (byte_at (image_of t) (live_from z + k)) 1 ≡ alive t.live k
      at k h = ap (λ (n : ℕ). eqb n 1) (image_live z t s k h) ∙ live_back (alive t.live k)

  places_written : places_in z (image_of t) ≡ t.places
  unfolding places_in
  places_written =
      ext_get_or empty_place (places_in z (image_of t)) t.places (long ∙ sym s.places_long)
      (λ k l. tabulate_at (λ i. place_in (image_of t) (cache_from z + 4 * i)) z.places k empty_place (omega (arith, long)) ∙ place_written k (omega (arith, long)))
    where
      long : length (places_in z (image_of t)) ≡ z.places
      long = length_tabulate (λ i. place_in (image_of t) (cache_from z + 4 * i)) z.places

  summary_written : summary_in z (image_of t) ≡ t.summary
  unfolding summary_in
  summary_written =
      ext_get_or no_count (summary_in z (image_of t)) t.summary (long ∙ sym s.summary_long)
      (λ k l. tabulate_at (λ i. count_in (image_of t) (summary_from z + 8 * i)) z.pages k no_count (omega (arith, long)) ∙ count_written k (omega (arith, long)))
    where
      long : length (summary_in z (image_of t)) ≡ z.pages
      long = length_tabulate (λ i. count_in (image_of t) (summary_from z + 8 * i)) z.pages

  tables_written : tables_in z (image_of t) ≡ t
  unfolding tables_in
  tables_written = λ i. record {
    slots = slots_written i;
    live = live_written i;
    places = places_written i;
    next = image_next z t s i;
    summary = summary_written i;
  }

  -- what is written is an image
  pub image_is : T (is_image z (image_of t))
  unfolding is_image slots_read live_reads
  image_is =
      and_i (eqb (length (image_of t)) (image_bytes z) && slots_read z (image_of t)) (live_reads z (image_of t))
      (and_i (eqb (length (image_of t)) (image_bytes z)) (slots_read z (image_of t))
      (rw (eq-eqb (length (image_of t)) (image_bytes z) (image_long z t s)) tt)
      (every_of (slot_count z) (λ k. slot_reads (image_of t) (4 * k)) slot))
      (every_of z.spaces (λ k. leb (byte_at (image_of t) (live_from z + k)) 1) (λ k h. rw (image_live z t s k h) (live_reads_law (alive t.live k))))
    where
      slot : (k : ℕ) → k < slot_count z → T (slot_reads (image_of t) (4 * k))
      slot k h =
          rw (image_slot z t s k 0 (4 * k) h (omega arith) (omega arith), image_slot z t s k 1 (4 * k + 1) h (omega arith) refl, image_slot z t s k 2 (4 * k + 2) h (omega arith) refl)
          (link_reads_law (slot_at t.slots k).link)

  -- and gives the board back
  pub read_back : board_from z (image_of t) ≡ t
  unfolding board_from
  read_back = rw (is_true (is_image z (image_of t)) image_is) tables_written

-- ── what was read is written ─────────────────────────────────────────────
pub tables_shaped : (z : Sizes) (bytes : List ℕ) → Shaped z (tables_in z bytes)
unfolding tables_in slots_in live_in places_in summary_in
tables_shaped z bytes = record {
  slots_long = length_tabulate (λ k. slot_in bytes (4 * k)) (slot_count z);
  live_long = length_tabulate (λ s. eqb (byte_at bytes (live_from z + s)) 1) z.spaces;
  places_long = length_tabulate (λ i. place_in bytes (cache_from z + 4 * i)) z.places;
  summary_long = length_tabulate (λ i. count_in bytes (summary_from z + 8 * i)) z.pages;
}

module _ (z : Sizes) (bytes : List ℕ) (is : T (is_image z bytes)) where
  pub is_long : length bytes ≡ image_bytes z
  unfolding is_image
  is_long =
      eqb→eq (length bytes) (image_bytes z)
      (and_l (eqb (length bytes) (image_bytes z)) (slots_read z bytes) (and_l (eqb (length bytes) (image_bytes z) && slots_read z bytes) (live_reads z bytes) is))

  slot_reads_law : (k : ℕ) → k < slot_count z → T (slot_reads bytes (4 * k))
  unfolding is_image slots_read
  slot_reads_law =
      each (slot_count z) (λ k. slot_reads bytes (4 * k))
      (and_r (eqb (length bytes) (image_bytes z)) (slots_read z bytes) (and_l (eqb (length bytes) (image_bytes z) && slots_read z bytes) (live_reads z bytes) is))

  live_byte_law : (s : ℕ) → s < z.spaces → T (leb (byte_at bytes (live_from z + s)) 1)
  unfolding is_image live_reads
  live_byte_law =
      each z.spaces (λ s. leb (byte_at bytes (live_from z + s)) 1) (and_r (eqb (length bytes) (image_bytes z) && slots_read z bytes) (live_reads z bytes) is)

  parts : ((j : ℕ) → byte_at bytes j < 256) → Parts z (λ j. get_or (image_of (tables_in z bytes)) j 0 ≡ get_or bytes j 0)
  unfolding tables_in slots_in live_in places_in summary_in
  parts small = record {
    slots = λ k c h l. image_slot z (tables_in z bytes) (tables_shaped z bytes) k c (4 * k + c) h l refl
        ∙ (ap (λ (s : Slot). get_or (slot_bytes s) c 0) (tabulate_at (λ j. slot_in bytes (4 * j)) (slot_count z) k empty_slot h) ∙ of_slot k (slot_reads_law k h) c l);
    live = λ i h. image_live z (tables_in z bytes) (tables_shaped z bytes) i h
        ∙ (ap live_byte (tabulate_at (λ s. eqb (byte_at bytes (live_from z + s)) 1) z.spaces i false h) ∙ live_kept (byte_at bytes (live_from z + i)) (live_byte_law i h));
    places = λ i c h l. image_place z (tables_in z bytes) (tables_shaped z bytes) i c (cache_from z + 4 * i + c) h l refl
        ∙ (ap (λ (q : Place). get_or (place_bytes q) c 0) (tabulate_at (λ j. place_in bytes (cache_from z + 4 * j)) z.places i empty_place h) ∙ of_place (cache_from z + 4 * i) c l);
    next = image_next z (tables_in z bytes) (tables_shaped z bytes);
    summary = λ i c h l. image_count z (tables_in z bytes) (tables_shaped z bytes) i c (summary_from z + 8 * i + c) h l refl
        ∙ (ap (λ (n : Count). get_or (count_bytes n) c 0) (tabulate_at (λ j. count_in bytes (summary_from z + 8 * j)) z.pages i no_count h) ∙ of_count (summary_from z + 8 * i) c l);
  }
    where
      of_slot : (k : ℕ) → T (slot_reads bytes (4 * k)) → (c : ℕ) → c < 4 → get_or (slot_bytes (slot_in bytes (4 * k))) c 0 ≡ get_or bytes (4 * k + c) 0
      of_slot k h zero l = (link_kept (byte_at bytes (4 * k)) (byte_at bytes (4 * k + 1)) (byte_at bytes (4 * k + 2)) h).of_kind ∙ ap (byte_at bytes) (omega arith)
      of_slot k h (suc zero) l = (link_kept (byte_at bytes (4 * k)) (byte_at bytes (4 * k + 1)) (byte_at bytes (4 * k + 2)) h).of_first
      of_slot k h (suc (suc zero)) l = (link_kept (byte_at bytes (4 * k)) (byte_at bytes (4 * k + 1)) (byte_at bytes (4 * k + 2)) h).of_second
      of_slot k h (suc (suc (suc zero))) l = refl
      of_slot k h (suc (suc (suc (suc c)))) l = absurd (omega arith)

      of_place : (at c : ℕ) → c < 4 → get_or (place_bytes (place_in bytes at)) c 0 ≡ get_or bytes (at + c) 0
      of_place at zero l = ap (byte_at bytes) (omega arith)
      of_place at (suc zero) l = refl
      of_place at (suc (suc zero)) l = refl
      of_place at (suc (suc (suc zero))) l = refl
      of_place at (suc (suc (suc (suc c)))) l = absurd (omega arith)

      of_count : (at c : ℕ) → c < 8 → get_or (count_bytes (count_in bytes at)) c 0 ≡ get_or bytes (at + c) 0
      of_count at zero l = low_kept (byte_at bytes at) (byte_at bytes (at + 1)) (small at) ∙ ap (byte_at bytes) (omega arith)
      of_count at (suc zero) l = high_kept (byte_at bytes at) (byte_at bytes (at + 1)) (small at)
      of_count at (suc (suc zero)) l = low_kept (byte_at bytes (at + 2)) (byte_at bytes (at + 3)) (small (at + 2))
      of_count at (suc (suc (suc zero))) l = high_kept (byte_at bytes (at + 2)) (byte_at bytes (at + 3)) (small (at + 2))
      of_count at (suc (suc (suc (suc zero)))) l = low_kept (byte_at bytes (at + 4)) (byte_at bytes (at + 5)) (small (at + 4))
      of_count at (suc (suc (suc (suc (suc zero))))) l = high_kept (byte_at bytes (at + 4)) (byte_at bytes (at + 5)) (small (at + 4))
      of_count at (suc (suc (suc (suc (suc (suc zero)))))) l = low_kept (byte_at bytes (at + 6)) (byte_at bytes (at + 7)) (small (at + 6))
      of_count at (suc (suc (suc (suc (suc (suc (suc zero))))))) l = high_kept (byte_at bytes (at + 6)) (byte_at bytes (at + 7)) (small (at + 6))
      of_count at (suc (suc (suc (suc (suc (suc (suc (suc c)))))))) l = absurd (omega arith)

  -- numbers below 256, as every lent byte is
  pub write_back : ((j : ℕ) → byte_at bytes j < 256) → image_of (board_from z bytes) ≡ bytes
  unfolding board_from
  write_back small =
      rw (is_true (is_image z bytes) is)
      (ext_get_or 0 (image_of (tables_in z bytes)) bytes (long ∙ sym is_long)
      (λ j l. each_byte z (λ i. get_or (image_of (tables_in z bytes)) i 0 ≡ get_or bytes i 0) (parts small) j (omega (arith, long))))
    where
      long : length (image_of (tables_in z bytes)) ≡ image_bytes z
      long = image_long z (tables_in z bytes) (tables_shaped z bytes)

-- ── bytes that are no image ──────────────────────────────────────────────
none_live : (n : ℕ) → alive (replicate n false) 0 ≡ false
none_live zero = refl
none_live (suc n) = refl

-- the board that stands for them is not sound
pub no_board_law : (z : Sizes) → sound_test z (no_board z) ≡ false
unfolding sound_test pages_test no_board
no_board_law z = is_false (sound_test z (no_board z)) (λ h. let l : T (alive (replicate z.spaces false) 0) = search (and_l, and_r) depth 12 in (rw (none_live z.spaces) at l))

-- so that soundness shows an image
pub sound_image : (z : Sizes) (bytes : List ℕ) → T (sound_test z (board_from z bytes)) → T (is_image z bytes)
unfolding board_from
sound_image z bytes h = go (is_image z bytes) refl
  where
    go : (b : Bool) → is_image z bytes ≡ b → T (is_image z bytes)
    go true e = rw e tt
    go false e = let u : T (sound_test z (no_board z)) = rw e at h in absurd (rw (no_board_law z) at u)

-- the code makes that board of arrays of one value each
pub no_board_made : (z : Sizes) (n : ℕ) → n ≡ slot_count z
    → (record {
      slots = replicate n empty_slot;
      live = replicate z.spaces false;
      places = replicate z.places empty_place;
      next = 0;
      summary = replicate z.pages no_count;
    })
    ≡ no_board z
unfolding no_board
no_board_made z n e = λ i. record {
  slots = replicate (e i) empty_slot;
  live = replicate z.spaces false;
  places = replicate z.places empty_place;
  next = 0;
  summary = replicate z.pages no_count;
}

-- ── the board of any bytes, as the code finds it ─────────────────────────
module _ (z : Sizes) (bytes : List ℕ) where
  -- bytes of another length
  pub board_short : (t : Tables) → (length bytes ≡ image_bytes z → ⊥) → t ≡ no_board z → t ≡ board_from z bytes
  unfolding board_from is_image
  board_short t h e = rw (ne_eqb (length bytes) (image_bytes z) h) e

  image_reads : T (is_image z bytes) → T (slots_read z bytes && live_reads z bytes)
  unfolding is_image
  image_reads is =
      and_i (slots_read z bytes) (live_reads z bytes)
      (and_r (eqb (length bytes) (image_bytes z)) (slots_read z bytes) (and_l (eqb (length bytes) (image_bytes z) && slots_read z bytes) (live_reads z bytes) is))
      (and_r (eqb (length bytes) (image_bytes z) && slots_read z bytes) (live_reads z bytes) is)

  module _ (slots-ok live-ok : Bool) (of_slots : slots-ok ≡ slots_read z bytes) (of_live : live-ok ≡ live_reads z bytes) where
    -- a slot or a live byte that is none
    pub board_bad : (t : Tables) → (slots-ok && live-ok) ≡ false → t ≡ no_board z → t ≡ board_from z bytes
    unfolding board_from
    board_bad t h e = rw (is_false (is_image z bytes) (λ is. (rw (← of_slots, ← of_live, h) at (image_reads is)))) e

    -- an image
    pub board_good : (slots : List Slot) (live : List Bool) (places : List Place) (summary : List Count) → length bytes ≡ image_bytes z → (slots-ok && live-ok) ≡ true
        → slots ≡ slots_in z bytes
        → live ≡ live_in z bytes
        → places ≡ places_in z bytes
        → summary ≡ summary_in z bytes
        → (record { slots = slots; live = live; places = places; next = byte_at bytes (next_from z); summary = summary }) ≡ board_from z bytes
    unfolding board_from is_image tables_in
    board_good slots live places summary e h p q r u =
        rw (eq-eqb (length bytes) (image_bytes z) e, ← of_slots, ← of_live, h)
        (λ i. record { slots = p i; live = q i; places = r i; next = byte_at bytes (next_from z); summary = u i })

-- the board of bytes that are no image is not sound
pub not_image : (z : Sizes) (bytes : List ℕ) → is_image z bytes ≡ false → sound_test z (board_from z bytes) ≡ false
unfolding board_from
not_image z bytes e = rw e (no_board_law z)
