-- The turns of a loop that lists the held pages outside space 0 and counts them.
use Prim.Native.Nat.{ℕ, zero, suc, ◌+◌, ◌-◌, ◌<◌, ◌≤◌, zero-le}
use mir.Val.{bool_byte}
use mathlib.Core.Path.{◌≡◌, refl, ap, ◌∙◌}
use mathlib.Core.Bool.{Bool, true, false, not, ◌&&◌, cond}
use mathlib.Core.List.{List, append_assoc}
use native.Mathlib.Numerals.{add-one}
use native.Mathlib.Omega.{arith}
use lib.ListN.{length, get_or, drop, length-drop}
use borrow.Author.Tests.{lt-ltb, le-ltb}
use Rattle.std.specs.List.{enumerate_from}
use Rattle.std.proofs.lemmas.List.{get_or-drop, get_or_default}
use Rattle.std.proofs.lemmas.List.FromFn.{length-enumerate_from, get_or-enumerate_from}
use Rattle.lend.specs.declared.Slot.{Slot}
use Rattle.lend.specs.Sizes.{Sizes, slot_count, space_of, in_pool}
use Rattle.lend.specs.Lists.{count}
use Rattle.lend.specs.Slots.{Table, held, slot_at, empty_slot}
use Rattle.lend.specs.Tables.{Tables, table_of}
use Rattle.text.specs.declared.write.Writer.{Writer}
use Rattle.text.specs.Write.{live_line, held_line}
use Rattle.text.specs.Writer.{writes}
use Rattle.text.proofs.Writing.{writes_none, writes_more}
use Rattle.listing.specs.Live.{live_number}
use Rattle.listing.specs.Listing.{slot_line, page_in, pages_from, pages_listed, held_outside, listing_of}

-- the pages up to k are listed, n of them: with what is left to write all is written
pub record Listing (z : Sizes) (f : Table) (w₀ w : Writer) (k n : ℕ) : Type 0 where
  pub outside : z.pages ≤ k
  pub within : k ≤ slot_count z
  pub left : writes w (pages_from z f k (slot_count z - k)) ≡ writes w₀ (pages_listed z f)
  pub counted : n ≡ count k (λ j. not (in_pool z j) && held (f j))
  pub few : n ≤ k

-- none of space 0 is counted
pub none_counted : (z : Sizes) (f : Table) (k : ℕ) → k ≤ z.pages → 0 ≡ count k (λ j. not (in_pool z j) && held (f j))
unfolding count
none_counted z f zero h = refl
none_counted z f (suc k) h = rw (lt-ltb k z.pages (omega arith)) (none_counted z f k (omega arith))

pub list_start : (z : Sizes) (f : Table) (w : Writer) → z.pages ≤ slot_count z → Listing z f w w z.pages 0
unfolding pages_listed
list_start z f w h = record { outside = omega arith; within = h; left = refl; counted = none_counted z f z.pages (omega arith); few = zero-le }

one_fewer : (m k : ℕ) → k < m → m - k ≡ suc (m - (k + 1))
one_fewer m k h = omega arith

module _ {z : Sizes} {f : Table} {w₀ w : Writer} {k n : ℕ} (g : Listing z f w₀ w k n) where
  -- the next page's line is written where it is held, and then counted
  pub list_turn : {v : Writer} → k < slot_count z → v ≡ writes w (slot_line (space_of z k) (page_in z k) (f k))
      → Listing z f w₀ v (k + 1) (n + bool_byte (held (f k)))
  unfolding pages_from count
  list_turn h u = record {
    outside = omega (arith, g.outside);
    within = omega arith;
    left = rw (u, writes_more, add-one k) (rw (one_fewer (slot_count z) k h, add-one k) at g.left);
    counted = rw (add-one k, le-ltb k z.pages g.outside, ← g.counted) (more (held (f k)));
    few = fewer (held (f k));
  }
    where
      more : (b : Bool) → n + bool_byte b ≡ cond b (suc n) n
      more true = add-one n
      more false = omega arith

      fewer : (b : Bool) → n + bool_byte b ≤ k + 1
      fewer true = omega (arith, g.few)
      fewer false = omega (arith, g.few)

  pub list_end : k ≡ slot_count z → (w ≡ writes w₀ (pages_listed z f)) × (n ≡ held_outside z f)
  unfolding pages_from held_outside
  list_end e =
      let i : slot_count z - k ≡ 0 = omega arith in
      (writes_none w ∙ rw i at g.left, g.counted ∙ ap (λ (m : ℕ). count m (λ j. not (in_pool z j) && held (f j))) e)

-- ── the pages that a loop goes through, each with its number, from page a on ─
pub numbered_length : (a : ℕ) (xs : List Slot) → length (drop a (enumerate_from 0 xs)) ≡ length xs - a
numbered_length a xs = length-drop a (enumerate_from 0 xs) ∙ ap (λ (n : ℕ). n - a) (length-enumerate_from 0 xs)

-- the page that it came to, and its slot
pub numbered_at : (a : ℕ) (xs : List Slot) (i : ℕ) {x : ℕ × Slot} → i < length (drop a (enumerate_from 0 xs)) → x ≡ get_or (drop a (enumerate_from 0 xs)) i x
    → (a + i < length xs) × (x ≡ (a + i, slot_at xs (a + i)))
numbered_at a xs i {x} h e =
    let l : a + i < length xs = omega (arith, numbered_length a xs) in
    let z : 0 + (a + i) ≡ a + i = omega arith in
    (l, e ∙ get_or-drop a (enumerate_from 0 xs) i x ∙ get_or-enumerate_from 0 xs (a + i) x l ∙ rw (z, get_or_default xs (a + i) x.1 empty_slot l))

-- the first line, the pages and then the last line are the listing
pub wrote_listing : (z : Sizes) (b : Tables) {n m : ℕ} (w : Writer) {v u x : Writer} → n ≡ live_number b.live → v ≡ writes w (live_line n)
    → (u ≡ writes v (pages_listed z (table_of b))) × (m ≡ held_outside z (table_of b))
    → x ≡ writes u (held_line m)
    → x ≡ writes w (listing_of z b)
unfolding listing_of
wrote_listing z b w d e g f = rw (f, g.0, e, d, g.1) (simp (writes_more, append_assoc) refl)
