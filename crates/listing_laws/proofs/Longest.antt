-- How long the listing of a sound board can be, to the byte.
use Prim.Native.Nat.{ℕ, zero, suc, ◌+◌, ◌-◌, ◌/◌, ◌%◌, ◌≤◌, zero-le}
use mathlib.Core.Path.{◌≡◌, refl}
use mathlib.Core.Bool.{Bool, true, false, cond}
use mathlib.Core.List.{[], ◌∷◌, ◌++◌}
use native.Mathlib.Omega.{arith}
use lib.ListN.{length, length-append}
use lib.Dec.{ltb}
use borrow.Author.Tests.{le-ltb, ltb-false}
use Rattle.lend.specs.declared.Link.{Link}
use Rattle.lend.specs.declared.Link.TheVariants.{Nothing, Frame, Page}
use Rattle.lend.specs.Sizes.{Sizes, slot_count, space_of}
use Rattle.lend.specs.Rights.{all_rights}
use Rattle.lend.specs.Tables.{Tables, table_of}
use Rattle.lend.specs.Sound.{Lent, Sound}
use Rattle.text.specs.Decimal.{digit_byte, decimal_in, decimal}
use Rattle.text.specs.Write.{live_line, page_line, held_line}
use Rattle.text.specs.Write as write
use Rattle.listing.specs.Live.{live_number, all_live}
use Rattle.listing.specs.Listing.{page_in, link_line, slot_line, pages_from, pages_listed, held_outside, listing_of}
use Rattle.listing.proofs.Said.{Readable}
use Rattle.listing_laws.proofs.RoundTrip.{content_fits}

-- a larger number has no fewer digits
digits_rise : (k m n : ℕ) → m ≤ n → length (decimal_in k m) ≤ length (decimal_in k n)
unfolding decimal_in
digits_rise zero m n h = zero-le
digits_rise (suc k) m n h = go (ltb m 10) refl (digits_rise k (m / 10) (n / 10) (omega arith))
  where
    go : (t : Bool) → ltb m 10 ≡ t → length (decimal_in k (m / 10)) ≤ length (decimal_in k (n / 10))
        → length (cond t [] (decimal_in k (m / 10)) ++ digit_byte (m % 10) ∷ []) ≤ length (cond (ltb n 10) [] (decimal_in k (n / 10)) ++ digit_byte (n % 10) ∷ [])
    go true e q = simp length-append (omega arith)
    go false e q = let l : 10 ≤ m = ltb-false m 10 e in rw (le-ltb n 10 (omega arith)) (simp length-append (omega arith))

pub decimal_rise : (m n : ℕ) → m ≤ n → length (decimal m) ≤ length (decimal n)
unfolding decimal
decimal_rise m n h = digits_rise 10 m n h

-- ── the longest line of each page ────────────────────────────────────────
-- with the last page of the last space as its parent
unfoldable pub longest_line : Sizes → ℕ → ℕ
longest_line z k = length (page_line (space_of z k) (page_in z k) (z.spaces - 1) (z.pages - 1) all_rights)

-- of n pages from page k on
unfoldable pub longest_lines : Sizes → ℕ → ℕ → ℕ
longest_lines z k zero = 0
longest_lines z k (suc n) = longest_line z k + longest_lines z (suc k) n

-- and of the whole
unfoldable pub longest : Sizes → ℕ
longest z = length (live_line (all_live z)) + (longest_lines z z.pages (slot_count z - z.pages) + length (held_line (slot_count z - z.pages)))

one_line : (s : ℕ) (p q q' r r' t t' : ℕ) → q ≤ q' → r ≤ r' → t ≤ t' → length (page_line s p q r t) ≤ length (page_line s p q' r' t')
unfolding page_line write.entry
one_line s p q q' r r' t t' hq hr ht = simp length-append (omega (arith, decimal_rise q q' hq, decimal_rise r r' hr, decimal_rise t t' ht))

live_line_law : (m n : ℕ) → m ≤ n → length (live_line m) ≤ length (live_line n)
unfolding live_line write.entry
live_line_law m n h = simp length-append (omega (arith, decimal_rise m n h))

held_line_law : (m n : ℕ) → m ≤ n → length (held_line m) ≤ length (held_line n)
unfolding held_line write.entry
held_line_law m n h = simp length-append (omega (arith, decimal_rise m n h))

module _ (z : Sizes) (small : Readable z) (b : Tables) (w : Sound z b) where
  pub page_line_law : (k : ℕ) → z.pages ≤ k → length (slot_line (space_of z k) (page_in z k) (table_of b k)) ≤ longest_line z k
  unfolding slot_line longest_line
  page_line_law k h = go (table_of b k).link refl
    where
      go : (l : Link) → (table_of b k).link ≡ l → length (link_line (space_of z k) (page_in z k) (table_of b k).rights l) ≤ length (page_line (space_of z k) (page_in z k) (z.spaces - 1) (z.pages - 1) all_rights)
      go Nothing e = zero-le
      go (Frame i) e = absurd (w.pages.no_frame k i h e)
      go (Page s p) e =
          let g : Lent z b.live (table_of b) k s p = w.pages.lent k s p e in
          one_line (space_of z k) (page_in z k) s (z.spaces - 1) p (z.pages - 1) (table_of b k).rights all_rights (omega (arith, g.space_in)) (omega (arith, g.page_in)) g.known_rights

  pub page_lines : (n k : ℕ) → z.pages ≤ k → length (pages_from z (table_of b) k n) ≤ longest_lines z k n
  unfolding pages_from longest_lines
  page_lines zero k h = zero-le
  page_lines (suc n) k h = rw length-append (omega (arith, page_line_law k h, page_lines n (suc k) (omega arith)))

  -- where the page lines leave n bytes of what they could have, so does the listing
  pub leaving : (n : ℕ) → length (pages_from z (table_of b) z.pages (slot_count z - z.pages)) + n ≤ longest_lines z z.pages (slot_count z - z.pages)
      → length (listing_of z b) + n ≤ longest z
  unfolding listing_of pages_listed longest
  leaving n h =
      let fits = content_fits z small b w in
      let live = live_line_law (live_number b.live) (all_live z) fits.live_to in
      let held = held_line_law (held_outside z (table_of b)) (slot_count z - z.pages) fits.held_to in
      simp length-append (omega (arith, live, h, held))

  -- no sound board has a longer listing
  pub at_most : length (listing_of z b) ≤ longest z
  at_most = let h = page_lines (slot_count z - z.pages) z.pages (omega arith) in omega (arith, leaving 0 (omega (arith, h)))
