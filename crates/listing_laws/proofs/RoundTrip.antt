-- Write, then read: a sound board comes back with an empty cache. Read, then write: an accepted listing comes back byte by byte.
use Prim.Native.Nat.{ℕ, zero, suc, ◌+◌, ◌*◌, ◌-◌, ◌≤◌, ◌<◌}
use mathlib.Core.Path.{◌≡◌, refl, sym, subst, ap, ◌∙◌}
use mathlib.Core.Bool.{Bool, true, false, not, ◌&&◌, cond}
use mathlib.Core.Logic.{◌⊎◌, inl, inr}
use mathlib.Core.List.{List, ◌∷◌}
use native.Mathlib.Omega.{arith}
use native.Mathlib.Nat.{mul-le-mul_right, eq-or-lt_of_le, le_of_suc-le-suc, le-div_iff_mul-le, div-lt_iff_lt-mul, mod-lt}
use lib.ListN.{length, set, length-set, replicate, length-replicate}
use lib.Seq.{ext_get_or, get_or-set_same, get_or-set_other}
use lib.Dec.{T, ltb, lt→ltb}
use Rattle.lend_basics.proofs.Bools.{and_r, and_i}
use Rattle.lend_basics.proofs.Lists.{length_tabulate}
use Rattle.lend.specs.declared.Link.{Link}
use Rattle.lend.specs.declared.Link.TheVariants.{Nothing, Frame, Page}
use Rattle.lend.specs.declared.Slot.{Slot}
use Rattle.lend.specs.Sizes.{Sizes, slot_count, in_pool}
use Rattle.lend.specs.Lists.{count}
use Rattle.lend.specs.Slots.{Table, empty_slot, held, linked, slot_at}
use Rattle.lend.specs.Tables.{Tables, table_of}
use Rattle.lend.specs.Summary.{summary_of}
use Rattle.lend.specs.Cache.{empty_place, filled, place_at}
use Rattle.lend.specs.Sound.{Lent, Sound}
use Rattle.lend.specs.Start.{start_board}
use Rattle.lend_sound.proofs.Start.{start_pool, start_empty}
use Rattle.listing.specs.Live.{live_number, live_flags}
use Rattle.listing.specs.Listing.{pages_listed, held_outside, listing_of}
use Rattle.listing.specs.declared.read.Row.{Row}
use Rattle.listing.specs.Content.{Content, spelt, RowFits, AllFit, no_rows, one_row, Fits, row_key, rising_above, Ordered, row_slot, placed, board_of, cleared}
use Rattle.listing.specs.Read.{accepted, reading}
use Rattle.listing.proofs.Live.{flags_of_number, number_of_flags, number_most}
use Rattle.listing.proofs.Writing.{none_counted}
use Rattle.listing.proofs.Said.{Readable}
use Rattle.listing.proofs.Judging.{empty_at}
use Rattle.listing_laws.proofs.Answers.{reads, taken}
use Rattle.listing_laws.proofs.Rows.{parent_space, parent_page, row_at, rows_from, pages_rows, rows_few, rows_counted, key_of_page, placed_length, rows_back}

-- space 0 and at least one more
pool_within : (z : Sizes) → Readable z → z.pages ≤ slot_count z
pool_within z small = let m = mul-le-mul_right z.pages small.two_spaces in omega arith

-- the rows of all pages outside space 0
abbrev pub rows_of : Sizes → Table → List Row
rows_of z f = rows_from z f z.pages (slot_count z - z.pages)

held_rows : (z : Sizes) (f : Table) → z.pages ≤ slot_count z → held_outside z f ≡ length (rows_of z f)
unfolding held_outside
held_rows z f h =
    let t : ℕ → Bool = λ j. not (in_pool z j) && held (f j) in
    let e : z.pages + (slot_count z - z.pages) ≡ slot_count z = omega arith in
    let c : count (z.pages + (slot_count z - z.pages)) t ≡ count z.pages t + length (rows_of z f) = rows_counted z f z.pages (slot_count z - z.pages) (omega arith) in
    let n : 0 ≡ count z.pages t = none_counted z f z.pages (omega arith) in
    ap (λ (m : ℕ). count m t) (sym e) ∙ c ∙ rw (← n) (omega arith)

-- what a board's listing says
abbrev pub content_in : Sizes → Tables → Content
content_in z b = record { live = live_number b.live; rows = rows_of z (table_of b); held = held_outside z (table_of b) }

listing_spelt : (z : Sizes) (b : Tables) → listing_of z b ≡ spelt (content_in z b)
unfolding listing_of spelt pages_listed
listing_spelt z b = rw (pages_rows z (table_of b) z.pages (slot_count z - z.pages))

-- ── read, then written ───────────────────────────────────────────────────
-- rows outside space 0 that rise from 0 on rise from the end of space 0 on
rise_from_pool : (z : Sizes) (m : ℕ) → suc m ≡ z.pages → (rows : List Row) → AllFit z rows → T (rising_above z 0 rows) → T (rising_above z m rows)
unfolding rising_above
rise_from_pool z m e rows no_rows h = tt
rise_from_pool z m e rows (one_row {r} {rest} a more) h =
    let l : 1 * z.pages ≤ r.space * z.pages = mul-le-mul_right z.pages a.space_from in
    and_i (ltb m (row_key z r)) (rising_above z (row_key z r) rest) (lt→ltb m (row_key z r) (omega arith)) (and_r (ltb 0 (row_key z r)) (rising_above z (row_key z r) rest) h)

one_less : (n : ℕ) → 1 ≤ n → suc (n - 1) ≡ n
one_less n h = omega arith

start_long : (z : Sizes) → length (start_board z).slots ≡ slot_count z
unfolding start_board
start_long z = length_tabulate _ (slot_count z)

board_rows : (z : Sizes) → Readable z → (rows : List Row) → AllFit z rows → T (rising_above z 0 rows) → rows_of z (slot_at (placed z (start_board z).slots rows)) ≡ rows
board_rows z small rows a h =
    let m = z.pages - 1 in
    let e : suc m ≡ z.pages = one_less z.pages small.some_page in
    let w : suc m + (slot_count z - z.pages) ≡ slot_count z = omega (arith, pool_within z small) in
    let back : rows_from z (slot_at (placed z (start_board z).slots rows)) (suc m) (slot_count z - z.pages) ≡ rows =
    rows_back z (slot_count z - z.pages) m (start_board z).slots rows w a (rise_from_pool z m e rows a h) (start_long z) (λ j l. start_empty z small.two_spaces j (omega arith)) in
    ap (λ (k : ℕ). rows_from z (slot_at (placed z (start_board z).slots rows)) k (slot_count z - z.pages)) (sym e) ∙ back

content_kept : (z : Sizes) → Readable z → (c : Content) → Fits z c → Ordered z c → content_in z (board_of z c) ≡ c
unfolding board_of
content_kept z small c f o =
    let rows_are = board_rows z small c.rows f.rows_fit o.rising in
    let live_is : live_number (live_flags z.spaces c.live) ≡ c.live = number_of_flags z.spaces c.live f.live_to in
    let held_is : held_outside z (slot_at (placed z (start_board z).slots c.rows)) ≡ c.held =
    held_rows z (slot_at (placed z (start_board z).slots c.rows)) (pool_within z small) ∙ ap length rows_are ∙ o.all_counted in
    λ i. record { live = live_is i; rows = rows_are i; held = held_is i }

-- reading an accepted listing and writing it gives the same bytes
pub read_then_written : (z : Sizes) → Readable z → (s : List ℕ) (b : Tables) → reading z s ≡ accepted b → listing_of z b ≡ s
read_then_written z small s b e =
    let t = taken z s b e in
    let c = t.content in
    ap (listing_of z) t.board_is ∙ listing_spelt z (board_of z c) ∙ ap spelt (content_kept z small c t.says.fits t.ordered) ∙ sym t.says.is_spelt

-- and the board is sound
pub read_sound : (z : Sizes) (s : List ℕ) (b : Tables) → reading z s ≡ accepted b → Sound z b
read_sound z s b e = (taken z s b e).sound

-- ── written, then read ───────────────────────────────────────────────────
module _ (z : Sizes) (small : Readable z) (b : Tables) (w : Sound z b) where
  -- what stands outside space 0 is nothing, or lent
  outside : (A : Type 0) (k : ℕ) → z.pages ≤ k → (table_of b k ≡ empty_slot → A) → ((s p : ℕ) → (table_of b k).link ≡ Page s p → A) → A
  outside A k h empty lent = go (table_of b k).link refl
    where
      go : (l : Link) → (table_of b k).link ≡ l → A
      go Nothing e = empty (λ i. record { link = e i; rights = w.pages.no_link k e i })
      go (Frame j) e = absurd (w.pages.no_frame k j h e)
      go (Page s p) e = lent s p e

  row_fits : (k s p : ℕ) → z.pages ≤ k → k < slot_count z → (table_of b k).link ≡ Page s p → RowFits z (row_at z k (table_of b k))
  row_fits k s p h l e =
      let g : Lent z b.live (table_of b) k s p = w.pages.lent k s p e in
      let es : parent_space (table_of b k).link ≡ s = rw e in
      let ep : parent_page (table_of b k).link ≡ p = rw e in
      let u : 1 * z.pages ≤ k = omega arith in
      record {
        space_from = (le-div_iff_mul-le small.some_page).1 u;
        space_to = (div-lt_iff_lt-mul small.some_page).1 l;
        page_to = mod-lt k small.some_page;
        parent_to = rw es g.space_in;
        at_to = rw ep g.page_in;
        rights_from = g.some_right;
        rights_to = g.known_rights;
      }

  rows_fit : (n k : ℕ) → z.pages ≤ k → k + n ≡ slot_count z → AllFit z (rows_from z (table_of b) k n)
  unfolding rows_from
  rows_fit zero k h e = no_rows
  rows_fit (suc n) k h e = go (rows_fit n (suc k) (omega arith) (omega arith))
    where
      go : AllFit z (rows_from z (table_of b) (suc k) n)
          → AllFit z (cond (held (table_of b k)) (row_at z k (table_of b k) ∷ rows_from z (table_of b) (suc k) n) (rows_from z (table_of b) (suc k) n))
      go more =
          outside (AllFit z (cond (held (table_of b k)) (row_at z k (table_of b k) ∷ rows_from z (table_of b) (suc k) n) (rows_from z (table_of b) (suc k) n))) k h
          (λ q. rw q more)
          (λ s p q. is_row s p q (row_fits k s p h (omega arith) q))
        where
          is_row : (s p : ℕ) → (table_of b k).link ≡ Page s p → RowFits z (row_at z k (table_of b k))
              → AllFit z (cond (held (table_of b k)) (row_at z k (table_of b k) ∷ rows_from z (table_of b) (suc k) n) (rows_from z (table_of b) (suc k) n))
          is_row s p q a =
              let t : held (table_of b k) ≡ true = rw q in
              subst (λ (y : Bool). AllFit z (cond y (row_at z k (table_of b k) ∷ rows_from z (table_of b) (suc k) n) (rows_from z (table_of b) (suc k) n))) (sym t) (one_row a more)

-- the rows of a table rise
rows_rise : (z : Sizes) (f : Table) (n k m : ℕ) → m < k → T (rising_above z m (rows_from z f k n))
unfolding rows_from rising_above
rows_rise z f zero k m h = tt
rows_rise z f (suc n) k m h = go (held (f k)) (rows_rise z f n (suc k) k (omega arith)) (rows_rise z f n (suc k) m (omega arith))
  where
    go : (t : Bool) → T (rising_above z k (rows_from z f (suc k) n)) → T (rising_above z m (rows_from z f (suc k) n))
        → T (rising_above z m (cond t (row_at z k (f k) ∷ rows_from z f (suc k) n) (rows_from z f (suc k) n)))
    go true a c = rw (key_of_page z k) (and_i (ltb m k) (rising_above z k (rows_from z f (suc k) n)) (lt→ltb m k h) a)
    go false a c = c

-- a sound board with its cache emptied is sound
cleared_sound : (z : Sizes) → 1 ≤ z.places → (b : Tables) → Sound z b → Sound z (cleared z b)
cleared_sound z one b w = record {
  shape = record { slots_long = w.shape.slots_long; live_long = w.shape.live_long; places_long = length-replicate z.places empty_place; summary_long = w.shape.summary_long };
  pages = w.pages;
  cache = record {
    filled_names = λ i h. absurd (not_filled i h);
    one_each = λ i j h g e. absurd (not_filled i h);
    empty_form = λ i h. empty_at z i;
    next_in = one;
  };
  summary = w.summary;
}
  where
    not_filled : (i : ℕ) → T (filled (place_at (replicate z.places empty_place) i)) → ⊥
    not_filled i h = rw (empty_at z i) at h

module _ (z : Sizes) (small : Readable z) (b : Tables) (w : Sound z b) where
  -- the slot of a held page's row
  slot_of_row : (k s p : ℕ) → (table_of b k).link ≡ Page s p → row_slot (row_at z k (table_of b k)) ≡ table_of b k
  slot_of_row k s p e =
      let es : parent_space (table_of b k).link ≡ s = rw e in
      let ep : parent_page (table_of b k).link ≡ p = rw e in
      let l : Page (parent_space (table_of b k).link) (parent_page (table_of b k).link) ≡ (table_of b k).link = rw (es, ep) (sym e) in
      λ i. record { link = l i; rights = (table_of b k).rights }

  -- slots that are the board's below k and empty from k on become the board's by its rows from k on
  rows_placed : (n k : ℕ) (slots : List Slot) → z.pages ≤ k → k + n ≡ slot_count z → length slots ≡ slot_count z
      → ((j : ℕ) → j < k → slot_at slots j ≡ table_of b j) → ((j : ℕ) → k ≤ j → slot_at slots j ≡ empty_slot)
      → (j : ℕ) → j < slot_count z → slot_at (placed z slots (rows_from z (table_of b) k n)) j ≡ table_of b j
  unfolding rows_from placed
  rows_placed zero k slots h e l done left j m = done j (omega arith)
  rows_placed (suc n) k slots h e l done left j m =
      go (λ s' a c d. rows_placed n (suc k) s' (omega arith) (omega arith) a c d j m)
    where
      f : Table
      f = table_of b

      more : List Row
      more = rows_from z (table_of b) (suc k) n

      upto : (s' : List Slot) → ((i : ℕ) → i < k → slot_at s' i ≡ table_of b i) → slot_at s' k ≡ table_of b k → (i : ℕ) → i < suc k → slot_at s' i ≡ table_of b i
      upto s' c d i q = pick (eq-or-lt_of_le (le_of_suc-le-suc q))
        where
          pick : (i ≡ k) ⊎ (i < k) → slot_at s' i ≡ table_of b i
          pick (inl u) = ap (λ (x : ℕ). slot_at s' x) u ∙ d ∙ ap (λ (x : ℕ). table_of b x) (sym u)
          pick (inr u) = c i u

      go : ((s' : List Slot) → length s' ≡ slot_count z → ((i : ℕ) → i < suc k → slot_at s' i ≡ table_of b i) → ((i : ℕ) → suc k ≤ i → slot_at s' i ≡ empty_slot)
          → slot_at (placed z s' more) j ≡ table_of b j)
          → slot_at (placed z slots (cond (held (table_of b k)) (row_at z k (table_of b k) ∷ more) more)) j ≡ table_of b j
      go next =
          outside z small b w (slot_at (placed z slots (cond (held (table_of b k)) (row_at z k (table_of b k) ∷ more) more)) j ≡ table_of b j) k h empty lent
        where
          empty : table_of b k ≡ empty_slot → slot_at (placed z slots (cond (held (table_of b k)) (row_at z k (table_of b k) ∷ more) more)) j ≡ table_of b j
          empty q =
              let t : held (table_of b k) ≡ false = ap held q in
              ap (λ (y : Bool). slot_at (placed z slots (cond y (row_at z k (table_of b k) ∷ more) more)) j) t
              ∙ next slots l (upto slots done (left k (omega arith) ∙ sym q)) (λ i d. left i (omega arith))

          lent : (s p : ℕ) → (table_of b k).link ≡ Page s p → slot_at (placed z slots (cond (held (table_of b k)) (row_at z k (table_of b k) ∷ more) more)) j ≡ table_of b j
          lent s p q =
              let t : held (table_of b k) ≡ true = ap linked q in
              let r = row_at z k (table_of b k) in
              let s' = set slots (row_key z r) (row_slot r) in
              let at : row_key z r ≡ k = key_of_page z k in
              let here : slot_at s' k ≡ table_of b k =
              ap (λ (x : ℕ). slot_at (set slots x (row_slot r)) k) at ∙ get_or-set_same slots k (row_slot r) empty_slot (omega arith) ∙ slot_of_row k s p q in
              ap (λ (y : Bool). slot_at (placed z slots (cond y (r ∷ more) more)) j) t
              ∙ next s' (length-set slots (row_key z r) (row_slot r) ∙ l)
              (upto s' (λ i d. get_or-set_other slots (row_key z r) i (row_slot r) empty_slot (λ u. omega arith) ∙ done i d) here)
              (λ i d. get_or-set_other slots (row_key z r) i (row_slot r) empty_slot (λ u. omega arith) ∙ left i (omega arith))

  board_kept : board_of z (content_in z b) ≡ cleared z b
  unfolding board_of
  board_kept =
      let start : List Slot = (start_board z).slots in
      let rows = rows_of z (table_of b) in
      let n = slot_count z - z.pages in
      let pool-in = pool_within z small in
      let slots_are : placed z start rows ≡ b.slots =
      ext_get_or empty_slot (placed z start rows) b.slots (placed_length z start rows ∙ start_long z ∙ sym w.shape.slots_long)
      (λ j l. rows_placed n z.pages start (omega arith) (omega arith) (start_long z)
      (λ i h. start_pool z small.two_spaces i h ∙ sym (w.pages.pool i h))
      (λ i h. start_empty z small.two_spaces i h) j (omega (arith, placed_length z start rows, start_long z))) in
      let live-are : live_flags z.spaces (live_number b.live) ≡ b.live =
      ap (λ (k : ℕ). live_flags k (live_number b.live)) (sym w.shape.live_long) ∙ flags_of_number b.live in
      let counts_are : summary_of z (slot_at (placed z start rows)) ≡ b.summary = ap (λ (slots : List Slot). summary_of z (slot_at slots)) slots_are ∙ sym w.summary in
      λ i. record { slots = slots_are i; live = live-are i; places = replicate z.places empty_place; next = 0; summary = counts_are i }

  pub content_fits : Fits z (content_in z b)
  content_fits =
      let pool-in = pool_within z small in
      let few : length (rows_of z (table_of b)) ≤ slot_count z - z.pages = rows_few z (table_of b) z.pages (slot_count z - z.pages) in
      record {
        live_to = subst (λ (k : ℕ). live_number b.live ≤ live_number (replicate k true)) w.shape.live_long (number_most b.live);
        rows_fit = rows_fit z small b w (slot_count z - z.pages) z.pages (omega arith) (omega arith);
        held_to = omega (arith, held_rows z (table_of b) pool-in);
      }

  content_ordered : Ordered z (content_in z b)
  content_ordered = record {
    rising = rows_rise z (table_of b) (slot_count z - z.pages) z.pages 0 small.some_page;
    all_counted = sym (held_rows z (table_of b) (pool_within z small));
  }

  -- writing a sound board and reading it gives that board with an empty cache and next place 0
  pub written_then_read : reading z (listing_of z b) ≡ accepted (cleared z b)
  written_then_read =
      let c = content_in z b in
      let sound : Sound z (board_of z c) = rw board_kept (cleared_sound z small.some_place b w) in
      (reads z small (listing_of z b)).read c (record { is_spelt = listing_spelt z b; fits = content_fits }) content_ordered sound ∙ ap accepted board_kept
