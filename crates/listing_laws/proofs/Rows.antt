-- The rows of a table: their lines are the listing's, they are counted, and they are read from the rows' own board.
use Prim.Native.Nat.{ℕ, zero, suc, ◌+◌, ◌*◌, ◌≤◌, ◌<◌}
use mathlib.Core.Path.{◌≡◌, refl, sym, subst, ap, ◌∙◌}
use mathlib.Core.Bool.{Bool, true, false, not, ◌&&◌, cond}
use mathlib.Core.Logic.{◌⊎◌, inl, inr}
use mathlib.Core.List.{List, [], ◌∷◌, ◌++◌}
use native.Mathlib.Omega.{arith}
use native.Mathlib.Nat.{div-add-mod', eq-or-lt_of_le}
use lib.ListN.{length, set, length-set}
use lib.Seq.{get_or-set_same, get_or-set_other}
use lib.Dec.{T, ltb, ltb→lt, lt→ltb}
use borrow.Author.Tests.{le-ltb}
use Rattle.lend_basics.proofs.Bools.{and_l, and_r, and_i}
use Rattle.lend.specs.declared.Link.{Link}
use Rattle.lend.specs.declared.Link.TheVariants.{Nothing, Frame, Page}
use Rattle.lend.specs.declared.Slot.{Slot}
use Rattle.lend.specs.Sizes.{Sizes, slot_count, key, space_of, in_pool}
use Rattle.lend.specs.Lists.{count}
use Rattle.lend.specs.Slots.{Table, empty_slot, held, linked, slot_at}
use Rattle.lend_sound.proofs.Lines.{space_of_key}
use Rattle.text.specs.Write.{page_line}
use Rattle.listing.proofs.Said.{key_below}
use Rattle.listing.specs.Listing.{link_line, slot_line, page_in, pages_from}
use Rattle.listing.specs.declared.read.Row.{Row}
use Rattle.listing.specs.Content.{row_lines, RowFits, AllFit, no_rows, one_row, row_key, rising_above, row_slot, placed}

-- the space and the page that a line names as the parent
abbrev pub parent_space : Link → ℕ
parent_space Nothing = 0
parent_space (Frame i) = 0
parent_space (Page s p) = s

abbrev pub parent_page : Link → ℕ
parent_page Nothing = 0
parent_page (Frame i) = 0
parent_page (Page s p) = p

-- the row of page k, by what it keeps
abbrev pub row_at : Sizes → ℕ → Slot → Row
row_at z k slot = record { space = space_of z k; page = page_in z k; parent = parent_space slot.link; at = parent_page slot.link; rights = slot.rights }

-- the rows of the held pages among n from page k on
unfoldable pub rows_from : Sizes → Table → ℕ → ℕ → List Row
rows_from z f k zero = []
rows_from z f k (suc n) = cond (held (f k)) (row_at z k (f k) ∷ rows_from z f (suc k) n) (rows_from z f (suc k) n)

pub pages_rows : (z : Sizes) (f : Table) (k n : ℕ) → pages_from z f k n ≡ row_lines (rows_from z f k n)
unfolding pages_from rows_from row_lines slot_line
pages_rows z f k zero = refl
pages_rows z f k (suc n) = go (f k).link (f k).rights (pages_rows z f (suc k) n)
  where
    go : (l : Link) (r : ℕ) → pages_from z f (suc k) n ≡ row_lines (rows_from z f (suc k) n)
        → link_line (space_of z k) (page_in z k) r l ++ pages_from z f (suc k) n
        ≡ row_lines (cond (linked l) (row_at z k (record { link = l; rights = r }) ∷ rows_from z f (suc k) n) (rows_from z f (suc k) n))
    go Nothing r e = e
    go (Frame i) r e = ap (λ (t : List ℕ). page_line (space_of z k) (page_in z k) 0 0 r ++ t) e
    go (Page s p) r e = ap (λ (t : List ℕ). page_line (space_of z k) (page_in z k) s p r ++ t) e

-- ── counted ──────────────────────────────────────────────────────────────
pub rows_few : (z : Sizes) (f : Table) (k n : ℕ) → length (rows_from z f k n) ≤ n
unfolding rows_from
rows_few z f k zero = omega arith
rows_few z f k (suc n) = go (held (f k)) (rows_few z f (suc k) n)
  where
    go : (t : Bool) → length (rows_from z f (suc k) n) ≤ n → length (cond t (row_at z k (f k) ∷ rows_from z f (suc k) n) (rows_from z f (suc k) n)) ≤ suc n
    go true h = omega arith
    go false h = omega arith

pub rows_counted : (z : Sizes) (f : Table) (k n : ℕ) → z.pages ≤ k
    → count (k + n) (λ j. not (in_pool z j) && held (f j)) ≡ count k (λ j. not (in_pool z j) && held (f j)) + length (rows_from z f k n)
unfolding rows_from count
rows_counted z f k zero h = let e : k + 0 ≡ k = omega arith in rw e (omega arith)
rows_counted z f k (suc n) h =
    let e : k + suc n ≡ suc k + n = omega arith in
    rw e (rows_counted z f (suc k) n (omega arith) ∙ rw (le-ltb k z.pages h) (go (held (f k))))
  where
    go : (t : Bool) → cond t (suc (count k (λ j. not (in_pool z j) && held (f j)))) (count k (λ j. not (in_pool z j) && held (f j))) + length (rows_from z f (suc k) n)
        ≡ count k (λ j. not (in_pool z j) && held (f j)) + length (cond t (row_at z k (f k) ∷ rows_from z f (suc k) n) (rows_from z f (suc k) n))
    go true = omega arith
    go false = refl

-- ── pages as space and page ──────────────────────────────────────────────
pub key_of_page : (z : Sizes) (k : ℕ) → key z (space_of z k) (page_in z k) ≡ k
key_of_page z k = div-add-mod' k z.pages

pub page_of_key : (z : Sizes) (s p : ℕ) → p < z.pages → page_in z (key z s p) ≡ p
page_of_key z s p h =
    let e : space_of z (key z s p) * z.pages + page_in z (key z s p) ≡ s * z.pages + p = key_of_page z (key z s p) in
    let d : space_of z (key z s p) * z.pages ≡ s * z.pages = ap (λ (n : ℕ). n * z.pages) (space_of_key z s p h) in
    omega arith

-- the row of a page that keeps the row's slot
row_of_slot : (z : Sizes) (r : Row) → RowFits z r → row_at z (row_key z r) (row_slot r) ≡ r
row_of_slot z r h =
    let s = space_of_key z r.space r.page h.page_to in
    let p = page_of_key z r.space r.page h.page_to in
    λ i. record { space = s i; page = p i; parent = r.parent; at = r.at; rights = r.rights }

-- ── the rows of a board that rows made ───────────────────────────────────
pub placed_length : (z : Sizes) (slots : List Slot) (rows : List Row) → length (placed z slots rows) ≡ length slots
unfolding placed
placed_length z slots [] = refl
placed_length z slots (r ∷ rest) = placed_length z (set slots (row_key z r) (row_slot r)) rest ∙ length-set slots (row_key z r) (row_slot r)

-- rows above m leave what stands up to m
placed_before : (z : Sizes) (m : ℕ) (slots : List Slot) (rows : List Row) (j : ℕ) → T (rising_above z m rows) → j ≤ m
    → slot_at (placed z slots rows) j ≡ slot_at slots j
unfolding placed rising_above
placed_before z m slots [] j h l = refl
placed_before z m slots (r ∷ rest) j h l =
    let a : m < row_key z r = ltb→lt m (row_key z r) (and_l (ltb m (row_key z r)) (rising_above z (row_key z r) rest) h) in
    placed_before z (row_key z r) (set slots (row_key z r) (row_slot r)) rest j (and_r (ltb m (row_key z r)) (rising_above z (row_key z r) rest) h) (omega arith)
    ∙ get_or-set_other slots (row_key z r) j (row_slot r) empty_slot (λ q. omega arith)

pub rows_back : (z : Sizes) (n m : ℕ) (slots : List Slot) (rows : List Row) → suc m + n ≡ slot_count z → AllFit z rows → T (rising_above z m rows)
    → length slots ≡ slot_count z → ((j : ℕ) → m < j → slot_at slots j ≡ empty_slot) → rows_from z (slot_at (placed z slots rows)) (suc m) n ≡ rows
unfolding rows_from placed rising_above
rows_back z zero m slots rows e no_rows h l f = refl
rows_back z zero m slots rows e (one_row {r} {rest} a more) h l f =
    let x : m < row_key z r = ltb→lt m (row_key z r) (and_l (ltb m (row_key z r)) (rising_above z (row_key z r) rest) h) in
    let y : row_key z r < slot_count z = key_below z r a in
    absurd (omega arith)
rows_back z (suc n) m slots rows e no_rows h l f =
    rw (f (suc m) (omega arith)) (rows_back z n (suc m) slots [] (omega arith) no_rows tt l (λ j d. f j (omega arith)))
rows_back z (suc n) m slots rows e (one_row {r} {rest} a more) h l f = go (eq-or-lt_of_le x) (λ s' q. rows_back z n (suc m) s' rest (omega arith) more q) (λ q. rows_back z n (suc m) slots (r ∷ rest) (omega arith) (one_row a more) q l (λ j d. f j (omega arith)))
  where
    k : ℕ
    k = row_key z r

    rising : T (rising_above z (row_key z r) rest)
    rising = and_r (ltb m (row_key z r)) (rising_above z (row_key z r) rest) h

    x : suc m ≤ row_key z r
    x = ltb→lt m (row_key z r) (and_l (ltb m (row_key z r)) (rising_above z (row_key z r) rest) h)

    slots' : List Slot
    slots' = set slots (row_key z r) (row_slot r)

    go : (suc m ≡ row_key z r) ⊎ (suc m < row_key z r)
        → ((s' : List Slot) → T (rising_above z (suc m) rest) → length s' ≡ slot_count z → ((j : ℕ) → suc m < j → slot_at s' j ≡ empty_slot) → rows_from z (slot_at (placed z s' rest)) (suc (suc m)) n ≡ rest)
        → (T (rising_above z (suc m) (r ∷ rest)) → rows_from z (slot_at (placed z slots (r ∷ rest))) (suc (suc m)) n ≡ r ∷ rest)
        → rows_from z (slot_at (placed z slots (r ∷ rest))) (suc m) (suc n) ≡ r ∷ rest
    go (inl q) next other =
        let b : row_key z r < length slots = omega (arith, key_below z r a) in
        let p : slot_at (placed z slots' rest) (suc m) ≡ row_slot r =
        placed_before z (row_key z r) slots' rest (suc m) rising x ∙ ap (λ (j : ℕ). slot_at slots' j) q ∙ get_or-set_same slots (row_key z r) (row_slot r) empty_slot b in
        let empties : (j : ℕ) → suc m < j → slot_at slots' j ≡ empty_slot =
        λ j d. get_or-set_other slots (row_key z r) j (row_slot r) empty_slot (λ u. omega arith) ∙ f j (omega arith) in
        rw p
        (ap (λ (y : Row). y ∷ rows_from z (slot_at (placed z slots' rest)) (suc (suc m)) n) (ap (λ (j : ℕ). row_at z j (row_slot r)) q ∙ row_of_slot z r a)
        ∙ ap (λ (t : List Row). r ∷ t)
        (next slots' (subst (λ (j : ℕ). T (rising_above z j rest)) (sym q) rising) (length-set slots (row_key z r) (row_slot r) ∙ l) empties))
    go (inr q) next other =
        let up : T (rising_above z (suc m) (r ∷ rest)) = and_i (ltb (suc m) (row_key z r)) (rising_above z (row_key z r) rest) (lt→ltb (suc m) (row_key z r) q) rising in
        let p : slot_at (placed z slots (r ∷ rest)) (suc m) ≡ empty_slot = placed_before z (suc m) slots (r ∷ rest) (suc m) up (omega arith) ∙ f (suc m) (omega arith) in
        rw p (other up)
