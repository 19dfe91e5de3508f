-- Pages, slots and live spaces of the sizes z at the larger sizes w: which number a page has there, and what stands at it.
use mathlib.Core.Path.{◌≡◌, refl, sym, ap, ◌∙◌}
use mathlib.Core.Bool.{Bool, true, false, not, cond}
use mathlib.Core.List.{List}
use Prim.Native.Nat.{ℕ, ◌≤◌, ◌<◌}
use native.Mathlib.Nat.{mod-lt, div-add-mod', div-lt_iff_lt-mul, div-eq_of_lt, mod-eq_of_lt}
use native.Mathlib.Decide.{dec_lt}
use native.Mathlib.Omega.{arith}
use lib.Dec.{T, ltb, ltb→lt, lt→ltb}
use lib.ListN.{length, get_or-eq_default}
use borrow.Author.Tests.{lt-ltb, le-ltb, lt-leb}
use Rattle.lend.specs.declared.Slot.{Slot}
use Rattle.lend.specs.Sizes.{Sizes, entry, premium, slot_count, key, space_of, in_pool}
use Rattle.lend.specs.Slots.{empty_slot, frame_slot, slot_at}
use Rattle.lend.specs.Tables.{alive}
use Rattle.lend.specs.Start.{start_board}
use Rattle.lend_basics.proofs.Bools.{and_l, and_r, and_i, is_true, not_is_false}
use Rattle.lend_basics.proofs.Lists.{length_tabulate, tabulate_at, tabulate_past}
use Rattle.lend_sound.proofs.Lines.{space_of_key}
use Rattle.lend_sound.proofs.Places.{key_page}
use Rattle.lend_sound.proofs.Start.{start_live, start_pool, start_empty}
use Rattle.lend_laws.proofs.Spaces.{out_of_pool}
use Rattle.lend_lending.proofs.Map.{key_in}
use Rattle.lend_models.specs.Embedding.{Fits, page_of, shared, narrow, wide_slots, wide_live}

-- Entry's sizes fit into Premium's
pub entry_fits : Fits entry premium
entry_fits = record { spaces_fit = omega arith; pages_fit = omega arith; places_fit = omega arith }

-- the number at the sizes w of the page that has number k at the sizes z
abbrev pub widen : Sizes → Sizes → ℕ → ℕ
widen z w k = key w (space_of z k) (page_of z k)

-- past the last page the start board has nothing
start_past : (z : Sizes) (k : ℕ) → slot_count z ≤ k → slot_at (start_board z).slots k ≡ empty_slot
unfolding start_board
start_past z k h = tabulate_past (λ k. cond (in_pool z k) (frame_slot k) empty_slot) (slot_count z) k empty_slot h

-- ── one size ─────────────────────────────────────────────────────────────
module _ (z : Sizes) (some_page : 1 ≤ z.pages) where
  -- a page's number in its space is one of the space's pages
  page_small : (k : ℕ) → page_of z k < z.pages
  page_small k = mod-lt k some_page

  -- a page's number is made of its space and its page
  pub key_of_page : (k : ℕ) → key z (space_of z k) (page_of z k) ≡ k
  key_of_page k = div-add-mod' k z.pages

  -- the page of page p of space s is p
  pub page_of_key : (s p : ℕ) → p < z.pages → page_of z (key z s p) ≡ p
  page_of_key s p h =
      key_page z (space_of z (key z s p)) (page_of z (key z s p)) s p (page_small (key z s p)) h (key_of_page (key z s p))

  -- the space of a page is one of the spaces
  pub space_small : (k : ℕ) → k < slot_count z → space_of z k < z.spaces
  space_small k h = (div-lt_iff_lt-mul some_page).1 h

-- ── page numbers at both sizes ───────────────────────────────────────────
module _ (z w : Sizes) (fits : Fits z w) (some_page : 1 ≤ z.pages) where
  -- the larger sizes have a page too
  pub wide_page : 1 ≤ w.pages
  wide_page = omega (arith, fits.pages_fit)

  -- a page of the smaller sizes has a number below the larger ones' pages
  pub page_fits_law : (k : ℕ) → page_of z k < w.pages
  page_fits_law k = omega (arith, fits.pages_fit, page_small z some_page k)

  -- page p of space s is page p of space s
  pub key_widened : (s p : ℕ) → p < z.pages → widen z w (key z s p) ≡ key w s p
  key_widened s p h = rw (space_of_key z s p h, page_of_key z some_page s p h)

  -- a page keeps its space
  pub space_of_widened : (k : ℕ) → space_of w (widen z w k) ≡ space_of z k
  space_of_widened k = space_of_key w (space_of z k) (page_of z k) (page_fits_law k)

  -- and its number there
  page_of_widened : (k : ℕ) → page_of w (widen z w k) ≡ page_of z k
  page_of_widened k = page_of_key w wide_page (space_of z k) (page_of z k) (page_fits_law k)

  -- a page of the smaller sizes is shared
  pub widen_shared : (k : ℕ) → k < slot_count z → T (shared z w (widen z w k))
  unfolding shared
  widen_shared k h =
      rw (space_of_widened k, page_of_widened k)
      (and_i (ltb (space_of z k) z.spaces) (ltb (page_of z k) z.pages)
      (lt→ltb (space_of z k) z.spaces (space_small z some_page k h)) (lt→ltb (page_of z k) z.pages (page_small z some_page k)))

  -- there and back it has its number again
  narrow_widened : (k : ℕ) → narrow z w (widen z w k) ≡ k
  narrow_widened k = rw (space_of_widened k, page_of_widened k) (key_of_page z some_page k)

  -- the space of a shared page is one of the smaller sizes
  pub shared_space : (k : ℕ) → T (shared z w k) → space_of w k < z.spaces
  unfolding shared
  shared_space k h = ltb→lt (space_of w k) z.spaces (and_l (ltb (space_of w k) z.spaces) (ltb (page_of w k) z.pages) h)

  -- and so is its number there
  pub shared_page : (k : ℕ) → T (shared z w k) → page_of w k < z.pages
  unfolding shared
  shared_page k h = ltb→lt (page_of w k) z.pages (and_r (ltb (space_of w k) z.spaces) (ltb (page_of w k) z.pages) h)

  -- a shared page is that of its number at the smaller sizes
  widen_narrowed : (k : ℕ) → T (shared z w k) → widen z w (narrow z w k) ≡ k
  widen_narrowed k h = key_widened (space_of w k) (page_of w k) (shared_page k h) ∙ key_of_page w wide_page k

  -- which is one of their pages
  narrow_in : (k : ℕ) → T (shared z w k) → narrow z w k < slot_count z
  narrow_in k h = key_in z (space_of w k) (page_of w k) (shared_space k h) (shared_page k h)

  -- two pages with one number at the larger sizes are one
  pub widen_same : (j k : ℕ) → widen z w j ≡ widen z w k → j ≡ k
  widen_same j k e = sym (narrow_widened j) ∙ (ap (narrow z w) e ∙ narrow_widened k)

  -- a page of the smaller sizes is one of the larger ones
  pub widen_in : (k : ℕ) → k < slot_count z → widen z w k < slot_count w
  widen_in k h = key_in w (space_of z k) (page_of z k) (omega (arith, fits.spaces_fit, space_small z some_page k h)) (page_fits_law k)

  -- a page of space 0 has one number at both sizes
  pub widen_pool : (k : ℕ) → k < z.pages → widen z w k ≡ k
  widen_pool k h = rw (div-eq_of_lt h, mod-eq_of_lt h) (omega arith)

  -- and a page outside space 0 is outside it at both
  pub widen_out : (k : ℕ) → z.pages ≤ k → w.pages ≤ widen z w k
  widen_out k h = out_of_pool w (space_of z k) (page_of z k) (go (dec_lt (space_of z k) 1))
    where
      go : Dec (space_of z k < 1) → 1 ≤ space_of z k
      go (yes l) = let p = page_small z some_page k in let e : key z 0 (page_of z k) ≡ k = rw (← (zero (space_of z k) l)) (key_of_page z some_page k) in absurd (omega arith)
        where
          zero : (n : ℕ) → n < 1 → n ≡ 0
          zero n l = omega arith
      go (no l) = omega arith

  -- every page of the larger sizes is shared or not, and a shared one is some page of the smaller sizes
  pub shared_or_not : (k : ℕ) (A : Type 0) → ((j : ℕ) → j < slot_count z → widen z w j ≡ k → A) → (T (not (shared z w k)) → A) → A
  shared_or_not k A is not-one = go (shared z w k) refl
    where
      go : (b : Bool) → shared z w k ≡ b → A
      go true e = let h : T (shared z w k) = rw e tt in is (narrow z w k) (narrow_in k h) (widen_narrowed k h)
      go false e = not-one (rw e tt)

  -- ── the slots ──────────────────────────────────────────────────────────
  -- there is a slot for each page of the larger sizes
  pub length_wide : (b : List Slot) → length (wide_slots z w b) ≡ slot_count w
  unfolding wide_slots
  length_wide b = length_tabulate (λ k. cond (shared z w k) (slot_at b (narrow z w k)) (slot_at (start_board w).slots k)) (slot_count w)

  -- a page of the smaller sizes keeps what it keeps
  pub wide_at : (b : List Slot) (k : ℕ) → k < slot_count z → slot_at (wide_slots z w b) (widen z w k) ≡ slot_at b k
  unfolding wide_slots
  wide_at b k h =
      tabulate_at (λ k. cond (shared z w k) (slot_at b (narrow z w k)) (slot_at (start_board w).slots k)) (slot_count w) (widen z w k) empty_slot (widen_in k h)
      ∙ rw (is_true (shared z w (widen z w k)) (widen_shared k h), narrow_widened k)

  -- every page that is not shared is as at the start
  pub wide_rest : (b : List Slot) (k : ℕ) → T (not (shared z w k)) → slot_at (wide_slots z w b) k ≡ slot_at (start_board w).slots k
  unfolding wide_slots
  wide_rest b k n = go (dec_lt k (slot_count w))
    where
      go : Dec (k < slot_count w) → slot_at (wide_slots z w b) k ≡ slot_at (start_board w).slots k
      go (yes h) =
          tabulate_at (λ k. cond (shared z w k) (slot_at b (narrow z w k)) (slot_at (start_board w).slots k)) (slot_count w) k empty_slot h
          ∙ rw (not_is_false (shared z w k) n)
      go (no h) =
          tabulate_past (λ k. cond (shared z w k) (slot_at b (narrow z w k)) (slot_at (start_board w).slots k)) (slot_count w) k empty_slot (omega arith)
          ∙ sym (start_past w k (omega arith))

  -- a page of space 0 that is not shared holds the frame of its number
  pub rest_pool : 2 ≤ z.spaces → (b : List Slot) (k : ℕ) → T (not (shared z w k)) → k < w.pages → slot_at (wide_slots z w b) k ≡ frame_slot k
  rest_pool two b k n h = wide_rest b k n ∙ start_pool w (omega (arith, fits.spaces_fit)) k h

  -- and one of another space is empty
  pub rest_empty : 2 ≤ z.spaces → (b : List Slot) (k : ℕ) → T (not (shared z w k)) → w.pages ≤ k → slot_at (wide_slots z w b) k ≡ empty_slot
  rest_empty two b k n h = wide_rest b k n ∙ start_empty w (omega (arith, fits.spaces_fit)) k h

-- ── the live spaces ──────────────────────────────────────────────────────
-- there is one entry for each space of the larger sizes
pub length_wide_live : (z w : Sizes) (live : List Bool) → length (wide_live z w live) ≡ w.spaces
unfolding wide_live
length_wide_live z w live = length_tabulate (λ s. cond (ltb s z.spaces) (alive live s) (alive (start_board w).live s)) w.spaces

-- the same spaces are live
pub wide_live_at : (z w : Sizes) → Fits z w → 2 ≤ z.spaces → (live : List Bool) → length live ≡ z.spaces
    → (s : ℕ) → alive (wide_live z w live) s ≡ alive live s
unfolding wide_live
wide_live_at z w fits two live len s = go (dec_lt s z.spaces) (dec_lt s w.spaces)
  where
    go : Dec (s < z.spaces) → Dec (s < w.spaces) → alive (wide_live z w live) s ≡ alive live s
    go (yes h) g =
        tabulate_at (λ s. cond (ltb s z.spaces) (alive live s) (alive (start_board w).live s)) w.spaces s false (omega (arith, fits.spaces_fit))
        ∙ rw (lt-ltb s z.spaces h)
    go (no h) (yes g) =
        tabulate_at (λ s. cond (ltb s z.spaces) (alive live s) (alive (start_board w).live s)) w.spaces s false g
        ∙ (rw (le-ltb s z.spaces (omega arith)) (start_live w s g ∙ lt-leb s 1 (omega arith))
        ∙ sym (get_or-eq_default live false {n = s} (omega arith)))
    go (no h) (no g) =
        tabulate_past (λ s. cond (ltb s z.spaces) (alive live s) (alive (start_board w).live s)) w.spaces s false (omega arith)
        ∙ sym (get_or-eq_default live false {n = s} (omega arith))
