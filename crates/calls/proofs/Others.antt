-- The search of one space for a page, page by page from its first to its last: no page of another space need be asked.
use mathlib.Core.Path.{◌≡◌, refl, sym, ap, ◌∙◌}
use mathlib.Core.Bool.{Bool, true, false, not, ◌&&◌}
use mathlib.Core.List.{List}
use Prim.Native.Nat.{ℕ, ◌+◌, ◌-◌, ◌*◌, ◌≤◌, ◌<◌}
use native.Mathlib.Nat.{div-lt_iff_lt-mul}
use native.Mathlib.Omega.{arith}
use lib.Dec.{T, eqb, eqb→eq}
use borrow.Author.Tests.{eq-eqb, ne_eqb}
use Rattle.lend.specs.declared.Slot.{Slot}
use Rattle.lend.specs.Sizes.{Sizes, slot_count, key, space_of}
use Rattle.lend.specs.Lists.{any, some}
use Rattle.lend.specs.Slots.{slot_at}
use Rattle.lend.specs.Line.{line_of}
use Rattle.lend_basics.proofs.Bools.{and_l, and_r, and_false, is_true, is_false}
use Rattle.lend_basics.proofs.Lists.{some_of, some_one}
use Rattle.lend_sound.proofs.Lines.{space_of_key}
use Rattle.lend_code.specs.Inner.{has, line_has, only_page, space_pages}
use Rattle.lend_code.specs.Lending.{meets_in, other_in}
use Rattle.lend_code.proofs.Fits.{key_in}
use Rattle.lend_code.proofs.Columns.{line_has_at}
use Rattle.lend_code.proofs.Climbs.{Failed, failed_more}

-- a page from the first of the space on is one of its pages, and in the table
space_key : (z : Sizes) (space k : ℕ) → space * z.pages ≤ k → key z space (k - space * z.pages) ≡ k
space_key z space k first = omega (arith, first)

space_page : (z : Sizes) (space k : ℕ) → k < (space + 1) * z.pages → space * z.pages ≤ k → k - space * z.pages < z.pages
space_page z space k last first = omega (arith, last, first)

space_inside : (z : Sizes) (space k : ℕ) → space < z.spaces → space * z.pages ≤ k → k < (space + 1) * z.pages → k < slot_count z
space_inside z space k h first last = rw (space_key z space k first) at (key_in z space (k - space * z.pages) h (space_page z space k last first))

-- ── in a set ─────────────────────────────────────────────────────────────
module _ (z : Sizes) (set : List Bool) (space but : ℕ) where
  -- what is asked of page k of the table
  abbrev pub asked : ℕ → Bool
  asked k = has set k && eqb (space_of z k) space && not (eqb k but)

  -- a page that is asked for is in the space
  in_it : (k : ℕ) → T (asked k) → space_of z k ≡ space
  in_it k t = eqb→eq (space_of z k) space (and_r (has set k) (eqb (space_of z k) space) (and_l (has set k && eqb (space_of z k) space) (not (eqb k but)) t))

  -- no page before the space
  pub none_before : 1 ≤ z.pages → Failed asked (space * z.pages)
  none_before one = record { fails = λ j h. is_false (asked j) (λ t. apart j h (in_it j t)) }
    where
      apart : (j : ℕ) → j < space * z.pages → space_of z j ≡ space → ⊥
      apart j h e = let l : space_of z j < space = (div-lt_iff_lt-mul {k = z.pages} {x = j} {y = space} one).1 h in omega (arith, e, l)

  -- a page that is not in the set, or is the one that does not count
  pub not_set : (k : ℕ) → Failed asked k → has set k ≡ false → Failed asked (k + 1)
  not_set k f e = failed_more asked k f (rw e refl)

  pub not_this : (k : ℕ) → Failed asked k → k ≡ but → Failed asked (k + 1)
  not_this k f e = failed_more asked k f (rw (eq-eqb k but e) (and_false (has set k && eqb (space_of z k) space)))

  -- one page of the space settles it
  pub one_here : space < z.spaces → (k : ℕ) → space * z.pages ≤ k → k < (space + 1) * z.pages → has set k ≡ true → (k ≡ but → ⊥) → true ≡ other_in z set space but
  unfolding other_in
  one_here h k first last e other = sym (is_true (some (slot_count z) asked) (some_of (slot_count z) asked k inside yes))
    where
      inside : k < slot_count z
      inside = space_inside z space k h first last

      in_space : space_of z k ≡ space
      in_space = ap (space_of z) (sym (space_key z space k first)) ∙ space_of_key z space (k - space * z.pages) (space_page z space k last first)

      yes : T (asked k)
      yes = rw (e, eq-eqb (space_of z k) space in_space, ne_eqb k but other) tt

  -- and so do all of them
  pub none_here : 1 ≤ z.pages → (k : ℕ) → Failed asked k → (space + 1) * z.pages ≤ k → false ≡ other_in z set space but
  unfolding other_in
  none_here one k f h = sym (is_false (some (slot_count z) asked) (λ t. let o = some_one (slot_count z) asked t in none o.0 o.2))
    where
      none : (j : ℕ) → T (asked j) → ⊥
      none j t =
          let e : space_of z j ≡ space = in_it j t in
          let l : j < (space + 1) * z.pages = (div-lt_iff_lt-mul {k = z.pages} {x = j} {y = space + 1} one).0 (omega (arith, e)) in
          rw (f.fails j (omega (arith, l, h))) at t

-- ── by the lines ─────────────────────────────────────────────────────────
module _ (z : Sizes) (b : List Slot) (pages : List Bool) (space but k : ℕ) (h : space < z.spaces) (first : space * z.pages ≤ k) (last : k < (space + 1) * z.pages) where
  abbrev below : List Bool
  below = line_has z b pages

  -- whether page k is below the set is what its own line tells
  by_line : has below k ≡ any (has pages) (line_of z (slot_at b) k)
  by_line = line_has_at z b pages k (space_inside z space k h first last)

  pub line_misses : (m : Bool) → Failed (asked z below space but) k → m ≡ any (has pages) (line_of z (slot_at b) k) → m ≡ false → Failed (asked z below space but) (k + 1)
  line_misses m f is e = not_set z below space but k f (by_line ∙ (sym is ∙ e))

  pub line_hits : (y : ℕ) (m : Bool) → pages ≡ only_page z y → m ≡ any (has pages) (line_of z (slot_at b) k) → m ≡ true → (k ≡ but → ⊥)
      → true ≡ other_in z (line_has z b (only_page z y)) space but
  line_hits y m only is e other =
      one_here z below space but h k first last (by_line ∙ (sym is ∙ e)) other ∙ ap (λ (s : List Bool). other_in z (line_has z b s) space but) only

-- a line that meets the pages of a space
pub meets_made : (z : Sizes) (b : List Slot) (k space : ℕ) (pages : List Bool) (m : Bool) → m ≡ any (has pages) (line_of z (slot_at b) k) → pages ≡ space_pages z space → m ≡ meets_in z b k space
unfolding meets_in
meets_made z b k space pages m is by = is ∙ ap (λ (s : List Bool). any (has s) (line_of z (slot_at b) k)) by
