-- The same call over a range on two models (00; 02, M-100): which ranges name the same pages on both, and in what the outcomes agree.
use Rattle.std.specs.Prelude.{ℕ, ◌+◌, ◌≡◌, Bool, ◌&&◌, ◌||◌, List, eqb, ltb, leb}
use Rattle.lend.specs.Sizes.{Sizes}
use Rattle.lend.specs.Ranges.{is_part, range_of, first_page, page_count, RangeCall, UnmapRange, FlushRange, MapRange, GrantRange, RangeOutcome}
use Rattle.lend_models.specs.Embedding.{wide_summary}
use Rattle.lend_models.specs.Agreement.{Embeds}

-- ── the calls ────────────────────────────────────────────────────────────
-- the range is nil
abbrev pub is_nil : ℕ → ℕ → Bool
is_nil base size = eqb base 0 && eqb size 0

-- every page of the range is a page of the sizes
abbrev pub pages_inside : Sizes → ℕ → ℕ → Bool
pages_inside z base size = leb (first_page (range_of z base size) + page_count (range_of z base size)) z.pages

-- the range names the same pages at larger sizes: it is nil, or a part with all its pages inside; complete is every page of a
-- space, and so another range on each model
abbrev pub names_same : Sizes → ℕ → ℕ → Bool
names_same z base size = is_nil base size || (is_part z base size && pages_inside z base size)

-- such a range of a space that is one of the sizes
abbrev pub is_range : Sizes → ℕ → ℕ → ℕ → Bool
is_range z space base size = ltb space z.spaces && names_same z base size

-- every range of the call is one; rights know no sizes
abbrev pub range_in_limits : Sizes → RangeCall → Bool
range_in_limits z (UnmapRange space base size rights) = is_range z space base size
range_in_limits z (FlushRange space base size rights) = is_range z space base size
range_in_limits z (MapRange from base size to atBase atSize rights) = is_range z from base size && is_range z to atBase atSize
range_in_limits z (GrantRange from base size to atBase atSize rights) = is_range z from base size && is_range z to atBase atSize

-- ── the two outcomes ─────────────────────────────────────────────────────
-- the same number, done and emptied; the same offset where a page or the call is refused, and else each model's number of pages;
-- states that embed again; and the same counts for the frames that both have
pub record RangeAgree (z w : Sizes) (rest : List ℕ) (small large : RangeOutcome) : Type 0 where
  pub same_number : large.number ≡ small.number
  pub same_done : large.done ≡ small.done
  pub same_emptied : large.emptied ≡ small.emptied
  pub same_offset : (small.number ≡ 0 → ⊥) → large.offset ≡ small.offset
  pub no_offset : small.number ≡ 0 → (small.offset ≡ z.pages) × (large.offset ≡ w.pages)
  pub embeds_again : Embeds z w rest small.state large.state
  pub same_summary : large.state.board.summary ≡ wide_summary w small.state.board.summary
