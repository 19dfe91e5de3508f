-- A range of the code as a range of the rules.
use Rattle.std.specs.Prelude.{ℕ, ◌≡◌, refl, ◌&&◌, cond, leb}
use Rattle.std.specs.declared.option.Option.{Option}
use Rattle.std.specs.declared.option.Option.TheVariants.{Some, None}
use Rattle.lend.specs.Sizes.{Sizes}
use Rattle.lend.specs.Ranges as rules
use Rattle.board.specs.declared.range.Range.{Range}

abbrev pub range_meant : Option Range → rules.Range
range_meant None = rules.Invalid
range_meant (Some r) = rules.Pages r.first r.count

-- and back: nothing is lost
abbrev pub range_back : rules.Range → Option Range
range_back rules.Invalid = None
range_back (rules.Pages first count) = Some (record { first = first; count = count })

pub range_back_meant : (r : Option Range) → range_back (range_meant r) ≡ r
range_back_meant None = refl
range_back_meant (Some r) = refl

-- how many pages a part of this size has, where a part has that size
abbrev pub part_found : Sizes → ℕ → Option ℕ
part_found z size = cond (leb 10 size && leb (rules.part_pages size) z.pages) (Some (rules.part_pages size)) None
