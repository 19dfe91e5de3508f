-- What a call over a range answers, as an outcome of the rules: the number and the offset of the first refused page, how many pages were done, the
-- count of pages that it emptied, and the board after it. A refusal of the first checks has every other field 0.
use Rattle.std.specs.Prelude.{ℕ, ◌+◌, ◌≡◌, refl, cond, ltb}
use Rattle.std.specs.declared.option.Option.{Option}
use Rattle.std.specs.declared.option.Option.TheVariants.{Some, None}
use Rattle.std.specs.declared.result.Result.{Result}
use Rattle.std.specs.declared.result.Result.TheVariants.{Ok, Err}
use Rattle.lend.specs.declared.refusal.Refusal.{Refusal}
use Rattle.lend.specs.Sizes.{Sizes}
use Rattle.lend.specs.Tables.{Tables, alone}
use Rattle.lend.specs.Refusals.{number_of}
use Rattle.lend.specs.Ranges.{RangeOutcome}
use Rattle.calls.specs.declared.progress.Progress.{Progress}

-- of the first refused page, where there is one
abbrev pub refused_number : Option (ℕ × Refusal) → ℕ
refused_number None = 0
refused_number (Some x) = number_of x.1

abbrev pub refused_offset : ℕ → Option (ℕ × Refusal) → ℕ
refused_offset pages None = pages
refused_offset pages (Some x) = x.0

abbrev pub range_outcome : Sizes → Result Progress Refusal → Tables → RangeOutcome
range_outcome z (Ok p) t = record {
  number = refused_number p.refused;
  done = p.done;
  offset = refused_offset z.pages p.refused;
  emptied = p.emptied;
  state = alone t;
}
range_outcome z (Err r) t = record { number = number_of r; done = 0; offset = 0; emptied = 0; state = alone t }

-- after the page at offset i: a done one is counted, up to all pages of a space, and of the refused ones the first is remembered; what was
-- emptied is counted at the end
abbrev pub first_of_two : Option (ℕ × Refusal) → ℕ → Refusal → Option (ℕ × Refusal)
first_of_two None i r = Some (i, r)
first_of_two (Some x) i r = Some x

abbrev pub page_made : ℕ → Progress → ℕ → Result ℕ Refusal → Progress
page_made pages p i (Ok n) = record { done = cond (ltb p.done pages) (p.done + 1) p.done; refused = p.refused; emptied = 0 }
page_made pages p i (Err r) = record { done = p.done; refused = first_of_two p.refused i r; emptied = 0 }

-- the board with no memory beside it, whatever was answered
pub range_state : (z : Sizes) (r : Result Progress Refusal) (t : Tables) → alone t ≡ (range_outcome z r t).state
range_state z (Ok p) t = refl
range_state z (Err r) t = refl
