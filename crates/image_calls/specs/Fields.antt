-- What the last part of a call leaves, by what the call on the board answered.
use Rattle.std.specs.Prelude.{ℕ, cond, List}
use Rattle.std.specs.declared.result.Result.{Result}
use Rattle.std.specs.declared.result.Result.TheVariants.{Ok, Err}
use Rattle.lend.specs.declared.refusal.Refusal.{Refusal}
use Rattle.lend.specs.Sizes.{Sizes}
use Rattle.lend.specs.Calls.{Reply}
use Rattle.lend.specs.Ranges.{RangeOutcome}
use Rattle.image.specs.Answered.{Left, range_finishing}

-- the out fields that an answer fills: a refusal's are 0
abbrev pub fields_of : Result (ℕ × ℕ × ℕ) Refusal → ℕ × ℕ × ℕ
fields_of (Ok x) = x
fields_of (Err r) = (0, 0, 0)

-- of a translate's reply: the number, and the out fields
abbrev pub translate_told : Reply → ℕ × (ℕ × ℕ × ℕ)
translate_told r = (r.number, (r.address, cond r.hit 1 0, r.links))

-- of a call over ranges, by its outcome
abbrev pub range_finished : Sizes → RangeOutcome → List ℕ → Left
range_finished z o image = range_finishing z o.state.board o.number o.done o.offset o.emptied image
