-- What a call answers, as an outcome of the rules: the number, the count of pages that it emptied, and the board after it with no memory beside
-- it. A refusal's other field is 0.
use Rattle.std.specs.Prelude.{ℕ}
use Rattle.std.specs.declared.result.Result.{Result}
use Rattle.std.specs.declared.result.Result.TheVariants.{Ok, Err}
use Rattle.lend.specs.declared.refusal.Refusal.{Refusal}
use Rattle.lend.specs.Tables.{Tables, alone}
use Rattle.lend.specs.Refusals.{answer_of}
use Rattle.lend.specs.Calls.{Outcome, plain_reply}

abbrev pub emptied_of : Result ℕ Refusal → ℕ
emptied_of (Ok n) = n
emptied_of (Err r) = 0

abbrev pub outcome : Result ℕ Refusal → Tables → Outcome
outcome r t = record { reply = plain_reply (answer_of r) (emptied_of r); state = alone t }
