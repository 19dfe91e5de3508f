-- Boards in sequence, each made from the one before by a call that kept its contract.
use Rattle.std.specs.Prelude.{ℕ, ◌≡◌, List, [], ◌∷◌}
use Rattle.std.specs.declared.result.Result.{Result}
use Rattle.lend.specs.declared.refusal.Refusal.{Refusal}
use Rattle.lend.specs.Tables.{alone}
use Rattle.lend.specs.Calls.{Call, step}
use Rattle.board.specs.declared.Board.{Board}
use Rattle.board.specs.Model.{sizes}
use Rattle.board.specs.Board.{tables}
use Rattle.calls.specs.Answer.{outcome}

-- from board b the calls lead to board e, where each answer, with the board that it leaves, is one that the contract of its call admits
pub data Chain {spaces pages slots places : ℕ} : Board spaces pages slots places → List Call → Board spaces pages slots places → Type 0 where
  done : {b : Board spaces pages slots places} → Chain b [] b
  called : {b d e : Board spaces pages slots places} {cs : List Call} (c : Call) (r : Result ℕ Refusal)
      → outcome r (tables d) ≡ step (sizes spaces pages places) (alone (tables b)) c → Chain d cs e → Chain b (c ∷ cs) e
