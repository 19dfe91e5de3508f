-- A call over a range leaves the board that its one-page calls leave, called one after the other from the lowest page up.
use mathlib.Core.Path.{◌≡◌, ap, ◌∙◌}
use Prim.Native.Nat.{ℕ}
use Rattle.std.specs.declared.result.Result.{Result}
use Rattle.lend.specs.declared.refusal.Refusal.{Refusal}
use Rattle.lend.specs.Tables.{State, alone}
use Rattle.lend.specs.Ranges.{RangeCall, RangeOutcome, range_number, range_step}
use Rattle.lend_demands.specs.RangeSteps.{page_calls}
use Rattle.lend_demands.proofs.RangeSteps.{range_steps}
use Rattle.board.specs.declared.Board.{Board}
use Rattle.board.specs.Model.{sizes}
use Rattle.board.specs.Board.{tables}
use Rattle.board.proofs.Boards.{same_board}
use Rattle.calls.specs.declared.progress.Progress.{Progress}
use Rattle.calls.specs.Progress.{range_outcome, range_state}
use Rattle.code_demands.specs.Chain.{Chain}
use Rattle.code_demands.proofs.Chain.{chain_steps}

-- r is an answer that the contract of the range call admits with the board d, and its first checks accept; the boards in sequence are tied by the
-- contracts of the one-page calls
pub range_chain : {spaces pages slots places : ℕ} {b d e : Board spaces pages slots places} (c : RangeCall) (r : Result Progress Refusal)
    → range_outcome (sizes spaces pages places) r (tables d) ≡ range_step (sizes spaces pages places) (alone (tables b)) c
    → range_number (sizes spaces pages places) (alone (tables b)) c ≡ 0 → Chain b (page_calls (sizes spaces pages places) c) e → d ≡ e
range_chain {spaces} {pages} {slots} {places} {b = b} {d = d} {e = e} c r is accepted chain =
    same_board d e
    (ap (λ (x : State). x.board)
    (range_state (sizes spaces pages places) r (tables d) ∙ (ap (λ (o : RangeOutcome). o.state) is ∙ (range_steps (sizes spaces pages places) (alone (tables b)) c accepted ∙ chain_steps chain))))
