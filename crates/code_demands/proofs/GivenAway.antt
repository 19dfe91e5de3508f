-- M-103 for the function as it is called: an accepted grant gives the page away.
use Prim.Native.Nat.{ℕ}
use mathlib.Core.Path.{◌≡◌, sym, subst, ap, ◌∙◌}
use Rattle.std.specs.declared.result.Result.{Result}
use Rattle.lend.specs.declared.refusal.Refusal.{Refusal}
use Rattle.lend.specs.Sizes.{key}
use Rattle.lend.specs.Tables.{Tables, table_of, alone}
use Rattle.lend.specs.Refusals.{answer_of}
use Rattle.lend.specs.Calls.{Grant, Outcome, step}
use Rattle.lend_laws.proofs.Accepted.{step_number}
use Rattle.lend_demands.specs.GivenAway.{GivenAway}
use Rattle.lend_demands.proofs.Fault.{grant_withdraws}
use Rattle.board.specs.declared.Board.{Board}
use Rattle.board.specs.Model.{sizes}
use Rattle.board.specs.Board.{tables}
use Rattle.calls.specs.Answer.{outcome}

-- r is an answer that the contract of grant admits with the board d, and it says that the call was done
pub grant_withdraws_for_code : {spaces pages slots places : ℕ} (b d : Board spaces pages slots places) (r : Result ℕ Refusal) (from page to at rights : ℕ)
    → outcome r (tables d) ≡ step (sizes spaces pages places) (alone (tables b)) (Grant from page to at rights) → answer_of r ≡ 0
    → GivenAway (sizes spaces pages places) (table_of (tables b)) (table_of (tables d)) (key (sizes spaces pages places) from page) (key (sizes spaces pages places) to at) rights
grant_withdraws_for_code {spaces} {pages} {slots} {places} b d r from page to at rights is done =
    let z = sizes spaces pages places in
    subst (λ (t : Tables). GivenAway z (table_of (tables b)) (table_of t) (key z from page) (key z to at) rights)
    (ap (λ (o : Outcome). o.state.board) (sym is))
    (grant_withdraws z (alone (tables b)) from page to at rights
    (sym (step_number z (alone (tables b)) (Grant from page to at rights)) ∙ (ap (λ (o : Outcome). o.reply.number) (sym is) ∙ done)))
