-- `create` meets its contract: an accepted create changes one entry of the live spaces, and empties nothing.
use Rattle.std.proofs.lemmas.Result.{err_from_is_err_and}
use Rattle.calls.proofs.Spaces.{create_refused, create_made}
use Rattle.calls.proofs.create.create.Goals as goal

pub returns-in_err-first_refusal : goal.returns-in_err-first_refusal
returns-in_err-first_refusal g c =
    let p = err_from_is_err_and c.from_residual.result c.from_residual.ensures.1 in
    rw (p.1, p.2) (create_refused _ _ _ _ _ c.sound.ensures c.is_live.ensures _ c.in_err-first_refusal.ensures)

pub returns : goal.returns
returns g c = create_made _ _ _ _ _ c.sound.ensures c.is_live.ensures c.in_ok-first_refusal.ensures
