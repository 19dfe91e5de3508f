-- `grant` meets its contract: a board that is not sound is refused with 1, and on a sound one `grant_page` does the rest.
use borrow.Author.Rules.{rules}
use Rattle.std.proofs.lemmas.Result.{err_from_is_err_and}
use Rattle.calls.proofs.Refused.{unsound_by, sound_by}
use Rattle.calls.proofs.grant.grant.Goals as goal

pub returns-in_err-check : goal.returns-in_err-check
returns-in_err-check g c =
    let p = err_from_is_err_and c.from_residual.result c.from_residual.ensures.1 in
    rw (p.1, p.2) (unsound_by _ _ _ _ c.in_err-check.ensures)

pub grant_page-requires : goal.grant_page-requires
grant_page-requires g c = (search rules, (sound_by _ _ _ c.in_ok-check.ensures).0)
