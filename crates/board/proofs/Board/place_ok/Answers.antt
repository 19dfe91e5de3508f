-- `place_ok` meets its contract: an empty place passes, one that does not fit fails, and of any other its number decides.
use mathlib.Core.Path.{◌≡◌, refl, ◌∙◌}
use native.Mathlib.Omega.{arith}
use borrow.Author.Rules.{rules}
use lib.ListN.{length}
use Rattle.lend_basics.proofs.Lists.{length_unmap}
use Rattle.board.specs.Model.{sizes}
use Rattle.board.proofs.Places.{place_empty, place_unfit, place_first}
use Rattle.board.proofs.Board.place_ok.Goals as goal

pub returns-then-eq : goal.returns-then-eq
returns-then-eq g c =
    let z = sizes g.row.SPACES g.row.PAGES g.row.PLACES in
    place_empty z _ _ _ _ _ c.eq.result _ _ _ c.eq.ensures c.key.ensures c.inside-at.ensures refl c.if-eq.true

pub returns-then-place_fits : goal.returns-then-place_fits
returns-then-place_fits g c =
    let long : length c.args.self.now.cache.places ≡ g.row.PLACES = search (rules, length_unmap) in
    let z = sizes g.row.SPACES g.row.PAGES g.row.PLACES in
    c.eq-then-place_fits.ensures
    ∙ place_first z _ _ _ _ _ _ _ _ _ c.eq.ensures c.key.ensures c.inside-at.ensures c.place_fits.ensures c.if-eq.false c.if-place_fits.true _ c.place_for.ensures (omega (arith, long, c.requires))

pub returns-else-place_fits : goal.returns-else-place_fits
returns-else-place_fits g c =
    let z = sizes g.row.SPACES g.row.PAGES g.row.PLACES in
    place_unfit z _ _ _ _ _ _ _ _ _ c.eq.ensures c.key.ensures c.inside-at.ensures c.place_fits.ensures c.if-eq.false c.if-place_fits.false
