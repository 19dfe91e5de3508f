-- `check` meets its contract: the pages first, and then what the cache and the summary are held against.
use mathlib.Core.Path.{◌≡◌, sym, ◌∙◌}
use native.Mathlib.Omega.{arith}
use borrow.Author.Rules.{rules}
use lib.Dec.{eqb}
use lib.ListN.{length}
use Rattle.lend.specs.Tables.{Shaped}
use Rattle.lend_basics.proofs.Lists.{length_unmap}
use Rattle.board.specs.Model.{sizes}
use Rattle.board.specs.Board.{tables}
use Rattle.board.proofs.Places.{four}
use Rattle.board.proofs.Checked.{same_pairs, pages_wrong, places_wrong, next_wrong, summary_wrong, all_right}
use Rattle.board.proofs.Board.check.Goals as goal
use Rattle.board.proofs.Board.check.Goals.{else-places_fit-via-then-places_fit+then-from+else-eq, else-places_fit-via-then-places_fit+else-from, else-places_fit-via-else-places_fit}

pub returns-in_default : goal.returns-in_default
returns-in_default g c =
    let b = c.args.self.now in
    let slots : length b.slots ≡ g.row.SLOTS = search (rules, length_unmap) in
    let shaped : Shaped (sizes g.row.SPACES g.row.PAGES g.row.PLACES) (tables b) = record {
      slots_long = slots ∙ b.shape.is_model.slots_are;
      live_long = search (rules, length_unmap);
      places_long = search (rules, length_unmap);
      summary_long = search (rules, length_unmap);
    } in
    pages_wrong _ _ shaped c.in_default.ensures

pub returns-then-eq : goal.returns-then-eq
returns-then-eq g c =
    let b = c.args.self.now in
    let slots : length b.slots ≡ g.row.SLOTS = search (rules, length_unmap) in
    let shaped : Shaped (sizes g.row.SPACES g.row.PAGES g.row.PLACES) (tables b) = record {
      slots_long = slots ∙ b.shape.is_model.slots_are;
      live_long = search (rules, length_unmap);
      places_long = search (rules, length_unmap);
      summary_long = search (rules, length_unmap);
    } in
    let counts : length c.in-Some.pages.counts ≡ g.row.PAGES = search (rules, length_unmap) in
    let same = same_pairs _ (sizes g.row.SPACES g.row.PAGES g.row.PLACES) b.summary c.in-Some.pages.counts (λ x y. four (eqb x.held y.held) (eqb x.read y.read) (eqb x.write y.write) (eqb x.execute y.execute)) shaped.summary_long counts in
    all_right _ _ shaped c.in-Some.pages c.in-Some.ensures (sym c.places_fit.ensures ∙ c.if-places_fit.true) (omega (arith, c.from.ensures, c.if-from.true)) (sym same ∙ (sym c.eq.ensures ∙ c.if-eq.true))

pub returns : goal.returns
returns g c =
    let b = c.args.self.now in
    let slots : length b.slots ≡ g.row.SLOTS = search (rules, length_unmap) in
    let shaped : Shaped (sizes g.row.SPACES g.row.PAGES g.row.PLACES) (tables b) = record {
      slots_long = slots ∙ b.shape.is_model.slots_are;
      live_long = search (rules, length_unmap);
      places_long = search (rules, length_unmap);
      summary_long = search (rules, length_unmap);
    } in
    let counts : length c.in-Some.pages.counts ≡ g.row.PAGES = search (rules, length_unmap) in
    let same = same_pairs _ (sizes g.row.SPACES g.row.PAGES g.row.PLACES) b.summary c.in-Some.pages.counts (λ x y. four (eqb x.held y.held) (eqb x.read y.read) (eqb x.write y.write) (eqb x.execute y.execute)) shaped.summary_long counts in
    elim c.else-places_fit.branch [
      | else-places_fit-via-then-places_fit+then-from+else-eq w ↦ summary_wrong _ _ shaped c.in-Some.pages c.in-Some.ensures (sym same ∙ (sym w.eq.ensures ∙ w.if-eq.false))
      | else-places_fit-via-then-places_fit+else-from w ↦ next_wrong _ _ shaped c.in-Some.pages c.in-Some.ensures (omega (arith, w.from.ensures, w.if-from.false))
      | else-places_fit-via-else-places_fit w ↦ places_wrong _ _ shaped c.in-Some.pages c.in-Some.ensures (sym c.places_fit.ensures ∙ w.if-places_fit.false)
    ]
