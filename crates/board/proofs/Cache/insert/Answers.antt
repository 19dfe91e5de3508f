-- `insert` meets its contract: with a place empty the entry goes there, else to the next place to replace, whose number moves on.
use mathlib.Core.Path.{◌≡◌, refl, sym, ap, ◌∙◌}
use Prim.Native.Nat.{ℕ, ◌≤◌}
use native.Mathlib.Omega.{arith}
use borrow.Author.Rules.{rules}
use lib.ListN.{length, set}
use Rattle.std.proofs.lemmas.List.{set_past}
use Rattle.lend.specs.Cache.{empty_in}
use Rattle.lend_basics.proofs.Lists.{length_unmap}
use Rattle.lend_code.proofs.Access.{insert_empty, insert_full}
use Rattle.board.specs.Model.{sizes}
use Rattle.board.proofs.Searches.{found_some, found_none}
use Rattle.board.proofs.Cache.insert.Goals as goal

pub returns-in-Some : goal.returns-in-Some
returns-in-Some g c =
    let b = c.args.self in
    let long : length b.places ≡ g.row.PLACES = search (rules, length_unmap) in
    let at = found_some _ _ _ c.in-Some.ensures in
    let put = insert_empty (sizes g.row.SPACES g.row.PAGES g.row.PLACES) b.places b.next c.args.place long c.in-Some.at at.0 (omega (arith, at.1)) in
    λ i. record { places = put.0 i; next = put.1 i }

pub returns-then-at : goal.returns-then-at
returns-then-at g c =
    let b = c.args.self in
    let long : length b.places ≡ g.row.PLACES = search (rules, length_unmap) in
    let full : g.row.PLACES ≤ empty_in b.places = omega (arith, found_none _ _ c.in-None.ensures, long) in
    let put = insert_full (sizes g.row.SPACES g.row.PAGES g.row.PLACES) b.places b.next c.args.place long _ refl full in
    λ i. record {
      places = (ap (λ (at : ℕ). set b.places at c.args.place) c.from-at.ensures ∙ put.0) i;
      next = (c.place_after.ensures ∙ put.1) i;
    }

pub returns-else-at : goal.returns-else-at
returns-else-at g c =
    let b = c.args.self in
    let long : length b.places ≡ g.row.PLACES = search (rules, length_unmap) in
    let full : g.row.PLACES ≤ empty_in b.places = omega (arith, found_none _ _ c.in-None.ensures, long) in
    let put = insert_full (sizes g.row.SPACES g.row.PAGES g.row.PLACES) b.places b.next c.args.place long _ refl full in
    let stays : b.places ≡ set b.places b.next c.args.place = sym (set_past b.places b.next c.args.place (omega (arith, long, c.from-at.ensures, c.if-at.false))) in
    λ i. record { places = (stays ∙ put.0) i; next = (c.place_after.ensures ∙ put.1) i }
