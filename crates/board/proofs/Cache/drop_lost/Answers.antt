-- `drop_lost` meets its contract: the goals that are left, from the invariant.
use mathlib.Core.Path.{◌≡◌, sym, ap, ◌∙◌}
use mathlib.Core.Bool.{not}
use Prim.Native.Nat.{ℕ}
use native.Mathlib.Omega.{arith}
use borrow.Author.Rules.{rules}
use lib.ListN.{length}
use Rattle.std.proofs.lemmas.List.{set-get_or}
use Rattle.lend.specs.Cache.{empty_place}
use Rattle.lend_basics.proofs.Lists.{length_unmap}
use Rattle.lend_code.specs.Inner.{lost_in}
use Rattle.lend_code.proofs.Drops.{dropping_none, dropping_yes, dropping_no, dropping_all, lost_past}
use Rattle.board.specs.Model.{sizes}
use Rattle.board.proofs.Cache.drop_lost.Goals as goal
use Rattle.board.proofs.Cache.drop_lost.Goals.{then-k+then-not-within, else-k, else-k-via-then-k+else-not-within, else-k-via-else-k}

pub loop-place-init : goal.loop-place-init
loop-place-init g c = dropping_none _ _ _

pub loop-place-preserved : goal.loop-place-preserved
loop-place-preserved g c =
    let inv = c.loop-place.invariant in
    let long : length c.args.self.places ≡ g.row.PLACES = search (rules, length_unmap) in
    let page = ap (λ (k : ℕ). lost_in c.args.before.now c.args.after.now k) (sym c.key-k.ensures) in
    elim c.if-k.branch [
      | then-k+then-not-within w ↦ rw w.place-items-is (dropping_yes _ _ inv (omega (arith, long, c.loop-place-test.true)) (page ∙ ap not (sym w.within.ensures ∙ w.if-not-within.true)))
      | else-k w ↦ elim w.else-k.branch [
        | else-k-via-then-k+else-not-within v ↦ rw (w.place-items-is ∙ (v.place-items-is ∙ set-get_or c.loop-place.place-items c.loop-place.place-index empty_place)) (dropping_no _ _ inv (page ∙ ap not (sym v.within.ensures ∙ v.if-not-within.false)))
        | else-k-via-else-k v ↦ rw (w.place-items-is ∙ (v.place-items-is ∙ set-get_or c.loop-place.place-items c.loop-place.place-index empty_place)) (dropping_no _ _ inv (page ∙ lost_past c.args.before.now c.args.after.now c.key-k.result (omega (arith, c.told-before, v.if-k.false))))
      ]
    ]

pub returns : goal.returns
returns g c =
    let long : length c.args.self.places ≡ g.row.PLACES = search (rules, length_unmap) in
    let all = dropping_all (sizes g.row.SPACES g.row.PAGES g.row.PLACES) (lost_in c.args.before.now c.args.after.now) c.loop-place.invariant (omega (arith, long, c.loop-place-test.false)) in
    λ i. record { places = all i; next = c.args.self.next }
