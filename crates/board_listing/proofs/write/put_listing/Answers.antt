-- `put_listing` meets its contract: the goals that are left, from the invariant.
use Prim.Native.Nat.{◌+◌, ◌<◌, ◌≤◌}
use mathlib.Core.Path.{◌≡◌, ap, ◌∙◌}
use native.Mathlib.Omega.{arith}
use Rattle.listing.proofs.Writing.{list_start, list_turn, list_end, numbered_length, numbered_at, wrote_listing}
use lib.ListN.{length}
use Rattle.std.proofs.lemmas.List.{length_push}
use Rattle.lend.specs.Sizes.{slot_count}
use Rattle.lend.specs.Slots.{slot_at}
use Rattle.lend_basics.proofs.Lists.{length_unmap}
use Rattle.lend_code.proofs.Summary.{bit_small}
use Rattle.board.specs.Model.{sizes}
use Rattle.board.specs.Board.{tables}
use Rattle.std.proofs.lemmas.Iterator.{YieldsList-from_slice}
use Rattle.std.proofs.lemmas.Iterator.Consumers.{YieldsList-from_enumerate, YieldsList-turn, YieldsList-end}
use Rattle.std.proofs.lemmas.Iterator.Adapters.{YieldsList-from_skip}
use borrow.Author.Rules.{rules}
use Rattle.board_listing.proofs.Readable.{pool_within}
use Rattle.board_listing.proofs.write.put_listing.Goals as goal

pub loop-k-init : goal.loop-k-init
loop-k-init g c =
    let z = sizes g.row.SPACES g.row.PAGES g.row.PLACES in
    let e : g.row.PAGES + 0 ≡ g.row.PAGES = omega arith in
    rw e (list_start z _ _ (pool_within c.args.b.now.shape.is_model))

pub overflow_add-held : goal.overflow_add-held
overflow_add-held g c =
    let m = c.args.b.now.shape.is_model in
    omega (arith, c.loop-k.invariant.few, c.loop-k.invariant.within, bit_small c.is_held.result, c.from-held.ensures, m.slots_are, m.few_slots)

pub loop-k-preserved : goal.loop-k-preserved
loop-k-preserved g c =
    let z = sizes g.row.SPACES g.row.PAGES g.row.PLACES in
    let all = YieldsList-from_skip g.row.PAGES (YieldsList-from_enumerate (YieldsList-from_slice c.args.b.now.slots cc) (cc)) (cc) in
    let t = YieldsList-turn all c.loop-k.yielded _ c.loop-k.yielded_by _ _ _ c.in-Some.is c.next.ensures.steps in
    let p = numbered_at g.row.PAGES c.args.b.now.slots (length c.loop-k.yielded) t.0 t.1 in
    let slots : length c.args.b.now.slots ≡ g.row.SLOTS = search (rules, length_unmap) in
    let long : length c.args.b.now.slots ≡ slot_count z = slots ∙ c.args.b.now.shape.is_model.slots_are in
    let k : c.in-Some.k ≡ g.row.PAGES + length c.loop-k.yielded = ap (λ x. x.0) p.1 in
    let s : c.in-Some.field-0-1.now ≡ slot_at c.args.b.now.slots (g.row.PAGES + length c.loop-k.yielded) = ap (λ x. x.1) p.1 in
    let h : g.row.PAGES + length c.loop-k.yielded < slot_count z = omega (arith, p.0, long) in
    let n : g.row.PAGES + (length c.loop-k.yielded + 1) ≡ g.row.PAGES + length c.loop-k.yielded + 1 = omega arith in
    rw (length_push, n, c.from-held.ensures, c.is_held.ensures, s) (list_turn c.loop-k.invariant h (rw (k, s) at c.put_slot.ensures))

pub returns : goal.returns
returns g c =
    let z = sizes g.row.SPACES g.row.PAGES g.row.PLACES in
    let all = YieldsList-from_skip g.row.PAGES (YieldsList-from_enumerate (YieldsList-from_slice c.args.b.now.slots cc) (cc)) (cc) in
    let t = YieldsList-end all c.loop-k.yielded _ c.loop-k.yielded_by _ _ c.in-None.is c.next.ensures.steps in
    let slots : length c.args.b.now.slots ≡ g.row.SLOTS = search (rules, length_unmap) in
    let long : length c.args.b.now.slots ≡ slot_count z = slots ∙ c.args.b.now.shape.is_model.slots_are in
    let within : g.row.PAGES ≤ slot_count z = pool_within c.args.b.now.shape.is_model in
    let e : g.row.PAGES + length c.loop-k.yielded ≡ slot_count z = omega (arith, t.1, numbered_length g.row.PAGES c.args.b.now.slots, long, within) in
    wrote_listing z (tables c.args.b.now) _ c.live_number.ensures c.live.ensures (list_end c.loop-k.invariant e) c.held.ensures
