-- `live_number` meets its contract: the goals that are left, from the invariant.
use Prim.Native.Nat.{◌+◌, ◌*◌, ◌<◌, ◌≤◌}
use mathlib.Core.Path.{◌≡◌, sym, ap, ◌∙◌}
use mathlib.Core.Bool.{Bool}
use mathlib.Core.List.{[], ◌∷◌}
use native.Mathlib.Omega.{arith}
use lib.ListN.{length}
use denote.Ref.{Bor}
use Rattle.std.specs.Prelude.{map, reverse}
use Rattle.std.proofs.lemmas.List.{map-append, length-map, length-reverse, reverse-reverse}
use Rattle.std.proofs.lemmas.Iterator.Adapters.{YieldsList-from_rev_slice}
use Rattle.std.proofs.lemmas.Iterator.Consumers.{YieldsList-turn, YieldsList-end}
use borrow.Author.Rules.{rules}
use Rattle.lend_basics.proofs.Lists.{length_unmap}
use Rattle.text_laws.proofs.Numbers.{most_read}
use Rattle.lend_code.proofs.Summary.{bit_small}
use Rattle.listing.specs.Live.{live_number}
use Rattle.listing.proofs.Live.{number_turn}
use Rattle.listing.proofs.Said.{number_fits}
use Rattle.board_listing.proofs.Readable.{readable}
use Rattle.board_listing.proofs.live.live_number.Given.{Over}
use Rattle.board_listing.proofs.live.live_number.Goals as goal

pub loop-is-init : goal.loop-is-init
unfolding live_number
loop-is-init g c = cc

room : {g : Over} (c : goal.After-from g) → 2 * c.loop-is.n + 1 ≤ most_read
room {g} c =
    let all = YieldsList-from_rev_slice c.args.live.now (cc) in
    let t = YieldsList-turn all c.loop-is.yielded _ c.loop-is.yielded_by _ _ _ c.in-Some.is c.next.ensures.steps in
    let long : length c.args.live.now ≡ g.row.SPACES = search (rules, length_unmap) in
    let ys = map (λ (is : Bor Bool). is.now) c.loop-is.yielded in
    let h : length ys < g.row.SPACES = omega (arith, length-map c.loop-is.yielded (λ (is : Bor Bool). is.now), t.0, length-reverse c.args.live.now, long) in
    omega (arith, c.loop-is.invariant, number_fits (readable c.args._shape.is_model) ys h)

pub overflow_mul-n : goal.overflow_mul-n
overflow_mul-n g c = omega (arith, room c)

pub overflow_add-n : goal.overflow_add-n
overflow_add-n g c = omega (arith, room c, c.from.ensures, bit_small c.in-Some.field-0.now)

pub loop-is-preserved : goal.loop-is-preserved
loop-is-preserved g c =
    let now = λ (is : Bor Bool). is.now in
    let ys = map now c.loop-is.yielded in
    rw (map-append now c.loop-is.yielded (c.in-Some.field-0 ∷ []), c.from.ensures, c.loop-is.invariant) (sym (number_turn ys c.in-Some.field-0.now))

pub returns : goal.returns
returns g c =
    let all = YieldsList-from_rev_slice c.args.live.now (cc) in
    let t = YieldsList-end all c.loop-is.yielded _ c.loop-is.yielded_by _ _ c.in-None.is c.next.ensures.steps in
    c.loop-is.invariant ∙ ap (λ ys. live_number (reverse ys)) t.0 ∙ ap live_number (reverse-reverse c.args.live.now)
