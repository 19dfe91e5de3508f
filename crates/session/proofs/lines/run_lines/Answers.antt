-- `run_lines` meets its contract: the goals that are left, from the invariant.
use Prim.Native.Nat.{◌≤◌}
use lib.ListN.{length}
use Rattle.text.proofs.Seeking.{line_within}
use Rattle.script.proofs.Running.{run_start, run_turn, run_end}
use borrow.Author.Rules.{rules}
use Rattle.session.proofs.lines.run_lines.Goals as goal

pub loop-from-init : goal.loop-from-init
loop-from-init g c = run_start _ _ _ _

pub slice_bounds-line_turn-end : goal.slice_bounds-line_turn-end
slice_bounds-line_turn-end g c =
    let h : c.line_end-end.result ≤ length c.args.input.now = line_within _ _ _ c.line_end-end.ensures (search rules) in
    search rules

pub loop-from-preserved : goal.loop-from-preserved
loop-from-preserved g c = run_turn c.loop-from.invariant (search rules) c.line_end-end.ensures c.line_turn-said.ensures c.say.ensures

pub returns : goal.returns
returns g c = run_end c.loop-from.invariant (search rules) c.put_listing.ensures
