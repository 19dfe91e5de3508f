-- `put_byte` meets its contract: past the end nothing is stored.
use Rattle.text.proofs as own
use mathlib.Core.Path.{sym, ◌∙◌}
use lib.Seq.{set_out}
use Rattle.text.specs.Write.{next_position}
use own.Putting.{wrote_byte}
use own.write.put_byte.Goals.{then-at-out, else-at-out}
use own.write.put_byte.Goals as goal

pub returns : goal.returns
unfolding next_position
returns c = elim c.if-at-out.branch [
  | then-at-out w ↦ wrote_byte _ _ _ w.out-is c.saturating_add.ensures
  | else-at-out w ↦ wrote_byte _ _ _ (w.out-is ∙ sym (set_out _ _ _ w.if-at-out.false)) c.saturating_add.ensures
]
