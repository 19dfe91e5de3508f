-- `cut` meets its contract. The invariant: the pages before k are cut, and nothing but the slots has changed.
use Rattle.board.proofs as own
use Rattle.board.specs as spec
use mathlib.Core.Path.{◌≡◌}
use Rattle.lend_code.proofs.Cuts.{Cutting}
use spec.Board.{tables, with_slots}
use own.Board.cut.Given as goal

abbrev pub invariant-loop-k : goal.invariant-loop-k
invariant-loop-k g l = Cutting l.initial.self.slots l.set l.d l.self.slots l.k × (tables l.self ≡ with_slots (tables l.initial.self) l.self.slots)
