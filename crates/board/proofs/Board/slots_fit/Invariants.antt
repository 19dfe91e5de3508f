-- `slots_fit` meets its contract. The invariant: every page before k fits. One that does not settles the answer.
use Rattle.lend.specs.Slots.{slot_at}
use Rattle.lend.specs.SoundTest.{slot_test}
use Rattle.lend_basics.proofs.Loops.{Tested}
use Rattle.board.specs.Model.{sizes}
use Rattle.board.proofs.Board.slots_fit.Given as goal

abbrev pub invariant-loop-k : goal.invariant-loop-k
invariant-loop-k g l = Tested (slot_test (sizes g.row.SPACES g.row.PAGES g.row.PLACES) l.self.live (slot_at l.self.slots)) l.k
