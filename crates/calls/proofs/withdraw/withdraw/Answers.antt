-- `withdraw` meets its contract: each step is one of the law's.
use Rattle.calls.proofs.Withdrawing.{withdrawn_board, withdrawn_lost}
use Rattle.calls.proofs.withdraw.withdraw.Goals as goal

pub returns-clause-board : goal.returns-clause-board
returns-clause-board g c =
    withdrawn_board _ _ _ _ _ _ _ c.rights-before.ensures c.rights_left-after.ensures c.cut.ensures _ c.drop_lost.ensures

pub returns-clause-lost : goal.returns-clause-lost
returns-clause-lost g c =
    withdrawn_lost _ _ _ _ _ _ _ c.rights-before.ensures c.rights_left-after.ensures c.cut.ensures _ c.losses.ensures
