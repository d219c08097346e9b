use Rattle.recovery.proofs.PieceLemmas.{passed_on}
use Rattle.recovery.proofs.walk.read_first.Goals as goal

pub returns-in_err-reading-clause-fault : goal.returns-in_err-reading-clause-fault
returns-in_err-reading-clause-fault g c =
    passed_on c.from_residual.result _ _ c.from_residual.ensures.1 c.in_err-reading.ensures.err

pub returns-in_err-reading-clause-head : goal.returns-in_err-reading-clause-head
returns-in_err-reading-clause-head g c =
    passed_on c.from_residual.result _ _ c.from_residual.ensures.1 c.in_err-reading.ensures.head

pub returns-in_err-make_room-clause-head : goal.returns-in_err-make_room-clause-head
returns-in_err-make_room-clause-head g c =
    passed_on c.from_residual-in_err-make_room.result _ _ c.from_residual-in_err-make_room.ensures.1 (tt, tt)
