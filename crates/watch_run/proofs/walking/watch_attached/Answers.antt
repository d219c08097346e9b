use Rattle.watch_run.proofs.Stops.{fails-head, refuses-fault}
use Rattle.watch_run.proofs.Alongs.{calm-reads, match-as, refused-later, runs-later}
use Rattle.watch_run.proofs.walking.watch_attached.Goals as goal

pub returns-in-Ok : goal.returns-in-Ok
returns-in-Ok g c =
    let calm = calm-reads _ _ _ c.in-Ok.ensures.reads in
    record { along = match-as c.watch_walk.result (λ a runs. runs-later c.args.fences.now _ _ _ calm _ runs) (λ e refused. refused-later c.args.fences.now _ _ _ calm _ refused) c.watch_walk.ensures.along }

pub returns-in-Err : goal.returns-in-Err
returns-in-Err g c =
    let refused = c.in-Err.ensures in
    let fails = fails-head c.args.fences.now _ _ _ refused.reads refused.refused in
    rw c.log_refusal-why.ensures
    (record { along = record { refuses = refuses-fault c.args.fences.now _ _ _ fails; file = refused.reads.file } })

pub watch_walk-requires : goal.watch_walk-requires
watch_walk-requires g c = c.in-Ok.ensures.begins.along
