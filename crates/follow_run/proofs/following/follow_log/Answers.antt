use Rattle.std.proofs.Common.{List, refl, subst}
use Rattle.follower.specs.declared.turns.Turn.{Turn}
use Rattle.run_ends.specs.Ends.{targets}
use Rattle.follow_run.specs.Following.{EndsFollowing}
use Rattle.follow_run.proofs.FollowingEnds.{goes-unread, goes-read}
use Rattle.follow_run.proofs.following.follow_log.Goals as goal

pub returns-in-Ok : goal.returns-in-Ok
returns-in-Ok g c =
    let at = targets g.K.Sink.output g.D.LogDisk.drive in
    let end = c.follow_turns.result in
    let old = at c.args.sink.now c.args.drives in
    let new = at c.follow_turns.new.sink end.drives in
    record {
      goes =
          goes-read c.args.file.now c.args.name.now (g.S.Source.input c.args.source.now) (g.S.Source.input c.turns_in.new.source) old new c.in-Ok.turns end.status c.in-Ok.ensures.turns
          (subst (λ (l : List Turn). EndsFollowing c.args.file.now c.args.name.now l old new end.status) c.as_slice.ensures.turns c.follow_turns.ensures.ends);
      none = c.follow_turns.ensures.none;
    }

pub returns-in-Err : goal.returns-in-Err
returns-in-Err g c =
    let at = targets g.K.Sink.output g.D.LogDisk.drive in
    let told = c.refuse_on.ensures in
    let drives = c.args.drives in
    rw told.drives
    (record {
      goes =
          goes-unread c.args.file.now c.args.name.now (g.S.Source.input c.args.source.now) (g.S.Source.input c.turns_in.new.source) (at c.args.sink.now drives) (at c.refuse_on.new.sink drives) c.in-Err.why c.refuse_on.result.status
          c.in-Err.ensures.cause c.in-Err.ensures.calm c.turns_in.ensures.taken refl refl told.refused;
      none = told.none;
    })
