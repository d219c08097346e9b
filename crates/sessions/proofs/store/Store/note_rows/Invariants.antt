use Rattle.plain_list.specs.History.{world_after}
use Rattle.sessions.specs.Runs.{IsOut, Noting}
use Rattle.sessions.proofs.store.Store.note_rows.Given as goal

abbrev pub invariant-loop-k : goal.invariant-loop-k
invariant-loop-k g l =
    IsOut g.D.LogDisk.drive l.book l.lane.pass
    × Noting g.I.Index.WIDTH l.i l.k l.end l.base (world_after l.fn.lane.pass.origin.world l.fn.lane.pass.seen) l.fn.lane l.lane
