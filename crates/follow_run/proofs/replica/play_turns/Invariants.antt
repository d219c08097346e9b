use Rattle.std.proofs.Common.{◌≡◌, length, take}
use Rattle.follower.specs.Follow.{opened_with, reports}
use Rattle.follow_run.specs.Playing.{HasPlayed}
use Rattle.follow_run.proofs.replica.play_turns.Given as goal

abbrev pub invariant-loop-turn : goal.invariant-loop-turn
invariant-loop-turn g l =
    HasPlayed g.D.LogDisk.drive l.fn.follower.width l.cells l.fn.follower.state.held l.turns l.turn-index (g.D.LogDisk.drive l.fn.follower.disk) l.playing.follower
    × (l.playing.reports.items ≡ reports (length l.cells) (opened_with l.fn.follower.state.held) (take l.turn-index l.turns))
