use Rattle.std.proofs.Common.{◌+◌, arith}
use Rattle.sessions.proofs.RunLemmas.{left-plays, left-stops}
use Rattle.sessions.proofs.store.Store.play_next.Goals as goal

pub returns-then-play_row : goal.returns-then-play_row
returns-then-play_row g c = (
  omega arith,
  left-plays g.I.Index.WIDTH c.args.i c.args.lane.now c.play_run.new.lane c.play_row.new.lane c.in-Left.ensures (c.args.i + 1) (omega arith) c.if-play_row.ensures,
)

pub returns-else-play_row : goal.returns-else-play_row
returns-else-play_row g c = left-stops g.I.Index.WIDTH c.args.i c.args.lane.now c.play_run.new.lane c.play_row.new.lane c.in-Left.ensures c.requires.row c.if-play_row.ensures
