use Rattle.std.proofs.Common.{refl, arith}
use Rattle.sessions.proofs.LaneLemmas.{row-plays, row-stops}
use Rattle.sessions.proofs.store.Store.play_row.Goals as goal

pub returns-in-Err : goal.returns-in-Err
returns-in-Err g c = row-stops g.I.Index.WIDTH c.args.i c.args.lane.now c.call_at.new.pass c.index.result.now c.in-Err.fault c.requires.row c.index.ensures c.in-Err.ensures.called

pub returns : goal.returns
returns g c = record {
  session = refl;
  rows = refl;
  fault = c.requires.fault;
  within = omega (arith, c.requires.row);
  count = omega (arith, c.push_within.ensures.count);
  room = c.push_within.ensures.capacity;
  plays = row-plays g.I.Index.WIDTH c.args.i c.args.lane.now c.call_at.new.pass c.try_split-split.new.pass _ c.index.result.now c.in-Ok.done c.try_split-split.result c.requires.row c.index.ensures c.in-Ok.ensures.called
      c.try_split-split.ensures.tries c.push_within.ensures.items;
}
