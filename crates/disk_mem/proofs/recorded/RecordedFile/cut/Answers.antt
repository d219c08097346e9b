use Rattle.std.proofs.Common.{arith}
use Rattle.disk_mem.proofs.KeptLemmas.{IsRecordOf-cut}
use Rattle.disk_mem.proofs.recorded.RecordedFile.cut.Goals as goal

pub invariant_of-self : goal.invariant_of-self
invariant_of-self c = record {
  record_of = IsRecordOf-cut _ c.self.inside.held.items _ _ c.self.inside.touches.items _ c.args.len c.self.invariant.record_of c.truncate.ensures.items c.push_reserved.ensures.items;
  room_for_pieces = c.self.invariant.room_for_pieces;
  room_for_held = omega (arith, c.truncate.ensures.capacity, c.self.invariant.room_for_held);
}
