use Rattle.disk_mem.proofs.KeptLemmas.{IsRecordOf-note}
use Rattle.disk_mem.proofs.recorded.RecordedFile.note.Goals as goal

pub invariant_of-self : goal.invariant_of-self
invariant_of-self c = record {
  record_of = IsRecordOf-note _ _ _ c.self.inside.touches.items _ c.args.touch c.requires.idle c.self.invariant.record_of c.push_reserved.ensures.items;
  room_for_pieces = c.self.invariant.room_for_pieces;
  room_for_held = c.self.invariant.room_for_held;
}
