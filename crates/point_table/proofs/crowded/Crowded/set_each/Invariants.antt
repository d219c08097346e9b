use Rattle.std.proofs.Common.{◌≡◌, ◌+◌, vec_len}
use Rattle.point_table.specs.Crowded.{remarked_each}
use Rattle.point_table.proofs.crowded.Crowded.set_each.Given as goal

-- what is left to be set makes the names and the room of the end
abbrev pub invariant-loop-mark : goal.invariant-loop-mark
invariant-loop-mark l = record {
  names : remarked_each l.marks.items l.self.names ≡ remarked_each l.initial.marks.items l.initial.self.names;
  room : l.self.room + vec_len l.initial.marks ≡ l.initial.self.room + vec_len l.marks;
}

abbrev pub decreases-loop-mark : goal.decreases-loop-mark
decreases-loop-mark l = vec_len l.marks
