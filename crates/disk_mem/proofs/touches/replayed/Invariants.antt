use Rattle.std.proofs.Common.{◌≡◌, take}
use Rattle.disk_mem.specs.Changes.{started, changed_by}
use Rattle.disk_mem.specs.Recorded.{changes_of}
use Rattle.disk_mem.proofs.touches.replayed.Given as goal

abbrev pub invariant-loop-touch : goal.invariant-loop-touch
invariant-loop-touch l = l.file.items ≡ (changed_by (started l.first) (changes_of l.pieces (take l.touch-index l.touches))).held
