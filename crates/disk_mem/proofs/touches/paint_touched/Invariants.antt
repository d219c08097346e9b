use Rattle.std.proofs.Common.{◌≡◌, ℕ, ◌<◌, ◌%◌, [], length, take, get_or, cond}
use Rattle.std.specs.List.{list_any}
use Rattle.disk_mem.specs.Pending.{is_in}
use Rattle.disk_mem.specs.Recorded.{ranges_of}
use Rattle.disk_mem.proofs.touches.paint_touched.Given as goal

abbrev pub invariant-loop-touch : goal.invariant-loop-touch
invariant-loop-touch l = (k : ℕ) → k < length l.image → get_or l.image k 0 ≡ cond (list_any (is_in k) (ranges_of [] (take l.touch-index l.touches))) (get_or l.fill (k % length l.fill) 0) (get_or l.initial.image k 0)
