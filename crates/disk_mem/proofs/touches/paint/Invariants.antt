use Rattle.std.proofs.Common.{◌≡◌, ℕ, ◌<◌, ◌&&◌, ◌%◌, leb, ltb, length, get_or, cond}
use Rattle.disk_mem.proofs.touches.paint.Given as goal

abbrev pub invariant-loop-i : goal.invariant-loop-i
invariant-loop-i l = (k : ℕ) → k < length l.image → get_or l.image k 0 ≡ cond (leb l.at k && ltb k l.i) (get_or l.fill (k % length l.fill) 0) (get_or l.initial.image k 0)
