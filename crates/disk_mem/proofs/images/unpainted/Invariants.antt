use Rattle.std.proofs.Common.{◌≡◌, ℕ, ◌<◌, ◌%◌, leb, length, get_or, cond}
use Rattle.disk_mem.proofs.images.unpainted.Given as goal

abbrev pub invariant-loop-i : goal.invariant-loop-i
invariant-loop-i l = record {
  long : length l.image.items ≡ l.i;
  bytes : (k : ℕ) → k < l.i → get_or l.image.items k 0 ≡ cond (leb l.cut k) (get_or l.fill (k % length l.fill) 0) (get_or l.stable k 0);
}
