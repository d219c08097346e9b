use Rattle.std.proofs.Common.{ℕ, ◌≤◌, List, length, take}
use Rattle.std.specs.List.{All}
use Rattle.disk_mem.specs.Recorded.{IsStored}
use Rattle.disk_mem.specs.Scans.{IsScan}
use Rattle.disk_mem.proofs.scans.Scan.of.Given as goal

abbrev pub invariant-loop-before : goal.invariant-loop-before
invariant-loop-before l = record {
  synced : l.scan.synced ≤ l.before;
  scan : (pieces : List ℕ) → All (IsStored (length pieces)) l.touches → IsScan l.first pieces (take l.before l.touches) l.scan;
}
