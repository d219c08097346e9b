use Rattle.std.proofs.Common.{◌≡◌, map, take}
use Rattle.fence_watch.specs.Passages.{column_of, line_of}
use Rattle.fence_watch.proofs.passages.Chart.new.Given as goal

abbrev pub invariant-loop-fence : goal.invariant-loop-fence
invariant-loop-fence l = record {
  columns : l.columns.items ≡ map column_of (take l.fence-index l.fences);
  lines : l.lines.items ≡ map line_of (take l.fence-index l.fences);
}
