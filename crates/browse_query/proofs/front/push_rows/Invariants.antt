use Rattle.std.proofs.Common.{◌≡◌, ◌≤◌, ◌+◌, ◌++◌, map, length}
use Rattle.std.specs.BinaryHeap.{heap_items, heap_len, heap_capacity, IsHeap}
use Rattle.std.specs.List.Sorted.{IsPermutation}
use Rattle.browse_query.specs.Found.{found_of}
use Rattle.browse_query.specs.Front.{founds, last_cmp}
use Rattle.browse_query.proofs.front.push_rows.Given as goal

-- the objects that were found and those of the rows that are left; there is room for the latter
abbrev pub invariant-loop-row : goal.invariant-loop-row
invariant-loop-row g l =
    IsPermutation (founds (heap_items l.fn.found) ++ map (found_of l.from) l.bucket.rows) (founds (heap_items l.found) ++ map (found_of l.from) l.row-iterator)
    × IsHeap last_cmp (heap_items l.found) × (heap_len l.found + length l.row-iterator ≤ heap_capacity l.found) × (l.steps ≡ l.fn.steps + 1)
