use Rattle.std.proofs.Common.{◌≡◌, ℕ, map, take}
use Rattle.fence_watch.specs.Marks.{marks_of, all_marks}
use Rattle.fence_watch.specs.Slabs.{row_at}
use Rattle.fence_watch.proofs.slabs.rows_of.Given as goal

abbrev pub invariant-loop-edge : goal.invariant-loop-edge
invariant-loop-edge l = map marks_of l.rows.items ≡ map (λ (edge : ℕ). all_marks (row_at edge l.spans)) (take l.edge-index l.edges)
