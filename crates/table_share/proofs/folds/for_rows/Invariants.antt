use Rattle.std.proofs.Common.{◌≡◌, ◌+◌, length}
use Rattle.std.specs.List.{FoldsTo}
use Rattle.index_layer.specs.Leaves.{all_rows}
use Rattle.table_share.specs.Folds.{FoldsRow}
use Rattle.table_share.proofs.folds.for_rows.Given as goal

-- a fold of what is left ends as one of all rows, and the leaves that are gone were opened
abbrev pub invariant-loop-bucket : goal.invariant-loop-bucket
invariant-loop-bucket g l =
    ((last : _) → FoldsTo (FoldsRow g.F.Fn l.f) l.folded (all_rows l.walk) last → FoldsTo (FoldsRow g.F.Fn l.f) l.fn.start (all_rows (g.I.Index.leaves l.index)) last)
    × (l.steps + length l.walk ≡ l.fn.steps + length (g.I.Index.leaves l.index))

abbrev pub decreases-loop-bucket : goal.decreases-loop-bucket
decreases-loop-bucket g l = length l.walk
