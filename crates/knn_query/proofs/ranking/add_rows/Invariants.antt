use Rattle.std.proofs.Common.{◌≡◌, ◌++◌, List, length}
use Rattle.zorder.specs.declared.points.Placed.{Placed}
use Rattle.bucket_versions.specs.Rows.{IsRows}
use Rattle.plain_list.specs.AtPlaces.{AreOf}
use Rattle.table_share.specs.Objects.{objects_of}
use Rattle.knn_query.specs.Passes.{HasReach, IsHeld, IsOut, Keeps}
use Rattle.knn_query.proofs.ranking.add_rows.Given as goal

-- the objects of the rows that are gone were added, or passed over
abbrev pub invariant-loop-row : goal.invariant-loop-row
invariant-loop-row g l =
    (l.kept.from ≡ l.fn.kept.from) × (l.kept.k ≡ l.fn.kept.k) × IsHeld l.kept × HasReach l.within l.kept × ((m : Placed) → IsOut l.fn.kept m → IsOut l.kept m)
    × ((places rest : List Placed) → AreOf places (objects_of l.bucket.rows) → Keeps l.fn.kept.from l.fn.kept.k places (objects_of l.bucket.rows ++ rest) l.fn.kept
    → AreOf places (objects_of l.rows) × Keeps l.fn.kept.from l.fn.kept.k places (objects_of l.rows ++ rest) l.kept) × IsRows l.rows

abbrev pub decreases-loop-row : goal.decreases-loop-row
decreases-loop-row g l = length l.rows
