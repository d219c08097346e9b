use Rattle.std.specs.List.{FoldsTo}
use Rattle.plain_list.specs.Queries.{members_in}
use Rattle.table_share.specs.Objects.{objects_of}
use Rattle.index_view.proofs.visits.visit_rows_in.Given as goal

-- visits of what is left end as visits of all
abbrev pub invariant-loop-row : goal.invariant-loop-row
invariant-loop-row g l =
    (last : _) → FoldsTo g.V.Visit.does l.visitor (members_in l.region (objects_of l.row-iterator)) last → FoldsTo g.V.Visit.does l.fn.visitor (members_in l.region (objects_of l.bucket.rows)) last
