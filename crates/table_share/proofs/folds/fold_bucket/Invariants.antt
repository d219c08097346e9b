use Rattle.std.specs.List.{FoldsTo}
use Rattle.table_share.specs.Folds.{FoldsRow}
use Rattle.table_share.proofs.folds.fold_bucket.Given as goal

abbrev pub invariant-loop-row : goal.invariant-loop-row
invariant-loop-row g l = (last : _) → FoldsTo (FoldsRow g.F.Fn l.f) l.folded l.row-iterator last → FoldsTo (FoldsRow g.F.Fn l.f) l.fn.start l.bucket.rows last
