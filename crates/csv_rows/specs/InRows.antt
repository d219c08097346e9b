-- The rows that an input may have.
use Rattle.std.specs.Prelude.{◌≤◌, List, length}
use Rattle.std.specs.List.{AllByRecursion}
use Rattle.plain_list.specs.Answer.{IsValid, FitsOp}
use Rattle.csv_rows.specs.declared.rows.InRow.{InRow}

-- a row that keeps the rules of its columns: a session from 1 to 16, and a valid operation
pub record IsInRow (row : InRow) : Type 0 where
  pub first : 1 ≤ row.session
  pub last : row.session ≤ 16
  pub valid : IsValid row.op
  pub fits : FitsOp row.op

-- at most 65,536 such rows
pub record AreInRows (rows : List InRow) : Type 0 where
  pub each : AllByRecursion IsInRow rows
  pub most : length rows ≤ 65536
