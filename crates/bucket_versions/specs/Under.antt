-- Rows whose keys are under a name.
use Rattle.std.specs.Prelude.{Bool, List, IsTrue}
use Rattle.std.specs.List.{AllByRecursion}
use Rattle.zorder.specs.Key.{is_under}
use Rattle.bucket_versions.specs.declared.row.Row.{Row}

-- the key of each row is under the name
abbrev pub AreUnder : List Bool → List Row → Type 0
AreUnder name rows = AllByRecursion (λ (r : Row). IsTrue (is_under name r.key)) rows
