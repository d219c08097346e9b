-- A name below another name that has all its rows.
use Rattle.std.specs.Prelude.{◌≡◌, Bool, true, false, List, []}
use Rattle.std.specs.List.{starts_with, AllByRecursion}
use mathlib.Core.Bool.{beq}
use Rattle.index_layer.specs.Leaves.{Leaf}

-- `below` begins with `name`, and each leaf under `name` but not under `below` has no rows
pub record PassesBare (name below : List Bool) (leaves : List Leaf) : Type 0 where
  pub on : starts_with beq below name ≡ true
  pub bare : AllByRecursion (λ (l : Leaf). starts_with beq l.name name ≡ true → starts_with beq l.name below ≡ false → l.bucket.rows ≡ []) leaves
