-- What a clause sees of a prepared split, and what holds of every one.
use Rattle.std.specs.Prelude.{◌≡◌, ◌⊎◌, ℕ, ◌+◌, ◌≤◌, Bool, List, length}
use Rattle.zorder.specs.Width.{IsWidth}
use Rattle.bucket_versions.specs.declared.row.Row.{Row}
use Rattle.bucket_versions.specs.Rows.{Rows, IsRows}
use Rattle.bucket_versions.specs.Under.{AreUnder}
use Rattle.split_prepare.specs.Cut.{cut}

-- the split's number, the leaf's name, how many more bits a child has, the rows that were cut, and the children's
-- buckets
pub record PreparedView : Type 0 where
  pub number : ℕ
  pub name : List Bool
  pub width : ℕ
  pub base : List Row
  pub children : List Rows

-- the base rows are in order and under the name, and the children are cut from them
pub record IsPrepared (p : PreparedView) : Type 0 where
  pub width : IsWidth p.width
  pub short : length p.name + p.width ≤ 64
  pub in_order : IsRows p.base
  pub under : AreUnder p.name p.base
  pub children : p.children ≡ cut p.width p.name p.base

-- the split of this number and name, with its base cut
abbrev pub prepared_of : ℕ → ℕ → List Bool → List Row → PreparedView
prepared_of w number name base = record { number = number; name = name; width = w; base = base; children = cut w name base }
