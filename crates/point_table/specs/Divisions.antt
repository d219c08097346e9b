-- A table with a leaf's bucket folded, and one with a leaf replaced by its children.
use Rattle.std.specs.Prelude.{◌≡◌, ℕ, ◌+◌, ◌≤◌, Bool, List, length, map, Some}
use Rattle.zorder.specs.Tile.{children}
use Rattle.bucket_versions.specs.Rows.{Rows, as_base}
use Rattle.index_layer.specs.Leaves.{Leaf, leaf_named, replaced, split, leaves_of}
use Rattle.split_prepare.specs.Cut.{cut}
use Rattle.point_table.specs.Crowds.{is_crowded}
use Rattle.point_table.specs.TableView.{TableView}
use Rattle.point_table.specs.declared.crowded.Mark.{Mark}

-- a leaf has this name and bits left for its children, and the parts were cut out of its base
pub record CanDivide (w : ℕ) (name : List Bool) (parts : List Rows) (leaves : List Leaf) : Type 0 where
  pub leaf : Leaf
  pub named : leaf_named name leaves ≡ Some leaf
  pub short : length name + w ≤ 64
  pub cut_is : parts ≡ cut w name leaf.bucket.base

-- the leaf of a name has its rows as its base, in this bucket
pub record Folds (name : List Bool) (old new : List Leaf) (bucket : Rows) : Type 0 where
  pub leaf : Leaf
  pub named : leaf_named name old ≡ Some leaf
  pub bucket_is : bucket ≡ as_base leaf.bucket.rows
  pub leaves : new ≡ replaced name (as_base leaf.bucket.rows) old

-- the leaf of a name is replaced by its children, each with the leaf's rows under its own name
pub record Divides (w : ℕ) (name : List Bool) (old new : List Leaf) : Type 0 where
  pub leaf : Leaf
  pub named : leaf_named name old ≡ Some leaf
  pub short : length name + w ≤ 64
  pub leaves : new ≡ split w name (cut w name leaf.bucket.rows) old

-- a leaf's name, and whether it is to be split
abbrev pub mark_of : ℕ → ℕ → Leaf → Mark
mark_of w size l = record { name = l.name; crowded = is_crowded w size l }

-- the marks of a name's children with these buckets
abbrev pub marks_of : ℕ → ℕ → List Bool → List Rows → List Mark
marks_of w size name buckets = map (mark_of w size) (leaves_of (children w name) buckets)

-- all of a table except its leaves is unchanged
abbrev pub KeepsRest : TableView → TableView → Type 0
KeepsRest old new = new ≡ record old { leaves = new.leaves }
