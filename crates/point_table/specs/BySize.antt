-- Splitting leaves further while they have more rows than the bucket size.
use Rattle.std.specs.Prelude.{◌≡◌, ℕ, true, false, Bool, List, [], ◌∷◌, ◌++◌}
use Rattle.std.specs.List.{fold, AllByRecursion}
use Rattle.bucket_versions.specs.declared.row.Row.{Row}
use Rattle.plain_list.specs.State.{split_leaf}
use Rattle.index_layer.specs.Leaves.{Leaf, names_of}
use Rattle.index_build.specs.Growing.{leaf_for, leaves_for}
use Rattle.point_table.specs.Crowds.{is_crowded}

-- the leaves of rows under three runs of names, in key order: done ones, none of which is to be split, those here, and
-- later ones
pub record HasSized (w size : ℕ) (rows : List Row) (done here later : List (List Bool)) (leaves : List Leaf) : Type 0 where
  pub leaves_are : leaves ≡ leaves_for rows (done ++ (here ++ later))
  pub sized : AllByRecursion (λ name. is_crowded w size (leaf_for rows name) ≡ false) done

-- a leaf of this name follows done ones, none of which is to be split
pub record StandsThere (w size : ℕ) (rows : List Row) (name : List Bool) (leaves : List Leaf) : Type 0 where
  pub done : List (List Bool)
  pub later : List (List Bool)
  pub has : HasSized w size rows done (name ∷ []) later leaves

-- the new names come from the old ones by splits, each of a name with more rows than the size
pub record ComesOn (w size : ℕ) (rows : List Row) (old new : List (List Bool)) : Type 0 where
  pub names : List (List Bool)
  pub new_is : new ≡ fold (λ (ls : List (List Bool)) name. split_leaf w name ls) old names
  pub needed : AllByRecursion (λ name. is_crowded w size (leaf_for rows name) ≡ true) names

-- the leaves done before are followed by more, none of which is to be split, and then by those left instead of those
-- here
abbrev pub SizesTo : ℕ → ℕ → List Row → List (List Bool) → List (List Bool) → List Leaf → List Leaf → Type 0
SizesTo w size rows here left old new = (done later : List (List Bool)) → HasSized w size rows done here later old
    → (more : List (List Bool)) × HasSized w size rows more left later new

-- a leaf was split, and so was each of its children in the same way, while it had more rows than the size
pub record IsSplitOn (w size : ℕ) (rows : List Row) (name : List Bool) (old new : List Leaf) : Type 0 where
  pub sizes : SizesTo w size rows (name ∷ []) [] old new
  pub comes : ComesOn w size rows (names_of old) (names_of new)
