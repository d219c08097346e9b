-- What is still to come of a browse.
use Rattle.std.specs.Prelude.{◌≡◌, ◌≤◌, ◌+◌, ℕ, Bool, ⊤, List, [], ◌∷◌, Option, Some, None, Result, Ok, Err, length}
use Rattle.zorder.specs.declared.points.Point.{Point}
use Rattle.zorder.specs.declared.points.Placed.{Placed}
use Rattle.zorder.specs.Distance.{distance}
use Rattle.index_layer.specs.Leaves.{Leaf}
use Rattle.table_share.specs.Subtree.{leaves_of}
use Rattle.knn_query.specs.Ahead.{leaves_within}

-- the point from which distances are measured, the objects in the order in which they come, and the leaves whose
-- buckets aren't opened yet
pub record Coming : Type 0 where
  pub from : Point
  pub objects : List Placed
  pub leaves : List Leaf

-- the first object is no farther than this squared distance, or there is none
abbrev pub FirstWithin : Point → ℕ → List Placed → Type 0
FirstWithin p reach [] = ⊤
FirstWithin p reach (m ∷ ms) = distance m.at p ≤ reach

-- Some: the first object was removed and returned; None: there is none; Err: none was removed
abbrev pub IsNext : {E : Type 0} → Result (Option Placed) E → List Placed → List Placed → Type 0
IsNext (Ok None) old new = (old ≡ []) × (new ≡ [])
IsNext (Ok (Some m)) old new = old ≡ m ∷ new
IsNext (Err e) old new = new ≡ old

-- whatever a test of names passes, no more of the first leaves pass it than of the second
abbrev pub AreNoMore : List Leaf → List Leaf → Type 0
AreNoMore left leaves = (passes : List Bool → Bool) → length (leaves_of passes left) ≤ length (leaves_of passes leaves)

-- each step opened one of the old leaves, which is not one of the new ones
abbrev pub OpensOnce : List Leaf → List Leaf → ℕ → ℕ → Type 0
OpensOnce old new before now = now + length new ≤ before + length old

-- each step opened a leaf whose region may have a point as near as the first object
abbrev pub OpensNearFirst : Coming → Coming → ℕ → ℕ → Type 0
OpensNearFirst old new before now = (reach : ℕ) → FirstWithin old.from reach old.objects → OpensOnce (leaves_within old.from reach old.leaves) (leaves_within old.from reach new.leaves) before now
