-- How far a browse has come.
use Rattle.std.specs.Prelude.{◌≡◌, ◌≤◌, ◌<◌, ℕ, Bool, true, false, List, [], ◌∷◌, ◌++◌, Option, Some, None, map, length, slice_index_or, IfSome}
use Rattle.std.specs.List.{All, sum_by}
use Rattle.std.specs.List.Sorted.{IsPermutation}
use Rattle.std.specs.BinaryHeap.{heap_items, IsHeap}
use Rattle.std.specs.declared.cmp.Ordering.{Ordering}
use Rattle.std.specs.declared.cmp.Reverse.{Reverse}
use denote.Ref.{Bor}
use Rattle.zorder.specs.declared.points.Point.{Point}
use Rattle.zorder.specs.declared.points.Placed.{Placed}
use Rattle.index_layer.specs.Leaves.{Leaf, all_rows}
use Rattle.knn_query.specs.Ahead.{IsAhead, leaves_ahead, weight_of}
use Rattle.knn_query.specs.Search.{Counts}
use Rattle.knn_query.specs.Waiting.{ahead_of, waiting_cmp, AreAt}
use Rattle.knn_query.specs.declared.ahead.Ahead.{Ahead}
use Rattle.knn_query.specs.declared.ahead.Waiting.{Waiting}
use Rattle.browse_query.specs.Coming.{Coming}
use Rattle.browse_query.specs.Found.{found_of, object_of, found_cmp, comes_before, in_order, IsMeasured}
use Rattle.browse_query.specs.declared.found.Found.{Found}
use Rattle.browse_query.specs.declared.front.Front.{Front}

-- the order of the heap: the nearer object is the greater one
abbrev pub last_cmp : Reverse Found → Reverse Found → Ordering
last_cmp c d = found_cmp d.0 c.0

-- the found objects, as the heap stores them
abbrev pub founds : List (Reverse Found) → List Found
founds items = map (λ (c : Reverse Found). c.0) items

-- the nearest subtree and the others
abbrev pub with_nearest : {P : Type 0} → Option (Waiting P) → List (Waiting P) → List (Waiting P)
with_nearest None others = others
with_nearest (Some w) others = w ∷ others

-- no other subtree is nearer; if there is no nearest one, there are no others
abbrev pub AreFarther : {P : Type 0} → Option (Waiting P) → List (Waiting P) → Type 0
AreFarther None others = others ≡ []
AreFarther (Some w) others = All (λ (v : Waiting _). w.ahead.least.0 ≤ v.ahead.least.0) others

module _ {P : Type 0} where
  -- the subtrees that aren't opened yet
  abbrev pub unopened : Front P → List (Waiting (Bor P))
  unopened front = with_nearest front.nearest (heap_items front.waiting)

  abbrev pub subtrees : Front P → List Ahead
  subtrees front = ahead_of (unopened front)

  -- the leaves below them
  abbrev pub leaves_left : List Leaf → Front P → List Leaf
  leaves_left leaves front = leaves_ahead leaves (subtrees front)

  -- the objects that are to come: those found, and those of the leaves
  abbrev pub to_come : List Leaf → Front P → List Found
  to_come leaves front = founds (heap_items front.found) ++ map (found_of front.from) (all_rows (leaves_left leaves front))

  abbrev pub coming : List Leaf → Front P → Coming
  coming leaves front = record {
    from = front.from;
    objects = map object_of (in_order (to_come leaves front));
    leaves = leaves_left leaves front;
  }

  -- the heaps are in order, each subtree is as its name says and at its place, and the nearest is known
  pub record IsFront (is_at : P → List Bool → Type 0) (front : Front P) : Type 0 where
    pub found_order : IsHeap last_cmp (heap_items front.found)
    pub waiting_order : IsHeap waiting_cmp (heap_items front.waiting)
    pub measured : All (IsMeasured front.from) (founds (heap_items front.found))
    pub are : All (IsAhead front.from) (subtrees front)
    pub at : AreAt is_at (unopened front)
    pub farther : AreFarther front.nearest (heap_items front.waiting)

  -- how much work is left
  abbrev pub work : Front P → ℕ
  work front = sum_by weight_of (subtrees front)

  -- true: the first of the found objects is nearer than any subtree; false: some subtree is as near as any found object
  abbrev pub HasFirst : Front P → Bool → Type 0
  HasFirst front true = IfSome front.nearest (λ w. (0 < length (heap_items front.found)) × ((d : Reverse Found) → (slice_index_or (heap_items front.found) 0 d).0.distance < w.ahead.least.0))
  HasFirst front false = (w : Waiting (Bor P)) × (front.nearest ≡ Some w) × All (λ (c : Found). w.ahead.least.0 ≤ c.distance) (founds (heap_items front.found))

  -- The same objects are to come. Each step opened one of the leaves, and only if a test passes the nearest subtree, or
  -- no objects are to come.
  pub record GoesOn (leaves : List Leaf) (is_at : P → List Bool → Type 0) (before now : ℕ) (old new : Front P) : Type 0 where
    pub from : new.from ≡ old.from
    pub is : IsFront is_at new
    pub same : IsPermutation (to_come leaves old) (to_come leaves new)
    pub opened : (passes : List Bool → Bool) → (0 < length (to_come leaves old) → IfSome old.nearest (λ w. passes w.ahead.name ≡ true)) → Counts (leaves_left leaves old) before passes now (leaves_left leaves new)

-- nothing was found, and the subtree of this name, at this place, is the only one
pub record Begins {P : Type 0} (p : Point) (name : List Bool) (place : P) (front : Front P) : Type 0 where
  pub from : front.from ≡ p
  pub only : Waiting (Bor P)
  pub named : only.ahead.name ≡ name
  pub at : only.place.now ≡ place
  pub is : IsAhead p only.ahead
  pub nearest : front.nearest ≡ Some only
  pub no_others : heap_items front.waiting ≡ []
  pub none_found : heap_items front.found ≡ []
  pub found_order : IsHeap last_cmp (heap_items front.found)
  pub waiting_order : IsHeap waiting_cmp (heap_items front.waiting)

-- the first item of the heap was removed, and no other one comes before it
pub record IsFirst (m : Placed) (old new : List (Reverse Found)) : Type 0 where
  pub first : Reverse Found
  pub object : m ≡ object_of first.0
  pub top : first ≡ slice_index_or old 0 first
  pub taken : IsPermutation old (first ∷ new)
  pub low : All (λ (c : Reverse Found). comes_before c.0 first.0 ≡ false) new
  pub ordered : IsHeap last_cmp new

-- None: there are no items
abbrev pub IsTaken : Option Placed → List (Reverse Found) → List (Reverse Found) → Type 0
IsTaken None old new = (old ≡ []) × (new ≡ [])
IsTaken (Some m) old new = IsFirst m old new
