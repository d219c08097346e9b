-- Visits of objects in key order.
use Rattle.std.specs.Prelude.{nat_lt, Bool, ◌&&◌, ◌||◌, ◌==◌, List, [], ◌∷◌, ⊤, IsTrue}
use Rattle.std.specs.List.{FoldsTo}
use Rattle.std.specs.List.Sorted.{IsPermutation}
use Rattle.zorder.specs.declared.points.Placed.{Placed}
use Rattle.zorder.specs.declared.points.Region.{Region}
use Rattle.zorder.specs.Key.{key_of}
use Rattle.plain_list.specs.Queries.{members_in}

-- the key order of objects: by the Morton key of the point, and at the same point by id
abbrev pub has_lesser_key : Placed → Placed → Bool
has_lesser_key m n = nat_lt (key_of m.at) (key_of n.at) || ((key_of m.at == key_of n.at) && nat_lt m.id n.id)

-- each object comes after this one
abbrev pub AreAfter : Placed → List Placed → Type 0
AreAfter m [] = ⊤
AreAfter m (n ∷ ns) = IsTrue (has_lesser_key m n) × AreAfter m ns

-- the objects are in key order, so none is there twice
abbrev pub AreInKeyOrder : List Placed → Type 0
AreInKeyOrder [] = ⊤
AreInKeyOrder (m ∷ ms) = AreAfter m ms × AreInKeyOrder ms

-- The visitor was called once for each object in the box and for no other, in key order. `does` says what a call may do
-- to the visitor.
pub record VisitsEach {V : Type 0} (does : V → Placed → V → Type 0) (region : Region) (places : List Placed) (before after : V) : Type 0 where
  pub objects : List Placed
  pub each : IsPermutation (members_in region places) objects
  pub in_order : AreInKeyOrder objects
  pub visits : FoldsTo does before objects after
