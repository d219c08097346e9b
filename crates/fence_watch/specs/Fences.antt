-- Fences, and which objects are inside one.
use Rattle.std.specs.Prelude.{◌≢◌, ◌==◌, ◌≤◌, ◌<◌, ◌^◌, ℕ, Bool, false, List, [], ◌∷◌, length, map, Option, Some, None, ⊤}
use Rattle.std.specs.List.{AllByRecursion, list_any}
use Rattle.zorder.specs.declared.points.Point.{Point}
use Rattle.zorder.specs.declared.points.Placed.{Placed}
use Rattle.zorder.specs.Key.{IsPoint}
use Rattle.zorder.specs.Region.{has_point, IsBox}
use Rattle.plain_list.specs.World.{World, places_of}
use Rattle.plain_list.specs.Queries.{members_in}
use Rattle.fence_watch.specs.declared.fences.Fence.{Fence}

-- The most fences that there may be.
abbrev pub most_fences : ℕ
most_fences = 256

-- A box whose lower corner is at most its upper one, with a number of 64 bits.
pub record IsFence (f : Fence) : Type 0 where
  pub id : f.id < 2 ^ 64
  pub box : IsBox f.region
  pub lo : IsPoint f.region.lo
  pub hi : IsPoint f.region.hi

-- None of the fences has this id.
abbrev pub AreOthers : ℕ → List Fence → Type 0
AreOthers id fences = AllByRecursion (λ (f : Fence). f.id ≢ id) fences

-- Whether a fence has this id.
abbrev pub has_fence : ℕ → List Fence → Bool
has_fence id fences = list_any (λ (f : Fence). f.id == id) fences

-- No two fences have the same id.
abbrev pub AreDistinct : List Fence → Type 0
AreDistinct [] = ⊤
AreDistinct (f ∷ fences) = AreOthers f.id fences × AreDistinct fences

-- What holds of the fences of a watch.
pub record AreFences (fences : List Fence) : Type 0 where
  pub each : AllByRecursion IsFence fences
  pub distinct : AreDistinct fences
  pub most : length fences ≤ most_fences

-- Whether an object at this position is inside a fence. An object without a position is not.
abbrev pub lies_in : Fence → Option Point → Bool
lies_in f None = false
lies_in f (Some p) = has_point f.region p

-- The ids of a world's objects in a fence, rising as in the world.
abbrev pub inside_of : World → Fence → List ℕ
inside_of world f = map (λ (m : Placed). m.id) (members_in f.region (places_of world))
