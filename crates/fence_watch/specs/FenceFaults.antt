-- Fences from code, and the first faulty one.
use Rattle.std.specs.Prelude.{◌++◌, nat_le, nat_lt, ◌&&◌, Bool, List, [], ◌∷◌, length, if◌then◌else◌, Option, Some, None}
use Rattle.zorder.specs.declared.points.Region.{Region}
use Rattle.fence_watch.specs.declared.fences.Fence.{Fence}
use Rattle.fence_watch.specs.declared.making.BadFences.{BadFences}
use Rattle.fence_watch.specs.declared.making.BadFences.TheVariants.{TooMany, NoBox, Twice}
use Rattle.fence_watch.specs.Fences.{has_fence, most_fences}

-- Whether the lower corner is at most the upper one, on both axes.
abbrev pub is_box : Region → Bool
is_box r = nat_le r.lo.x r.hi.x && nat_le r.lo.y r.hi.y

-- What is wrong with the fence that comes after these, if anything is. It is no box, or it is one and has the id of an
-- earlier fence.
abbrev pub fault_behind : List Fence → Fence → Option BadFences
fault_behind earlier f =
    if is_box f.region then (if has_fence f.id earlier then Some (Twice (length earlier)) else None) else Some (NoBox (length earlier))

-- The first of two faults.
abbrev pub first_of_two : Option BadFences → Option BadFences → Option BadFences
first_of_two (Some fault) later = Some fault
first_of_two None later = later

-- The first fault of fences that come after earlier ones.
abbrev pub fault_among : List Fence → List Fence → Option BadFences
fault_among earlier [] = None
fault_among earlier (f ∷ fences) = first_of_two (fault_behind earlier f) (fault_among (earlier ++ f ∷ []) fences)

-- Why these fences are refused, if they are: there are too many, or one of them is faulty. The first such one is named.
abbrev pub fault_of : List Fence → Option BadFences
fault_of fences = if nat_lt most_fences (length fences) then Some TooMany else fault_among [] fences
