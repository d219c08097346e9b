-- What a watch keeps along the cells of a log, or of a program's own steps.
use Rattle.std.specs.Prelude.{◌≡◌, ◌+◌, ◌<◌, nat_lt, ◌==◌, ℕ, Bool, not, List, [], ◌∷◌, ◌++◌, length, map, if◌then◌else◌, Option, Some, None, ⊤}
use Rattle.std.specs.List.{filter, AllByRecursion, Contains, list_any}
use Rattle.zorder.specs.declared.points.Point.{Point}
use Rattle.cell_format.specs.declared.cell.Cell.{Cell}
use Rattle.plain_list.specs.Places.{IsRising}
use Rattle.plain_list.specs.World.{World, places_of}
use Rattle.fence_watch.specs.declared.fences.Fence.{Fence}
use Rattle.fence_watch.specs.declared.fences.Event.{Event}
use Rattle.recovery.specs.declared.walked.Walked.{Walked}
use Rattle.recovery.specs.Walks.{object_of}
use Rattle.fence_watch.specs.Fences.{lies_in, inside_of}
use Rattle.fence_watch.specs.Crossings.{world_after_cells, crossings_by, crossings_from}

-- The most events that there may be.
abbrev pub most_events : ℕ
most_events = 4194304

-- A fence, and the ids inside it, rising.
pub record Guard : Type 0 where
  pub fence : Fence
  pub inside : List ℕ

-- The fences, with the ids inside, and the events so far.
pub record WatchView : Type 0 where
  pub guards : List Guard
  pub events : List Event

abbrev pub fences_of : List Guard → List Fence
fences_of guards = map (λ (g : Guard). g.fence) guards

-- The ids with one more in its place.
abbrev pub with_id : ℕ → List ℕ → List ℕ
with_id id [] = id ∷ []
with_id id (x ∷ xs) = if nat_lt id x then id ∷ x ∷ xs else x ∷ with_id id xs

-- The ids without one.
abbrev pub without_id : ℕ → List ℕ → List ℕ
without_id id xs = filter (λ x. not (x == id)) xs

-- The ids inside a fence after a step of an object.
abbrev pub inside_behind : ℕ → Option Point → Option Point → Fence → List ℕ → List ℕ
inside_behind id before after f ids =
    if lies_in f before then (if lies_in f after then ids else without_id id ids) else (if lies_in f after then with_id id ids else ids)

-- A fence after a step of an object. There may be no object.
abbrev pub guard_behind : Option ℕ → Option Point → Option Point → Guard → Guard
guard_behind None before after g = g
guard_behind (Some id) before after g = record g { inside = inside_behind id before after g.fence g.inside }

-- Whether an id is inside.
abbrev pub has_id : ℕ → List ℕ → Bool
has_id id ids = list_any (λ x. x == id) ids

-- A fence holds the object if and only if the position before the cell is in it.
abbrev pub HoldsBefore : Option ℕ → Option Point → List Guard → Type 0
HoldsBefore None before guards = ⊤
HoldsBefore (Some id) before guards = AllByRecursion (λ (g : Guard). has_id id g.inside ≡ lies_in g.fence before) guards

-- A step with this number, in which an object goes from one position to another. There may be no object.
pub record StepsBy (at : ℕ) (object : Option ℕ) (before after : Option Point) (old new : WatchView) : Type 0 where
  pub events : new.events ≡ old.events ++ crossings_by at object before after (fences_of old.guards)
  pub guards : new.guards ≡ map (guard_behind object before after) old.guards

-- A step along a cell.
abbrev pub Steps : Walked → WatchView → WatchView → Type 0
Steps walked old new = StepsBy walked.at (object_of walked.cell) walked.before walked.after old new

-- With such a step there would be too many events.
abbrev pub IsOverBy : ℕ → Option ℕ → Option Point → Option Point → WatchView → Type 0
IsOverBy at object before after old = most_events < length old.events + length (crossings_by at object before after (fences_of old.guards))

abbrev pub IsOver : Walked → WatchView → Type 0
IsOver walked old = IsOverBy walked.at (object_of walked.cell) walked.before walked.after old

-- A fence with the ids of a world's objects inside.
abbrev pub guard_in : World → Fence → Guard
guard_in world f = record { fence = f; inside = inside_of world f }

-- The watch after steps along these cells. The first cell has the number `at` and comes after this world, whose ids
-- rise. The events are the crossings of the cells, of which the first were taken out. The ids inside are those of the
-- world after the cells.
pub record FollowsFrom (at : ℕ) (world : World) (taken : List Event) (cells : List Cell) (fences : List Fence) (v : WatchView) : Type 0 where
  pub rising : IsRising (places_of world)
  pub events : taken ++ v.events ≡ crossings_from at world cells fences
  pub guards : v.guards ≡ map (guard_in (world_after_cells world cells)) fences

-- The same along the cells of a log, from the first one on.
abbrev pub FollowsCells : List Cell → List Fence → WatchView → Type 0
FollowsCells cells fences v = FollowsFrom 0 [] [] cells fences v

-- The ids inside the fences are those of this world, whose ids rise.
pub record HoldsWorld (world : World) (fences : List Fence) (v : WatchView) : Type 0 where
  pub rising : IsRising (places_of world)
  pub guards : v.guards ≡ map (guard_in world) fences

-- The ids inside the fence of this number, if there is one.
abbrev pub inside_at : ℕ → List Guard → Option (List ℕ)
inside_at id [] = None
inside_at id (g ∷ guards) = if g.fence.id == id then Some g.inside else inside_at id guards

-- These are the ids inside the fence of this number, which is one of these fences.
pub record IsInside (id : ℕ) (world : World) (fences : List Fence) (list : List ℕ) : Type 0 where
  pub fence : Fence
  pub there : Contains fences fence
  pub named : fence.id ≡ id
  pub ids : list ≡ inside_of world fence
