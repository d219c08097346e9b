-- Guards as they are kept, the room in them, and how crossings change them.
use Rattle.std.specs.Prelude.{ℕ, ◌+◌, ◌≤◌, ◌<◌, List, [], ◌∷◌, length, map, Option, Some, None, ⊤, vec_len, vec_capacity}
use Rattle.std.specs.List.{AllByRecursion}
use Rattle.fence_watch.specs.declared.fences.Crossing.{Crossing}
use Rattle.fence_watch.specs.declared.fences.Crossing.TheVariants.{Enter, Leave}
use Rattle.fence_watch.specs.declared.guards.Guarded.{Guarded}
use Rattle.fence_watch.specs.declared.passages.Pair.{Pair}
use Rattle.fence_watch.specs.Passages.{along, turns_in, turns_of}
use Rattle.fence_watch.specs.Watches.{Guard, with_id, without_id}

-- Each id is above those before it.
abbrev pub AreRising : List ℕ → Type 0
AreRising [] = ⊤
AreRising (x ∷ xs) = AllByRecursion (λ y. x < y) xs × AreRising xs

abbrev pub AllRising : List Guard → Type 0
AllRising guards = AllByRecursion (λ (g : Guard). AreRising g.inside) guards

abbrev pub guard_of : Guarded → Guard
guard_of g = record { fence = g.fence; inside = g.inside.items }

abbrev pub guards_of : List Guarded → List Guard
guards_of guards = map guard_of guards

-- A guard after a crossing of its fence, or after none.
abbrev pub behind_by : ℕ → Guard → Option Crossing → Guard
behind_by id g None = g
behind_by id g (Some Enter) = record g { inside = with_id id g.inside }
behind_by id g (Some Leave) = record g { inside = without_id id g.inside }

-- Guards after one crossing each.
abbrev pub guards_along : ℕ → List Guard → List (Option Crossing) → List Guard
guards_along id guards ts = along (behind_by id) guards ts

-- There is room for an id if the fence is entered.
abbrev pub HasRoom : Guarded → Option Crossing → Type 0
HasRoom g (Some Enter) = vec_len g.inside + 1 ≤ vec_capacity g.inside
HasRoom g (Some Leave) = ⊤
HasRoom g None = ⊤

abbrev pub HaveRoom : List Guarded → List (Option Crossing) → Type 0
HaveRoom [] ts = ⊤
HaveRoom (g ∷ guards) [] = ⊤
HaveRoom (g ∷ guards) (t ∷ ts) = HasRoom g t × HaveRoom guards ts

-- How a step of an object along a passage changes guards.
abbrev pub crossed_by : ℕ → List Guarded → List Pair → List Guard
crossed_by id guards passage = guards_along id (guards_of guards) (turns_of passage)

-- The same for as few guards as two words have bits.
abbrev pub crossed_in : ℕ → List Guarded → Pair → List Guard
crossed_in id guards p = guards_along id (guards_of guards) (turns_in (length guards) p)
