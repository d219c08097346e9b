-- How fences are crossed between two positions, fence by fence.
use Rattle.std.specs.Prelude.{◌≡◌, ◌+◌, ◌&&◌, ℕ, Bool, true, false, List, [], ◌∷◌, ◌++◌, map, Option, Some, None}
use Rattle.zorder.specs.declared.points.Point.{Point}
use Rattle.fence_watch.specs.declared.fences.Fence.{Fence}
use Rattle.fence_watch.specs.declared.fences.Event.{Event}
use Rattle.fence_watch.specs.declared.fences.Crossing.{Crossing}
use Rattle.fence_watch.specs.declared.fences.Crossing.TheVariants.{Enter, Leave}
use Rattle.fence_watch.specs.declared.slabs.Span.{Span}
use Rattle.fence_watch.specs.declared.passages.Chart.{Chart}
use Rattle.fence_watch.specs.declared.passages.Pair.{Pair}
use Rattle.fence_watch.specs.Fences.{lies_in}
use Rattle.fence_watch.specs.Marks.{marks_in, filled}

-- How an object crosses a fence, if it was in it or not, and is in it or not.
abbrev pub turn : Bool → Bool → Option Crossing
turn false true = Some Enter
turn true false = Some Leave
turn true true = None
turn false false = None

-- The fences that have both coordinates.
abbrev pub both : List Bool → List Bool → List Bool
both (x ∷ xs) (y ∷ ys) = (x && y) ∷ both xs ys
both (x ∷ xs) [] = []
both [] ys = []

-- How each fence is crossed.
abbrev pub turns : List Bool → List Bool → List (Option Crossing)
turns (was ∷ before) (is ∷ after) = turn was is ∷ turns before after
turns (was ∷ before) [] = []
turns [] after = []

-- How the fences of the lowest bits of two words are crossed.
abbrev pub turns_in : ℕ → Pair → List (Option Crossing)
turns_in n p = turns (marks_in n p.was) (marks_in n p.is)

-- The same for all bits.
unfoldable pub word_turns : Pair → List (Option Crossing)
word_turns p = turns_in 64 p

abbrev pub turns_of : List Pair → List (Option Crossing)
turns_of [] = []
turns_of (p ∷ passage) = word_turns p ++ turns_of passage

-- A turn for each of the fences that there may be.
unfoldable pub all_turns : List (Option Crossing) → List (Option Crossing)
all_turns ts = filled None 256 ts

-- How many fences are crossed.
abbrev pub count_turns : List (Option Crossing) → ℕ
count_turns [] = 0
count_turns (None ∷ ts) = count_turns ts
count_turns (Some c ∷ ts) = count_turns ts + 1

-- The elements after one crossing each.
abbrev pub along : {X : Type 0} → (X → Option Crossing → X) → List X → List (Option Crossing) → List X
along behind [] ts = []
along behind (x ∷ xs) [] = x ∷ xs
along behind (x ∷ xs) (t ∷ ts) = behind x t ∷ along behind xs ts

-- The event of a fence with this crossing.
abbrev pub event_by : ℕ → ℕ → Fence → Option Crossing → List Event
event_by at id f None = []
event_by at id f (Some c) = record { at = at; crossing = c; id = id; fence = f.id } ∷ []

-- The events of fences with these crossings.
abbrev pub events_along : ℕ → ℕ → List Fence → List (Option Crossing) → List Event
events_along at id [] ts = []
events_along at id (f ∷ fences) [] = []
events_along at id (f ∷ fences) (t ∷ ts) = event_by at id f t ++ events_along at id fences ts

-- How a fence is crossed between two positions.
abbrev pub turn_at : Option Point → Option Point → Fence → Option Crossing
turn_at before after f = turn (lies_in f before) (lies_in f after)

abbrev pub column_of : Fence → Span
column_of f = record { from = f.region.lo.x; to = f.region.hi.x }

abbrev pub line_of : Fence → Span
line_of f = record { from = f.region.lo.y; to = f.region.hi.y }

-- A chart of these fences.
pub record Charts (fences : List Fence) (c : Chart) : Type 0 where
  pub columns : c.columns ≡ map column_of fences
  pub lines : c.lines ≡ map line_of fences

-- How each of these fences is crossed between two positions.
abbrev pub ShowsPassage : (before after : Option Point) → List Fence → List Pair → Type 0
ShowsPassage before after fences passage = turns_of passage ≡ all_turns (map (turn_at before after) fences)
