-- How many objects are inside each fence, and how crossings change that number.
use Rattle.std.specs.Prelude.{ℕ, ◌+◌, ◌-◌, nat_lt, List, length, map, if◌then◌else◌, Option, Some, None}
use Rattle.fence_watch.specs.declared.fences.Fence.{Fence}
use Rattle.fence_watch.specs.declared.fences.Event.{Event}
use Rattle.fence_watch.specs.declared.fences.Crossing.{Crossing}
use Rattle.fence_watch.specs.declared.fences.Crossing.TheVariants.{Enter, Leave}
use Rattle.fence_watch.specs.declared.counts.FenceCount.{FenceCount}
use Rattle.fence_watch.specs.declared.counts.Step.{Step}
use Rattle.fence_watch.specs.declared.passages.Pair.{Pair}
use Rattle.fence_watch.specs.Passages.{along, turns_in, turns_of, events_along}

abbrev pub fences_counted : List FenceCount → List Fence
fences_counted counts = map (λ (c : FenceCount). c.fence) counts

-- A fence with no object inside.
abbrev pub uncounted : Fence → FenceCount
uncounted f = record { fence = f; inside = 0 }

-- One more, as far as numbers of 64 bits go.
abbrev pub one_more : ℕ → ℕ
one_more n = if nat_lt n 18446744073709551615 then n + 1 else n

-- The number after a crossing, or after none.
abbrev pub number_by : ℕ → Option Crossing → ℕ
number_by n None = n
number_by n (Some Enter) = one_more n
number_by n (Some Leave) = n - 1

abbrev pub count_by : FenceCount → Option Crossing → FenceCount
count_by c t = record { fence = c.fence; inside = number_by c.inside t }

-- How a step along a passage changes counts, and its events.
abbrev pub counted_by : List FenceCount → List Pair → List FenceCount
counted_by counts passage = along count_by counts (turns_of passage)

abbrev pub said_by : Step → List FenceCount → List Pair → List Event
said_by step counts passage = events_along step.at step.id (fences_counted counts) (turns_of passage)

-- The same for as few fences as two words have bits.
abbrev pub counted_in : List FenceCount → Pair → List FenceCount
counted_in counts p = along count_by counts (turns_in (length counts) p)

abbrev pub said_in : Step → List FenceCount → Pair → List Event
said_in step counts p = events_along step.at step.id (fences_counted counts) (turns_in (length counts) p)
