-- Spans of numbers, and their edges.
use Rattle.std.specs.Prelude.{◌≡◌, ◌+◌, ◌^◌, ◌≤◌, ◌<◌, ◌&&◌, nat_le, nat_lt, ℕ, Bool, List, [], ◌∷◌, ◌++◌, length, slice_index, map, if◌then◌else◌}
use Rattle.std.specs.List.Sorted.{IsNonDecreasing, IsPermutation}
use Rattle.fence_watch.specs.declared.slabs.Span.{Span}
use Rattle.fence_watch.specs.Marks.{marks_of, all_marks}

-- Whether a span has a number.
abbrev pub spans : ℕ → Span → Bool
spans at s = nat_le s.from at && nat_le at s.to

-- The spans that have a number.
abbrev pub row_at : ℕ → List Span → List Bool
row_at at list = map (spans at) list

-- Where a span begins, and where it has ended.
abbrev pub own_edges : Span → List ℕ
own_edges s = if nat_lt (s.to + 1) (2 ^ 32) then s.from ∷ (s.to + 1) ∷ [] else s.from ∷ []

abbrev pub edges_of : List Span → List ℕ
edges_of [] = []
edges_of (s ∷ list) = own_edges s ++ edges_of list

-- The edges are 0 and those of the spans, in order. For each edge there is a row with the spans that have it.
pub record TellSpans (list : List Span) (edges : List ℕ) (rows : List (List ℕ)) : Type 0 where
  pub sorted : IsNonDecreasing edges
  pub all : IsPermutation (0 ∷ edges_of list) edges
  pub told : map marks_of rows ≡ map (λ edge. all_marks (row_at edge list)) edges

-- The last of these rising edges that is at most a number.
pub record IsSlabOf (edges : List ℕ) (at slab : ℕ) : Type 0 where
  pub within : slab < length edges
  pub below : slice_index edges slab ≤ at
  pub last : slab + 1 < length edges → at < slice_index edges (slab + 1)

-- The slab of a number is among the `count` slabs from `slab` on.
pub record IsAmong (edges : List ℕ) (at slab count : ℕ) : Type 0 where
  pub some : 1 ≤ count
  pub within : slab + count ≤ length edges
  pub below : slice_index edges slab ≤ at
  pub last : slab + count < length edges → at < slice_index edges (slab + count)
