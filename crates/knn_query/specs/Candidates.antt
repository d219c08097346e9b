-- Objects with their squared distance to a point, and a heap of them.
use Rattle.std.specs.Prelude.{◌≡◌, Bool, true, false, List, ◌∷◌}
use Rattle.std.specs.declared.cmp.Ordering.{Ordering}
use Rattle.std.specs.Ordering.{nat_cmp, ordering_then, is_lt}
use Rattle.std.specs.List.Sorted.{IsPermutation}
use Rattle.std.specs.BinaryHeap.{IsHeap, IsUpperBound}
use Rattle.zorder.specs.declared.points.Point.{Point}
use Rattle.zorder.specs.declared.points.Placed.{Placed}
use Rattle.zorder.specs.Distance.{distance}
use Rattle.knn_query.specs.declared.candidate.Candidate.{Candidate}

abbrev pub object_of : Candidate → Placed
object_of c = record { id = c.id; at = c.at }

-- the distance is the squared distance to this point
abbrev pub IsMeasured : Point → Candidate → Type 0
IsMeasured p c = c.distance ≡ distance c.at p

-- the order by distance, and then by id
abbrev pub candidate_cmp : Candidate → Candidate → Ordering
candidate_cmp c d = ordering_then (nat_cmp c.distance d.distance) (nat_cmp c.id d.id)

-- `one` comes before no candidate of the heap, and the heap is unchanged
pub record IsBehind (one : Candidate) (old new : List Candidate) : Type 0 where
  pub same : new ≡ old
  pub bound : IsUpperBound candidate_cmp one old

-- `one` replaces the candidate `gone`, which comes after `one` and after all others
pub record IsInPlace (one : Candidate) (old new : List Candidate) : Type 0 where
  pub gone : Candidate
  pub left : List Candidate
  pub was : IsPermutation old (gone ∷ left)
  pub is : IsPermutation (one ∷ left) new
  pub ordered : IsHeap candidate_cmp new
  pub before : is_lt (candidate_cmp one gone) ≡ true
  pub bound : IsUpperBound candidate_cmp gone left

-- true: the last candidate of the heap is replaced by `one`, which comes before it; false: there is no such candidate
abbrev pub Replaces : Candidate → List Candidate → List Candidate → Bool → Type 0
Replaces one old new true = IsInPlace one old new
Replaces one old new false = IsBehind one old new
