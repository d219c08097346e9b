-- Which of the objects that come one after the other are kept.
use Rattle.std.specs.Prelude.{◌≡◌, ◌≤◌, ◌<◌, false, ℕ, ⊤, List, [], ◌++◌, length, map, take, Some, IfSome}
use Rattle.std.specs.List.{All, fold}
use Rattle.std.specs.BinaryHeap.{heap_items, IsHeap}
use Rattle.zorder.specs.declared.points.Point.{Point}
use Rattle.zorder.specs.declared.points.Placed.{Placed}
use Rattle.zorder.specs.Distance.{distance}
use Rattle.zorder.specs.Key.{IsPoint, point_of}
use Rattle.zorder.specs.Region.{has_point}
use Rattle.prefix_names.specs.Regions.{box_of}
use Rattle.prefix_names.specs.declared.key_boxes.KeyBox.{KeyBox}
use Rattle.plain_list.specs.AtPlaces.{AreOf}
use Rattle.plain_list.specs.Queries.{is_before, with_ranked, ranked}
use Rattle.knn_query.specs.Candidates.{object_of, candidate_cmp, IsMeasured}
use Rattle.knn_query.specs.declared.candidate.Candidate.{Candidate}
use Rattle.knn_query.specs.declared.kept.Kept.{Kept}
use Rattle.knn_query.specs.declared.reach.Reach.{Reach}
use Rattle.knn_query.specs.declared.kept.Came.{Came}
use Rattle.knn_query.specs.declared.kept.Came.TheVariants.{More, Instead, Beyond}

-- a ranking with more objects added
abbrev pub with_more : Point → List Placed → List Placed → List Placed
with_more p ranking ms = fold (λ (list : List Placed) m. with_ranked p m list) ranking ms

-- the k nearest of `list`, after the objects of `rest` are added, are the k nearest of all places
pub record IsPass (p : Point) (k : ℕ) (places rest list : List Placed) : Type 0 where
  pub are_of : AreOf places list
  pub nearest : take k (with_more p (take k (ranked p list)) rest) ≡ take k (ranked p places)

-- the kept objects
abbrev pub held : Kept → List Placed
held kept = map object_of (heap_items kept.heap)

-- at most k candidates are kept, each with its distance, and a last one is at the top of the heap
pub record IsHeld (kept : Kept) : Type 0 where
  pub ordered : IsHeap candidate_cmp (heap_items kept.heap)
  pub measured : All (IsMeasured kept.from) (heap_items kept.heap)
  pub few : length (heap_items kept.heap) ≤ kept.k

-- the fields have these values, and no object is kept
pub record IsEmpty (p : Point) (k : ℕ) (kept : Kept) : Type 0 where
  pub from : kept.from ≡ p
  pub k_is : kept.k ≡ k
  pub none : held kept ≡ []
  pub is_held : IsHeld kept

-- the kept objects, after those of `rest` are added, lead to the k nearest of all places
abbrev pub Keeps : Point → ℕ → List Placed → List Placed → Kept → Type 0
Keeps p k places rest kept = IsPass p k places rest (held kept)

-- k objects are kept, and each is nearer than this object
pub record IsOut (kept : Kept) (m : Placed) : Type 0 where
  pub full : kept.k ≤ length (heap_items kept.heap)
  pub near : All (λ (c : Candidate). c.distance < distance m.at kept.from) (heap_items kept.heap)

-- k objects are kept, and this object comes before none of them
pub record IsBeyond (kept : Kept) (m : Placed) : Type 0 where
  pub full : kept.k ≤ length (heap_items kept.heap)
  pub behind : All (λ (n : Placed). is_before kept.from m n ≡ false) (held kept)

-- what the result says about an object: after Beyond, k kept objects come before it
abbrev pub Tells : Kept → Placed → Came → Type 0
Tells kept m More = ⊤
Tells kept m Instead = ⊤
Tells kept m Beyond = IsBeyond kept m

-- for each object outside the box, k nearer objects are kept
abbrev pub IsOutOf : Kept → KeyBox → Type 0
IsOutOf kept corners = (m : Placed) → IsPoint m.at → has_point (box_of corners) m.at ≡ false → IsOut kept m

-- the point of the key is outside the box of a reach
pub record LeavesOut (reach : Reach) (key : ℕ) : Type 0 where
  pub corners : KeyBox
  pub is : reach.corners ≡ Some corners
  pub out : has_point (box_of corners) (point_of key) ≡ false

-- for each object outside the box or beyond the distance, k nearer objects are kept
pub record HasReach (reach : Reach) (kept : Kept) : Type 0 where
  pub outside : IfSome reach.corners (IsOutOf kept)
  pub farther : (m : Placed) → IsPoint m.at → reach.farthest < distance m.at kept.from → IsOut kept m

-- the objects `ms` were added, and none of the nearest was lost
pub record Passes (ms : List Placed) (old new : Kept) : Type 0 where
  pub from : new.from ≡ old.from
  pub k_is : new.k ≡ old.k
  pub is_held : IsHeld new
  pub out : (m : Placed) → IsOut old m → IsOut new m
  pub keeps : (places rest : List Placed) → AreOf places ms → Keeps old.from old.k places (ms ++ rest) old → Keeps old.from old.k places rest new
