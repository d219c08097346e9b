-- How often a call opens a bucket.
use Rattle.std.specs.Prelude.{◌≡◌, ℕ, ◌+◌, ◌<◌, ◌≤◌, nat_le, Bool, List, length, Option, Some, None, Result, Ok, Err, IfSome, ⊤}
use Rattle.std.specs.List.{count_by}
use Rattle.zorder.specs.declared.points.Point.{Point}
use Rattle.zorder.specs.declared.points.Placed.{Placed}
use Rattle.zorder.specs.declared.points.Region.{Region}
use Rattle.plain_list.specs.declared.ops.Op.{Op}
use Rattle.plain_list.specs.declared.ops.Op.TheVariants.{Put, Move, Remove, Find, Within, Near}
use Rattle.plain_list.specs.declared.ops.Answer.{Answer}
use Rattle.plain_list.specs.declared.ops.Answer.TheVariants.{Found}
use Rattle.plain_list.specs.History.{world_after}
use Rattle.plain_list.specs.State.{state_after}
use Rattle.plain_list.specs.Places.{ArePlaces}
use Rattle.plain_list.specs.World.{places_of}
use Rattle.index_layer.specs.Leaves.{Leaf}
use Rattle.index_layer.specs.Stands.{Stands}
use Rattle.range_query.specs.Cut.{is_met}
use Rattle.knn_query.specs.Ahead.{least_to, reach_of}
use Rattle.book_lock.specs.Pass.{Known}
use Rattle.sessions.specs.Shared.{start_of}
use Rattle.sessions.specs.declared.faults.CallFault.{CallFault}
use Rattle.sessions.specs.declared.faults.CallFault.TheVariants.{Closed, Disk, HistoryFull, LogFull, Memory}

-- The leaves at the end of the history that a pass has seen.
abbrev pub leaves_seen : ℕ → Known → List (List Bool)
leaves_seen w pass = (state_after w (start_of pass.origin) pass.seen).leaves

-- The points of the objects there.
abbrev pub places_seen : Known → List Placed
places_seen pass = places_of (world_after pass.origin.world pass.seen)

-- How many of these leaves have a region that the box meets.
abbrev pub number_met : Region → List (List Bool) → ℕ
number_met region names = count_by (is_met region) names

-- How many of these leaves have a region with a point that may be as near as this.
abbrev pub number_within : Point → ℕ → List (List Bool) → ℕ
number_within p reach names = count_by (λ name. nat_le (least_to p name) reach) names

-- The objects that an answer lists.
abbrev pub listed_in : Answer → Option (List Placed)
listed_in (Found ms) = Some ms
listed_in _ = None

-- The objects that a result lists, if it has an answer.
abbrev pub listed_by : {A E : Type 0} → (A → Answer) → Result A E → Option (List Placed)
listed_by answer (Ok value) = listed_in (answer value)
listed_by answer (Err fault) = None

-- A box opens only leaves whose region it meets, each at most once. It opens all of them if objects are listed.
pub record OpensBox (region : Region) (names : List (List Bool)) (listed : Option (List Placed)) (before now : ℕ) : Type 0 where
  pub most : now ≤ before + number_met region names
  pub exact : IfSome listed (λ ms. now ≡ before + number_met region names)

-- A search for the nearest objects opens each leaf at most once. If there are k objects, it opens only leaves with a
-- point that may be as near as the k-th. It opens at least one leaf if some object is listed.
pub record OpensNearest (p : Point) (k : ℕ) (names : List (List Bool)) (places : List Placed) (listed : Option (List Placed)) (before now : ℕ) : Type 0 where
  pub most : now ≤ before + length names
  pub near : (d : Placed) → k ≤ length places → now ≤ before + number_within p (reach_of p k places d) names
  pub some : IfSome listed (λ ms. 0 < length ms → before < now)

-- How often a bucket is opened for an operation, over these leaves and points.
abbrev pub Opens : Op → List (List Bool) → List Placed → Option (List Placed) → ℕ → ℕ → Type 0
Opens (Put id at moment) names places listed before now = now ≡ before
Opens (Move id at moment) names places listed before now = now ≡ before
Opens (Remove id) names places listed before now = now ≡ before
Opens (Find id) names places listed before now = now ≡ before
Opens (Within region) names places listed before now = OpensBox region names listed before now
Opens (Near at k) names places listed before now = OpensNearest at k names places listed before now

-- A refused call opens no bucket. The one exception is a query that has its entry, and then ran out of memory.
abbrev pub OpensRefused : CallFault → ℕ → ℕ → Type 0
OpensRefused (Closed cell) before now = now ≡ before
OpensRefused (Disk cell) before now = now ≡ before
OpensRefused HistoryFull before now = now ≡ before
OpensRefused LogFull before now = now ≡ before
OpensRefused (Memory None) before now = now ≡ before
OpensRefused (Memory (Some place)) before now = ⊤

-- How often a bucket is opened, for any points that the leaves of an index represent.
abbrev pub OpensOf : List Leaf → Op → Option (List Placed) → ℕ → ℕ → Type 0
OpensOf leaves op listed before now = (places : List Placed) (names : List (List Bool)) → ArePlaces places → Stands leaves places names → Opens op names places listed before now
