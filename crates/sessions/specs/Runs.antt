-- Runs of queries: answered outside the lock from one index, and noted in one hold of it.
use Rattle.std.specs.Prelude.{◌≡◌, ℕ, ◌+◌, ◌<◌, ◌≤◌, Bool, List, ◌++◌, length, map, take, drop, slice_index_or, vec_len, vec_capacity, true, false, Option, Some, None}
use mathlib.Core.List.{IsPrefix}
use Rattle.plain_list.specs.declared.ops.Op.{Op}
use Rattle.plain_list.specs.Answer.{IsValid, answer_of}
use Rattle.plain_list.specs.History.{world_after}
use Rattle.plain_list.specs.World.{World, places_of, IsWorld}
use Rattle.index_layer.specs.Leaves.{Leaf}
use Rattle.index_layer.specs.Stands.{Stands}
use Rattle.disk_trait.specs.Drive.{Drive}
use Rattle.commit_book.specs.BookView.{BookView}
use Rattle.commit_book.specs.Answers.{IsQuery}
use Rattle.book_lock.specs.Pass.{Known}
use Rattle.sessions.specs.Shared.{origin_of}
use Rattle.sessions.specs.Standing.{OfWorld}
use Rattle.sessions.specs.Steps.{all_parts, has_seen}
use Rattle.sessions.specs.Lanes.{PlaysRows, PlaysOn, StopsOn, Stops}
use Rattle.sessions.specs.declared.faults.CallFault.{CallFault}
use Rattle.sessions.specs.declared.store.lanes.Lane.{Lane}
use Rattle.sessions.specs.declared.store.lanes.KeptRow.{KeptRow}
use Rattle.sessions.specs.declared.store.runs.Run.{Run}
use Rattle.sessions.specs.declared.store.runs.Run.TheVariants.{Left, Played, Refused}

-- The pass may have seen more of the history, unless it has all parts. Nothing else changed.
pub record HasLooked (old new : Known) : Type 0 where
  pub later : IsPrefix old.seen new.seen
  pub alone : old.parts ≡ all_parts → new.seen ≡ old.seen
  pub pass_is : new ≡ has_seen old new.seen

-- These leaves represent the objects after all that a pass has seen. It has seen so many entries.
pub record Sees (leaves : List Leaf) (events : ℕ) (pass : Known) : Type 0 where
  pub events_is : events ≡ length pass.seen
  pub world : IsWorld (world_after pass.origin.world pass.seen)
  pub names : List (List Bool)
  pub stands : Stands leaves (places_of (world_after pass.origin.world pass.seen)) names

-- The rows from `i` on, before `j`, are valid queries.
pub record AreQueries (i j : ℕ) (rows : List (ℕ × Op)) : Type 0 where
  pub within : j ≤ length rows
  pub queries : (k : ℕ) (d : ℕ × Op) → i ≤ k → k < j → IsQuery (slice_index_or rows k d).1
  pub valid : (k : ℕ) (d : ℕ × Op) → i ≤ k → k < j → IsValid (slice_index_or rows k d).1

-- What is kept of a query before it has a place.
abbrev pub unplaced : World → ℕ × Op → KeptRow
unplaced world r = record { row = r.0; place = 0; answer = answer_of world r.1; split = None }

-- The queries from row `i` on, before `j`, were answered in a world. Their answers follow what was kept before, without
-- places.
pub record AnswersIn {I D O P : Type 0} (world : World) (i j : ℕ) (before : List KeptRow) (lane : Lane I D O P) : Type 0 where
  pub front : List (ℕ × Op)
  pub rows_are : drop i lane.rows.items ≡ front ++ drop j lane.rows.items
  pub kept_are : lane.kept.items ≡ before ++ map (unplaced world) front

-- The queries were answered from an index with these leaves. Nothing else of the lane changed.
pub record Answers {I D O P : Type 0} (leaves : List Leaf) (i j : ℕ) (old new : Lane I D O P) : Type 0 where
  pub session : new.session ≡ old.session
  pub rows : new.rows.items ≡ old.rows.items
  pub pass : new.pass ≡ old.pass
  pub fault : new.fault ≡ old.fault
  pub count : vec_len new.kept + i ≡ vec_len old.kept + j
  pub room : vec_capacity old.kept ≤ vec_capacity new.kept
  pub answers : OfWorld leaves (λ world. AnswersIn world i j old.kept.items new)

-- The pass after its owner gave the lock back.
abbrev pub freed : Known → Known
freed pass = record pass { holds = false }

-- The book was taken with this pass.
pub record IsOut {D : Type 0} (drive : D → Drive) (b : BookView D) (pass : Known) : Type 0 where
  pub on : pass.holds ≡ true
  pub entries : b.entries ≡ pass.seen
  pub origin : origin_of drive b ≡ pass.origin

-- Each of the rows was noted, or one was refused.
abbrev pub EndsNoting : ℕ → ℕ → Known → List (ℕ × Op) → List (ℕ × Op) → Option CallFault → Type 0
EndsNoting w session new last rest None = rest ≡ last
EndsNoting w session new last rest (Some fault) = Stops w session new new rest (Some fault)

-- Answered rows were noted and have their places, up to the first that was refused. `base` rows were kept before them.
pub record NotesRows {I D O P : Type 0} (w i j base : ℕ) (old new : Lane I D O P) : Type 0 where
  pub session : new.session ≡ old.session
  pub rows : new.rows.items ≡ old.rows.items
  pub lock_is : new.pass.lock ≡ old.pass.lock
  pub count : new.fault ≡ None → vec_len new.kept ≡ vec_len old.kept
  pub room : vec_capacity old.kept ≤ vec_capacity new.kept
  pub rest : List (ℕ × Op)
  pub plays : PlaysRows w old.session (freed old.pass) (freed new.pass) (take base old.kept.items) new.kept.items (drop i old.rows.items) rest
  pub ends : EndsNoting w old.session (freed new.pass) (drop j old.rows.items) rest new.fault

-- No row was played, though the pass may have seen more.
pub record IsLeft {I D O P : Type 0} (old new : Lane I D O P) : Type 0 where
  pub session : new.session ≡ old.session
  pub rows : new.rows.items ≡ old.rows.items
  pub fault : new.fault ≡ old.fault
  pub kept : new.kept.items ≡ old.kept.items
  pub count : vec_len new.kept ≡ vec_len old.kept
  pub room : vec_capacity old.kept ≤ vec_capacity new.kept
  pub pass : HasLooked old.pass new.pass

-- The queries from row `i` on, before `k`, were noted. Those from `k` on, before `end`, are not noted yet. All were
-- answered in this world.
pub record Noting {I D O P : Type 0} (w i k end base : ℕ) (world : World) (old new : Lane I D O P) : Type 0 where
  pub session : new.session ≡ old.session
  pub rows : new.rows.items ≡ old.rows.items
  pub fault : new.fault ≡ None
  pub lock_is : new.pass.lock ≡ old.pass.lock
  pub count : vec_len new.kept ≡ vec_len old.kept
  pub room : vec_capacity old.kept ≤ vec_capacity new.kept
  pub placed : List KeptRow
  pub front : List (ℕ × Op)
  pub rows_are : drop k old.rows.items ≡ front ++ drop end old.rows.items
  pub kept_are : new.kept.items ≡ placed ++ map (unplaced world) front
  pub placed_is : length placed + i ≡ base + k
  pub plays : PlaysRows w old.session (freed old.pass) (freed new.pass) (take base old.kept.items) placed (drop i old.rows.items) (drop k old.rows.items)
  pub world_is : world_after new.pass.origin.world new.pass.seen ≡ world

-- The lane at the start of a run, and after the run's queries were answered.
pub record Stood {I D O P : Type 0} (base : ℕ) (start old : Lane I D O P) : Type 0 where
  pub session : old.session ≡ start.session
  pub rows : old.rows.items ≡ start.rows.items
  pub fault : old.fault ≡ start.fault
  pub base_is : vec_len start.kept ≡ base
  pub kept : take base old.kept.items ≡ start.kept.items
  pub room : vec_capacity start.kept ≤ vec_capacity old.kept
  pub pass : HasLooked start.pass old.pass

-- What a run leaves.
abbrev pub RunEnds : {I D O P : Type 0} → ℕ → ℕ → Lane I D O P → Lane I D O P → Run → Type 0
RunEnds w i old new Left = IsLeft old new
RunEnds w i old new (Played next) = (i < next) × PlaysOn w i next old new
RunEnds w i old new Refused = StopsOn w i old new
