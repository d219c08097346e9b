-- What lanes kept for the rows of their sessions, and books on which rows were played.
use Rattle.std.specs.Prelude.{◌≡◌, ◌⊎◌, ℕ, ◌<◌, length, get_or, ◌==◌, Bool, true, List, [], ◌∷◌, map, if◌then◌else◌, Option, Some, None}
use Rattle.plain_list.specs.declared.ops.Op.{Op}
use Rattle.plain_list.specs.declared.entries.Entry.{Entry}
use Rattle.plain_list.specs.Played.{IsPlayed, IsPlayedWhole}
use Rattle.plain_list.specs.World.{World, places_of, IsWorld}
use Rattle.plain_list.specs.History.{world_after, failed_cell}
use Rattle.index_layer.specs.Leaves.{Leaf}
use Rattle.index_layer.specs.Stands.{Stands}
use Rattle.csv_rows.specs.declared.rows.InRow.{InRow}
use Rattle.commit_book.specs.BookView.{BookView}
use Rattle.kept_log.specs.Counts.{first_in}
use Rattle.sessions.specs.declared.store.lanes.KeptRow.{KeptRow}
use Rattle.lane_history.specs.SessionRows.{session_rows}
use Rattle.lane_history.specs.Kept.{AreRight}
use Rattle.lane_history.specs.LostSteps.{IsNextStep, LosesStep}
use Rattle.lane_history.specs.Settled.{SplitsAreDone, IsWithinLimits}
use Rattle.io_edge.specs.Streams.{Output}
use Rattle.run_ends.specs.declared.refusals.Refusal.TheVariants as refusal
use Rattle.play_run.specs.declared.reports.Report.{Report}
use Rattle.play_run.specs.Lines.{text_of}
use Rattle.run_ends.specs.Taking.{Refuses}
use Rattle.run_ends.specs.Ending.{EndsWriting}
use Rattle.play_run.specs.declared.lanes.LaneEnd.{LaneEnd}

-- what the first lane of this session kept
abbrev pub kept_of : ℕ → List LaneEnd → List KeptRow
kept_of s [] = []
kept_of s (end ∷ ends) = if end.session == s then end.kept.items else kept_of s ends

-- at each index below n is what the lane of the session with that number kept
pub record HasLanes {V : Type 0} (kept : V → List KeptRow) (ends : List LaneEnd) (n : ℕ) (lanes : List V) : Type 0 where
  pub size : length lanes ≡ 17
  pub each : (s : ℕ) (d : V) → s < n → kept (get_or lanes s d) ≡ kept_of s ends

-- the kept rows have the numbers of a session's rows, and the places and answers of the history
pub record AreAnswers (world : World) (h : List Entry) (rows : List (ℕ × Op)) (kept : List KeptRow) : Type 0 where
  pub numbers : map (λ (k : KeptRow). k.row) kept ≡ map (λ (r : ℕ × Op). r.0) rows
  pub right : AreRight world h kept

-- the lane of each session kept exactly the rows of its session, by their numbers
abbrev pub HasNumbers : List InRow → List LaneEnd → Type 0
HasNumbers rows ends = (s : ℕ) → map (λ (k : KeptRow). k.row) (kept_of s ends) ≡ map (λ (r : ℕ × Op). r.0) (session_rows rows s)

-- the kept rows of each session are the answers to its rows
abbrev pub HasAnswers : World → List Entry → List InRow → List LaneEnd → Type 0
HasAnswers world h rows ends = (s : ℕ) → AreAnswers world h (session_rows rows s) (kept_of s ends)

-- rows were played on a book, which has the list of its entries
pub record IsPlayedBook {D : Type 0} (w : ℕ) (rows : List InRow) (old new : BookView D) : Type 0 where
  pub opening : new.opening ≡ old.opening
  pub first : first_in new.log ≡ first_in old.log
  pub played : IsPlayed (session_rows rows) new.entries
  pub loses : (cell : ℕ) → failed_cell new.entries ≡ Some cell → LosesStep (IsNextStep w old.opening rows) new.entries cell
  pub limits : IsWithinLimits w old.bucket old.opening (first_in old.log) rows new.entries
  pub kept : new.kept ≡ true

-- each row was answered, and the splits at the end were settled
pub record IsAnsweredBook {D : Type 0} (w : ℕ) (rows : List InRow) (old new : BookView D) (ends : List LaneEnd) : Type 0 where
  pub whole : IsPlayedWhole (session_rows rows) new.entries
  pub answers : HasAnswers old.opening.world new.entries rows ends
  pub settled : failed_cell new.entries ≡ None → SplitsAreDone w old.bucket old.opening (first_in old.log) new.entries

-- the leaves stand for these objects
pub record HasObjects (leaves : List Leaf) (world : World) : Type 0 where
  pub is_world : IsWorld world
  pub names : List (List Bool)
  pub stands : Stands leaves (places_of world) names

-- The text was written from a history that gives the kept rows their answers. The leaves stand for its objects at the
-- end.
pub record WritesText (report : Report) (rows : List InRow) (leaves : List Leaf) (ends : Option (List LaneEnd)) (status : ℕ) (old new : Output) : Type 0 where
  pub some : List LaneEnd
  pub ends_are : ends ≡ Some some
  pub writes : (world : World) (h : List Entry) → HasAnswers world h rows some → HasObjects leaves (world_after world h) → EndsWriting (text_of report rows world h) status old new

-- how played rows end: an append failed, memory ran out, or the text was written
abbrev pub EndsPlay : Report → List InRow → Option ℕ → List Leaf → Option (List LaneEnd) → ℕ → Output → Output → Type 0
EndsPlay report rows failed leaves ends status old new =
    ((cell : ℕ) × (failed ≡ Some cell) × Refuses (refusal.Disk (Some cell)) status old new)
    ⊎ (((failed ≡ None) × Refuses refusal.Memory status old new)
    ⊎ ((failed ≡ None) × WritesText report rows leaves ends status old new))
