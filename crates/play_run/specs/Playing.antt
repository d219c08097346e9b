-- The command `play`, and what happens to rows that are played.
use Rattle.std.specs.Prelude.{◌≡◌, ◌≢◌, ◌⊎◌, ℕ, ◌+◌, ◌≤◌, false, List, [], length, slice_index, Option, Some, None, is_some, Ok, Err, ⊤}
use Rattle.std.specs.Option.{option_map}
use Rattle.causes.specs.Causes.{Rose}
use Rattle.disk_trait.specs.Drive.{Drive, AttachedOne}
use Rattle.plain_list.specs.declared.entries.Entry.{Entry}
use Rattle.plain_list.specs.History.{failed_cell}
use Rattle.cell_format.specs.declared.cell.Cell.{Cell}
use Rattle.cell_format.specs.Spelling.{newest}
use Rattle.recovery.specs.declared.seen.OpenFault.{OpenFault}
use Rattle.log_state.specs.Recovers.{Recovers}
use Rattle.recovery.specs.Faults.{IsInBytes, IsFault}
use Rattle.zorder.specs.Width.{IsWidth}
use Rattle.recovery.specs.Widths.{HasWidth}
use Rattle.recovery.specs.Calls.{StopsAtFault}
use Rattle.recovery.specs.Opening.{KeepsCells, KeepsNewest, HasNoLog, IsUntouched}
use Rattle.csv_rows.specs.declared.rows.InRow.{InRow}
use Rattle.run_ends.specs.declared.refusals.Refusal.{Refusal}
use Rattle.run_ends.specs.declared.refusals.Refusal.TheVariants as refusal
use Rattle.run_ends.specs.Limits.{most_bytes, oldest_played, most_played}
use Rattle.io_edge.specs.Streams.{Input, Output}
use Rattle.io_edge.specs.Reads.{ConsumesUpTo}
use Rattle.run_ends.specs.Ends.{Ends, Done, Targets}
use Rattle.run_ends.specs.Judged.{judged}
use Rattle.run_ends.specs.Status.{status_of, WritesLines}
use Rattle.run_ends.specs.Ending.{EndsRefused}
use Rattle.run_ends.specs.Attaching.{AttachesOnce}
use Rattle.run_ends.specs.LogFaults.{IsReadingCause, log_refusal}
use Rattle.run_ends.specs.Inputs.{IsInputCause, ReadsInput}
use Rattle.play_run.specs.Origin.{Origin, IsOrigin}
use Rattle.lane_history.specs.LostSteps.{IsNextStep, LosesStep}
use Rattle.play_run.specs.declared.reports.Report.{Report}
use Rattle.play_run.specs.declared.reports.Report.TheVariants as reports
use Rattle.play_run.specs.Answers.{AnswersAsOneList}
use Rattle.kept_log.specs.Counts.{count_after}
use Rattle.lane_history.specs.Settled.{SplitsAreDone, IsWithinLimits}
use Rattle.play_run.specs.Crash.{KeepsPlayed, KeepsText}
use Rattle.play_run.specs.Standing.{HoldsLog}

-- the drive's bytes recover to at most 16,000,000 records, with either width and the newest version, and the drive
-- didn't fail
pub record IsGoodLog (old new : Drive) : Type 0 where
  pub bytes : List ℕ
  pub told : old.bytes ≡ Some bytes
  pub width : ℕ
  pub known : IsWidth width
  pub first : List Cell
  pub recovers : Recovers width first bytes
  pub version : slice_index bytes 8 ≡ newest
  pub few : length first ≤ most_played
  pub calm : Rose old.faults new.faults → ⊥

-- Why a log was not opened, and what the refused opening left. No device call was made after one that failed.
pub record IsNotOpened (file : List ℕ) (old new : Drive) (why : Refusal) : Type 0 where
  pub cause : IsReadingCause oldest_played most_played old new why
  -- a fault of the known bytes is the one that is reported, unless the drive failed or memory ran out
  pub exact : (bytes : List ℕ) (fault : OpenFault) → old.bytes ≡ Some bytes → IsInBytes fault → IsFault oldest_played None most_played bytes fault → (Rose old.faults new.faults → ⊥)
      → (why ≡ log_refusal fault) ⊎ (why ≡ refusal.Memory)
  -- a good log is refused only if memory ran out
  pub whole : IsGoodLog old new → why ≡ refusal.Memory
  -- the records of a log of this width are what a crash leaves at each moment, if a crash left them before
  pub keeps : (w : ℕ) (bytes : List ℕ) → old.bytes ≡ Some bytes → HasWidth w bytes → KeepsCells w old new
  -- a file that has no such log, as one of an older version, is unchanged at each moment
  pub untouched : (bytes : List ℕ) → old.bytes ≡ Some bytes → ((w : ℕ) → IsWidth w → HasNoLog w most_played bytes) → IsUntouched old new
  -- unless the drive failed, a log that stood on it still does; each crash image keeps the newest version
  pub stands : why ≢ refusal.Disk None → (w : ℕ) (cells : List Cell) → HoldsLog w cells old → HoldsLog w cells new
  pub newest : KeepsNewest old new
  -- bytes that were known still are
  pub told : is_some new.bytes ≡ is_some old.bytes
  -- the fault count is unchanged, unless the refusal says that the drive failed
  pub calm : why ≢ refusal.Disk None → new.faults ≡ old.faults
  pub calls : StopsAtFault old new
  -- the file was attached, and not created
  pub attached : AttachesOnce file false old new (status_of why)

-- why there is no book for the rows: without a log, memory ran out and the drive is unchanged; with one, it was not
-- opened
abbrev pub HasNoBook : {D : Type 0} → Option (List ℕ) → Targets D → Targets D → Refusal → Type 0
HasNoBook None old new why = (why ≡ refusal.Memory) × (new.disk ≡ old.disk)
HasNoBook (Some file) old new why = IsNotOpened file old.drive new.drive why

-- there is no book for the rows, so no row was called
pub record IsLogUnopened {D : Type 0} (log : Option (List ℕ)) (old new : Targets D) (status : ℕ) (h : List Entry) : Type 0 where
  pub none : h ≡ []
  pub refused : EndsRefused (HasNoBook log old new) status old.output new.output

-- The append of a record failed. The history ends with the failure and the lost step, the record's number is the log's
-- number of records, and the drive's fault count rose.
pub record AppendFailed (from : Origin) (rows : List InRow) (old new : Drive) (h : List Entry) (cell : ℕ) : Type 0 where
  pub loses : LosesStep (IsNextStep from.width from.state rows) h cell
  pub number : cell ≡ count_after (option_map length from.first) from.state.world h
  pub rose : Rose old.faults new.faults

-- without a log no append fails
abbrev pub FailsAt : Option (List ℕ) → Origin → List InRow → Drive → Drive → List Entry → ℕ → Type 0
FailsAt None from rows old new h cell = ⊥
FailsAt (Some file) from rows old new h cell = AppendFailed from rows old new h cell

-- why rows stop: memory ran out and no append failed, or an append failed
abbrev pub IsStop : Option (List ℕ) → Origin → List InRow → Drive → Drive → List Entry → Refusal → Type 0
IsStop log from rows old new h refusal.Memory = failed_cell h ≡ None
IsStop log from rows old new h (refusal.Disk (Some cell)) = FailsAt log from rows old new h cell
IsStop log from rows old new h _ = ⊥

-- how rows end: with all lines, with a fault of the sink, or with the line of a refusal
abbrev pub EndsRows : (Refusal → Type 0) → ℕ → Output → Output → Type 0
EndsRows Cause status old new = ((status ≡ 0) × (new.faults ≡ old.faults)) ⊎ (((status ≡ 6) × Rose old.faults new.faults) ⊎ EndsRefused Cause status old new)

-- without a log the drive is unchanged; with one, its bytes have no fault
abbrev pub HasBook : {D : Type 0} → Option (List ℕ) → Targets D → Targets D → Type 0
HasBook None old new = new.disk ≡ old.disk
HasBook (Some file) old new = (bytes : List ℕ) (fault : OpenFault) → old.drive.bytes ≡ Some bytes → IsInBytes fault → IsFault oldest_played None most_played bytes fault → ⊥

-- the file of the log was attached once, and not created
abbrev pub IsAttached : Option (List ℕ) → Drive → Drive → Type 0
IsAttached None old new = ⊤
IsAttached (Some file) old new = AttachedOne file false old new

-- The rows were played, all of them or until a refusal. Each field is about the one history `h`.
pub record IsAnswered {D : Type 0} (report : Report) (log : Option (List ℕ)) (size : ℕ) (rows : List InRow) (old new : Targets D) (status : ℕ) (h : List Entry) : Type 0 where
  pub from : Origin
  -- without a log the rows begin with no objects, and else with the state of the log's records
  pub begins : IsOrigin log old.drive from
  pub book : HasBook log old new
  -- the history is legal, and each line has the answer of one plain list of objects
  pub one_list : AnswersAsOneList report from.width from.state rows h status old.output new.output
  -- all lines are written, or the sink failed, or memory ran out, or an append failed
  pub ends : EndsRows (IsStop log from rows old.drive new.drive h) status old.output new.output
  -- if lines are written, no split is open, and no leaf is over the size while there is room
  pub splits : WritesLines status → SplitsAreDone from.width size from.state (option_map length from.first) h
  -- however the rows end, the history and the log stay below their limits
  pub limits : IsWithinLimits from.width size from.state (option_map length from.first) rows h
  -- a crash at any moment leaves the first records and a prefix of the history's, with no gap
  pub crash : KeepsPlayed from old.drive new.drive status h
  -- unless the drive stopped the run, the log has exactly the first records and the history's
  pub text : KeepsText from old.drive new.drive status h
  -- bytes that were known still are, with any status
  pub told : is_some new.drive.bytes ≡ is_some old.drive.bytes
  -- no device call was made after one that failed
  pub calls : StopsAtFault old.drive new.drive
  -- the drive's fault count rises only with status 7
  pub calm : status ≢ 7 → new.drive.faults ≡ old.drive.faults
  pub attached : IsAttached log old.drive new.drive

-- what happens to rows that were read: there is no book for them, or they are played
abbrev pub PlaysRows : {D : Type 0} → Report → Option (List ℕ) → ℕ → List InRow → Targets D → Targets D → ℕ → List Entry → Type 0
PlaysRows report log size rows old new status h = IsLogUnopened log old new status h ⊎ IsAnswered report log size rows old new status h

-- The source gave no rows. No row was called, the drive is unchanged, and so is the source's fault count unless the
-- source failed. At most one byte beyond the limit was taken from the source.
pub record IsInputUnread {D : Type 0} (before after : Input) (old new : Targets D) (status : ℕ) (h : List Entry) : Type 0 where
  pub none : h ≡ []
  pub disk : new.disk ≡ old.disk
  pub calm : status ≢ 5 → after.faults ≡ before.faults
  pub refused : EndsRefused (IsInputCause before after) status old.output new.output
  pub taken : ConsumesUpTo (most_bytes + 1) before.left after.left

-- all bytes of the source were read, and their rows were played
pub record IsRead {D : Type 0} (log : Option (List ℕ)) (size : ℕ) (before after : Input) (old new : Targets D) (status : ℕ) (h : List Entry) : Type 0 where
  pub rows : List InRow
  pub read : ReadsInput before after rows
  pub plays : PlaysRows reports.Lines log size rows old new status h

-- what a play does with its source, its sink and its drives
abbrev pub Goes : {D : Type 0} → Option (List ℕ) → ℕ → Input → Input → Targets D → Targets D → ℕ → List Entry → Type 0
Goes log size before after old new status h = IsInputUnread before after old new status h ⊎ IsRead log size before after old new status h

-- a fault of a log's bytes gives the status of its refusal, unless the drive failed or memory ran out
abbrev pub FollowsLog : Option (List ℕ) → Drive → Drive → ℕ → Type 0
FollowsLog None old new status = ⊤
FollowsLog (Some file) old new status = (bytes : List ℕ) (fault : OpenFault) → old.bytes ≡ Some bytes → IsInBytes fault → IsFault oldest_played None most_played bytes fault → (Rose old.faults new.faults → ⊥)
    → (status ≡ status_of (log_refusal fault)) ⊎ (status ≡ 9)

-- there is no log, or a good one
abbrev pub IsGood : Option (List ℕ) → Drive → Drive → Type 0
IsGood None old new = ⊤
IsGood (Some file) old new = IsGoodLog old new

-- What `play` promises.
pub record Plays {S D : Type 0} (log : Option (List ℕ)) (size : ℕ) (done : Done (Ends S D)) : Type 0 where
  -- what happened to the source, the rows and the log
  pub goes : Goes log size done.old.input done.new.input done.old.to done.new.to done.status done.history
  -- the second drive is unchanged
  pub other : done.new.to.other ≡ done.old.to.other
  -- wrong input gives its refusal's status, unless the source failed or memory ran out
  pub input : (bytes : List ℕ) (why : Refusal) → done.old.input.left ≡ Some bytes → judged bytes ≡ Err why → (done.status ≡ status_of why) ⊎ ((done.status ≡ 5) ⊎ (done.status ≡ 9))
  -- good input and a bad log give the log's status, unless a drive or the source failed or memory ran out
  pub follows : (bytes : List ℕ) (rows : List InRow) → done.old.input.left ≡ Some bytes → judged bytes ≡ Ok rows → (Rose done.old.input.faults done.new.input.faults → ⊥)
      → FollowsLog log done.old.to.drive done.new.to.drive done.status
  -- good input and a good log, or none, give all lines if nothing failed, unless memory ran out
  pub complete : (bytes : List ℕ) (rows : List InRow) → done.old.input.left ≡ Some bytes → judged bytes ≡ Ok rows → (Rose done.old.input.faults done.new.input.faults → ⊥)
      → (Rose done.old.to.output.faults done.new.to.output.faults → ⊥) → IsGood log done.old.to.drive done.new.to.drive → (done.status ≡ 0) ⊎ (done.status ≡ 9)
