-- Books on which rows are played, and what they leave.
use Rattle.std.specs.Prelude.{◌≡◌, ◌⊎◌, ℕ, ◌≤◌, Bool, true, false, List, [], length, Option, Some, None, ⊤}
use Rattle.std.specs.Option.{option_map}
use Rattle.disk_trait.specs.Drive.{Drive, AttachedOne, SameFile, Stays}
use Rattle.plain_list.specs.declared.entries.Entry.{Entry}
use Rattle.plain_list.specs.State.{State}
use Rattle.plain_list.specs.World.{IsWorld}
use Rattle.recovery.specs.declared.seen.OpenFault.{OpenFault}
use Rattle.recovery.specs.declared.seen.Seen.{Seen}
use Rattle.recovery.specs.Faults.{IsInBytes, IsFault}
use Rattle.recovery.specs.Found.{IsFound}
use Rattle.recovery.specs.Opening.{KeepsCells}
use Rattle.zorder.specs.Width.{IsWidth}
use Rattle.kept_log.specs.Kept.{IsOpened, found_state}
use Rattle.kept_log.specs.KeptView.{KeptView}
use Rattle.kept_log.specs.Journal.{cells_in, disk_in, moves_in, KeepsIn}
use Rattle.commit_book.specs.BookView.{BookView}
use Rattle.kept_log.specs.Counts.{first_in}
use Rattle.sessions.specs.Shared.{StartsAs}
use Rattle.run_ends.specs.declared.refusals.Refusal.{Refusal}
use Rattle.run_ends.specs.declared.refusals.Refusal.TheVariants as refusal
use Rattle.run_ends.specs.Limits.{oldest_played, most_played}
use Rattle.plain_list.specs.declared.entries.Lost.{Lost}
use Rattle.plain_list.specs.History.{failed_cell}
use Rattle.lane_history.specs.LostSteps.{LosesStep}
use Rattle.play_run.specs.Origin.{Origin, IsFoundOrigin}

-- why rows on a book stop: memory ran out, or the append of a record failed
abbrev pub StopsBook : (List Entry → Lost → Type 0) → List Entry → Refusal → Type 0
StopsBook Step h why = ((why ≡ refusal.Memory) × (failed_cell h ≡ None)) ⊎ ((cell : ℕ) × (why ≡ refusal.Disk (Some cell)) × LosesStep Step h cell)

-- a book of a world, without entries, that has room for rows and keeps the list of its entries; no fresh log may replace
-- its log
pub record IsNewBook {D : Type 0} (b : BookView D) : Type 0 where
  pub entries : b.entries ≡ []
  pub few : cells_in b.log ≤ most_played
  pub world : IsWorld b.opening.world
  pub kept : b.kept ≡ true
  pub still : moves_in b.log ≡ false

-- the bytes, images, clock, fault count and file are those of the drive on which a log was opened
pub record IsLike (old new : Drive) : Type 0 where
  pub stays : Stays old new
  pub calm : new.faults ≡ old.faults
  pub file : SameFile old new

-- whether a book has no log
abbrev pub is_unlogged : {D : Type 0} → Option (KeptView D) → Type 0
is_unlogged None = ⊤
is_unlogged (Some log) = ⊥

abbrev pub is_opened : {D : Type 0} → (D → Drive) → Option (KeptView D) → Drive → Bool → Bool → Type 0
is_opened drive None start waits moves = ⊥
is_opened drive (Some log) start waits moves = IsLike (drive log.start) start × (waits ≡ log.at_sync) × (moves ≡ log.moves)

-- neither book has a log, or the log of the new one was opened on a drive like that of the old one and is written in the
-- same way, and a fresh log may replace both or neither
abbrev pub BeginsAs : {D : Type 0} → (D → Drive) → Option (KeptView D) → Option (KeptView D) → Type 0
BeginsAs drive old new = StartsAs drive (is_unlogged old) (is_opened drive old) new

-- the log that a book leaves keeps the history since the book began, and this is its drive
pub record LeavesLog {D : Type 0} (drive : D → Drive) (w : ℕ) (s : State) (h : List Entry) (old : Option (KeptView D)) (disk : Option D) : Type 0 where
  pub log : Option (KeptView D)
  pub begins : BeginsAs drive old log
  pub first : first_in log ≡ first_in old
  pub keeps : KeepsIn drive w s h log
  pub disk_is : disk ≡ disk_in log

-- the log of this width was opened as it was after the attach, with what was found in it, and its bytes have no fault
pub record OpensFile (file : List ℕ) (old start now : Drive) (w : ℕ) (seen : Seen) : Type 0 where
  pub known : IsWidth w
  pub found : IsFound oldest_played w most_played start seen
  pub ready : IsOpened w (found_state seen) start now
  pub stays : Stays old start
  pub calm : start.faults ≡ old.faults
  pub attached : AttachedOne file false old start
  pub keeps : KeepsCells w old now
  pub shows : (bytes : List ℕ) (fault : OpenFault) → old.bytes ≡ Some bytes → IsInBytes fault → IsFault oldest_played None most_played bytes fault → ⊥

-- each record of the log is written at once, no fresh log may replace it, and it has replaced none
pub record IsPlain {D : Type 0} (log : KeptView D) : Type 0 where
  pub once : log.at_sync ≡ false
  pub still : log.moves ≡ false
  pub whole : log.earlier ≡ None

-- a book of this width on the log that stood on a drive, whose bytes have no fault
pub record OpensBook {D : Type 0} (drive : D → Drive) (file : List ℕ) (old : Drive) (w size : ℕ) (b : BookView D) : Type 0 where
  pub bucket : b.bucket ≡ size
  pub log : KeptView D
  pub log_is : b.log ≡ Some log
  pub plain : IsPlain log
  pub from : Origin
  pub found : IsFoundOrigin old from
  pub width : from.width ≡ w
  pub state : b.opening ≡ from.state
  pub count : first_in b.log ≡ option_map length from.first
  pub stays : Stays old (drive log.start)
  pub calm : (drive log.start).faults ≡ old.faults
  pub attached : AttachedOne file false old (drive log.start)
  pub shows : (bytes : List ℕ) (fault : OpenFault) → old.bytes ≡ Some bytes → IsInBytes fault → IsFault oldest_played None most_played bytes fault → ⊥
