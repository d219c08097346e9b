-- What the log of a store keeps. A store may have no log.
use Rattle.std.specs.Prelude.{◌≡◌, ◌≢◌, ◌⊎◌, ℕ, ◌+◌, ◌≤◌, Bool, true, false, List, [], ◌∷◌, ◌++◌, length, replicate, Option, Some, None, is_some, ⊤}
use Rattle.causes.specs.Causes.{Rose}
use Rattle.cell_format.specs.declared.cell.Cell.{Cell}
use Rattle.plain_list.specs.declared.entries.Entry.{Entry}
use Rattle.plain_list.specs.declared.entries.Entry.TheVariants.{Fail}
use Rattle.plain_list.specs.declared.entries.Lost.{Lost}
use Rattle.plain_list.specs.World.{World}
use Rattle.plain_list.specs.State.{State, IsLegal, state_after}
use Rattle.plain_list.specs.Batch.{AreFailsOf}
pub use Rattle.plain_list.specs.History.{failed_cell}
use Rattle.disk_trait.specs.Drive.{Drive, Made, SameFile}
use Rattle.disk_trait.specs.Moments.{LeavesOnly, LeavesNow}
use Rattle.log_state.specs.Recovers.{Recovers}
use Rattle.log_state.specs.Changes.{cells_of, failed_cells, lost_cells}
use Rattle.recovery.specs.Calls.{AllWentWell, EndsAtFault}
use Rattle.kept_log.specs.KeptView.{KeptView, Earlier, kept_view}
use Rattle.kept_log.specs.Moved.{own_state, own_entries, own_view}
use Rattle.kept_log.specs.Kept.{StartsWith, RecoversTo, Keeps}
use Rattle.split_log.specs.LogView.{LogView, most_cells}
use Rattle.split_log.specs.Append.{calls_to_add}
use Rattle.kept_log.specs.declared.faults.AppendAllLost.{AppendAllLost}
use Rattle.kept_log.specs.declared.faults.AppendAllLost.TheVariants.{Disk, Memory}
use Rattle.kept_log.specs.Steps.{IsNext, AreNext, IsSince, IsMovedFrom}

-- The number of cells, those that wait included, or 0 without a log.
abbrev pub cells_in : {D : Type 0} → Option (KeptView D) → ℕ
cells_in None = 0
cells_in (Some log) = log.cells + length log.waiting

-- The number of cells in the file, or 0 without a log. The next cell that is written has this number.
abbrev pub written_in : {D : Type 0} → Option (KeptView D) → ℕ
written_in None = 0
written_in (Some log) = log.cells

-- The cells that wait.
abbrev pub waiting_in : {D : Type 0} → Option (KeptView D) → List Cell
waiting_in None = []
waiting_in (Some log) = log.waiting

-- Whether cells wait for a sync. Without a log none do.
abbrev pub at_sync_in : {D : Type 0} → Option (KeptView D) → Bool
at_sync_in None = false
at_sync_in (Some log) = log.at_sync

-- The log, whose cells wait from now on.
abbrev pub waits_from : {D : Type 0} → KeptView D → KeptView D
waits_from log = record log { at_sync = true }

-- Whether a fresh log may replace the log. Without a log none does.
abbrev pub moves_in : {D : Type 0} → Option (KeptView D) → Bool
moves_in None = false
moves_in (Some log) = log.moves

-- The log, which a fresh one may replace from now on.
abbrev pub moves_from : {D : Type 0} → KeptView D → KeptView D
moves_from log = record log { moves = true }

-- A fresh log that was opened on the drive `start`, in place of the log, after these entries. It takes `skipped` from the
-- numbers of splits.
abbrev pub moved_to : {D : Type 0} → List Entry → ℕ → LogView D → D → KeptView D → KeptView D
moved_to entries skipped fresh start log = record {
  disk = fresh.disk;
  cells = fresh.cells;
  failed = fresh.failed;
  start = log.start;
  first = log.first;
  waiting = [];
  at_sync = log.at_sync;
  moves = log.moves;
  earlier = Some (record { entries = entries; skipped = skipped; start = start; first = fresh.cells });
}

-- The number of the cell whose append failed.
abbrev pub failed_in : {D : Type 0} → Option (KeptView D) → Option ℕ
failed_in None = None
failed_in (Some log) = log.failed

-- The drive, if there is a log.
abbrev pub disk_in : {D : Type 0} → Option (KeptView D) → Option D
disk_in None = None
disk_in (Some log) = Some log.disk

-- The log as it is now, if there is one.
abbrev pub log_in : {D : Type 0} → Option (KeptView D) → Option (LogView D)
log_in None = None
log_in (Some log) = Some (kept_view log)

-- The log's file keeps the history. It has failed if and only if the history says so. The failed append names the log's
-- number of cells. The drive's count of faults has risen since the opening then, and no device call follows the one that
-- failed, unless the log was stopped, which only one can be that a fresh log may replace. Without a failed append no call of
-- the drive failed. The drive's file is still the one that was attached.
pub record KeepsLog {D : Type 0} (drive : D → Drive) (w : ℕ) (s : State) (h : List Entry) (log : KeptView D) : Type 0 where
  pub keeps : Keeps drive w s h log
  pub failed : log.failed ≡ failed_cell h
  pub named : (n : ℕ) → failed_cell h ≡ Some n → n ≡ log.cells
  pub most : log.cells ≤ most_cells
  pub later : (drive log.start).faults ≤ (drive log.disk).faults
  pub rose : log.moves ≡ false → is_some (failed_cell h) ≡ true → Rose (drive log.start).faults (drive log.disk).faults
  pub calm : failed_cell h ≡ None → (drive log.disk).faults ≡ (drive log.start).faults
  pub well : failed_cell h ≡ None → AllWentWell (drive log.start) (drive log.disk)
  pub stopped : log.moves ≡ false → is_some (failed_cell h) ≡ true → EndsAtFault (drive log.start) (drive log.disk)
  pub file : SameFile (drive log.start) (drive log.disk)
  -- The bytes are known if and only if they were at the opening. They recovered to cells that led to the state in which
  -- the history begins.
  pub told : is_some (drive log.disk).bytes ≡ is_some (drive log.start).bytes
  pub from : (bytes : List ℕ) → (drive log.start).bytes ≡ Some bytes → RecoversTo w s bytes

-- The cells that a failed append has lost, if these waited: they and the cells of the history's failed appends. A sync
-- has no cell of its own, so it has lost the waiting cells alone.
abbrev pub AreLost : List Cell → List Cell → List Cell → Type 0
AreLost waiting last lost = (lost ≡ waiting ++ last) ⊎ (lost ≡ waiting)

-- The log keeps the history, of which the last cells may wait. The file keeps a history with the cells before them. An
-- append fails in both or in none. The file's history has then lost the waiting cells too.
pub record KeepsWaiting {D : Type 0} (drive : D → Drive) (w : ℕ) (s : State) (h : List Entry) (log : KeptView D) : Type 0 where
  pub written : List Entry
  pub keeps : KeepsLog drive w s written log
  pub cells : cells_of s.world h ≡ cells_of s.world written ++ log.waiting
  pub failed : log.failed ≡ failed_cell h
  pub lost : is_some log.failed ≡ true → AreLost log.waiting (failed_cells h) (failed_cells written)
  -- If no cell waits for a sync, the file keeps all that the history says.
  pub at_once : log.at_sync ≡ false → (log.waiting ≡ []) × (failed_cells written ≡ failed_cells h)
  pub most : log.cells + length log.waiting ≤ most_cells

-- The log has replaced another one, when the history had these earlier entries. No append had failed then, and no split was
-- open. The log by itself keeps the entries that came after them.
pub record KeepsMoved {D : Type 0} (drive : D → Drive) (w : ℕ) (s : State) (h : List Entry) (e : Earlier D) (log : KeptView D) : Type 0 where
  pub moves : log.moves ≡ true
  pub after : List Entry
  pub parts : h ≡ e.entries ++ after
  pub rests : (state_after w s e.entries).splits ≡ []
  pub begun : e.skipped ≤ (state_after w s e.entries).begun
  pub sound : failed_cell e.entries ≡ None
  pub keeps : KeepsWaiting drive w (own_state w s e) (own_entries e after) (own_view e log)

-- The log keeps the history, after what came before it.
abbrev pub KeepsFrom : {D : Type 0} → (D → Drive) → ℕ → State → List Entry → KeptView D → Option (Earlier D) → Type 0
KeepsFrom drive w s h log None = KeepsWaiting drive w s h log
KeepsFrom drive w s h log (Some e) = KeepsMoved drive w s h e log

-- The log keeps the history, if there is one. Without a log, no append has failed.
abbrev pub KeepsIn : {D : Type 0} → (D → Drive) → ℕ → State → List Entry → Option (KeptView D) → Type 0
KeepsIn drive w s h None = failed_cell h ≡ None
KeepsIn drive w s h (Some log) = KeepsFrom drive w s h log log.earlier

-- Both come from the same opening, or there is no log.
abbrev pub IsSinceIn : {D : Type 0} → Option (KeptView D) → Option (KeptView D) → Type 0
IsSinceIn None None = ⊤
IsSinceIn (Some old) (Some new) = IsSince old new
IsSinceIn None (Some new) = ⊥
IsSinceIn (Some old) None = ⊥

-- Both come from the same first opening, or there is no log. A fresh log may have replaced the old one.
abbrev pub IsMovedFromIn : {D : Type 0} → Option (KeptView D) → Option (KeptView D) → Type 0
IsMovedFromIn None None = ⊤
IsMovedFromIn (Some old) (Some new) = IsMovedFrom old new
IsMovedFromIn None (Some new) = ⊥
IsMovedFromIn (Some old) None = ⊥

-- The fault count of the log's drive rose.
abbrev pub RoseIn : {D : Type 0} → (D → Drive) → Option (KeptView D) → Option (KeptView D) → Type 0
RoseIn drive None new = ⊥
RoseIn drive (Some old) None = ⊥
RoseIn drive (Some old) (Some new) = Rose (drive old.disk).faults (drive new.disk).faults

-- The calls of the log's drive in between had these results, if there is a log.
abbrev pub MadeIn : {D : Type 0} → (D → Drive) → List Bool → Option (KeptView D) → Option (KeptView D) → Type 0
MadeIn drive answers (Some old) (Some new) = Made answers (drive old.disk) (drive new.disk)
MadeIn drive answers _ _ = ⊤

-- The cell was added. If there is a log and no cell waits for a sync, four calls added it. The log keeps the history
-- with any entry that has this cell.
pub record Added {D : Type 0} (drive : D → Drive) (cell : Cell) (old new : Option (KeptView D)) : Type 0 where
  pub count : cells_in new ≤ cells_in old + 1
  pub calls : at_sync_in old ≡ false → MadeIn drive (replicate 4 true) old new
  pub keeps : (w : ℕ) (s : State) (h : List Entry) (e : Entry) → IsNext w s h e cell → KeepsIn drive w s h old → KeepsIn drive w s (h ++ e ∷ []) new

-- These are the history's cells that don't wait.
abbrev pub AreWritten : {D : Type 0} → State → List Entry → KeptView D → List Cell → Type 0
AreWritten s h log written = cells_of s.world h ≡ written ++ log.waiting

-- A claim about a log by itself: about the state in which it began, its own history, other entries as its cells tell
-- them, and the log before a call and after it.
abbrev pub Claim : Type 0 → Type 1
Claim D = State → List Entry → List Entry → KeptView D → KeptView D → Type 0

-- The claim holds of a log and the history from `s`, or of the log's own history, if it has replaced another log.
abbrev pub OfOwn : {D : Type 0} → ℕ → State → List Entry → List Entry → Claim D → KeptView D → KeptView D → Option (Earlier D) → Type 0
OfOwn w s h es Holds old new None = Holds s h es old new
OfOwn w s h es Holds old new (Some e) =
    (after : List Entry) → h ≡ e.entries ++ after → Holds (own_state w s e) (own_entries e after) (own_entries e es) (own_view e old) (own_view e new)

-- The same, if there is a log.
abbrev pub OfLog : {D : Type 0} → ℕ → State → List Entry → List Entry → Claim D → Option (KeptView D) → Option (KeptView D) → Type 0
OfLog w s h es Holds (Some old) (Some new) = OfOwn w s h es Holds old new old.earlier
OfLog w s h es Holds _ _ = ⊤

-- At every moment between the two, a crash leaves the first cells and the history's cells that didn't wait, and no
-- others. The claim needs known first cells.
abbrev pub OwnAlone : {D : Type 0} → (D → Drive) → ℕ → Claim D
OwnAlone drive w s h es old new =
    (first written : List Cell) → StartsWith w first (drive old.start) → AreWritten s h old written
    → LeavesOnly (drive old.disk) (drive new.disk) (Recovers w (first ++ written))

abbrev pub LeavesAlone : {D : Type 0} → (D → Drive) → ℕ → State → List Entry → Option (KeptView D) → Option (KeptView D) → Type 0
LeavesAlone drive w s h old new = OfLog w s h [] (OwnAlone drive w) old new

-- How an append stopped at a fault: up to three of its calls went well, the next one failed, and no call came after it.
-- If the first write or the first sync failed, no image has the new cell.
pub record BreaksIn {D : Type 0} (drive : D → Drive) (cell : Cell) (old new : Option (KeptView D)) : Type 0 where
  pub went_well : ℕ
  pub few : went_well ≤ 3
  pub calls : MadeIn drive (replicate went_well true ++ false ∷ []) old new
  pub unstaged : went_well ≤ 1 → (w : ℕ) (s : State) (h : List Entry) (e : Entry) → IsNext w s h e cell → KeepsIn drive w s h old → LeavesAlone drive w s h old new

-- A device call failed. The file may lack the cell and all that waited. The first of them has this number. The log keeps
-- the history that ends with this failed append, whatever entry it was for.
pub record Missed {D : Type 0} (drive : D → Drive) (cell : Cell) (number : ℕ) (old new : Option (KeptView D)) : Type 0 where
  pub named : number ≡ written_in old
  pub count : cells_in new ≡ cells_in old
  pub written : written_in new ≡ written_in old
  pub rose : RoseIn drive old new
  pub breaks : BreaksIn drive cell old new
  pub keeps : (w : ℕ) (s : State) (h : List Entry) (e : Entry) (lost : Lost) → IsNext w s h e cell → lost_cells lost ≡ cell ∷ []
      → KeepsIn drive w s h old → KeepsIn drive w s (h ++ Fail number lost ∷ []) new

-- The image recovers to the first cells and the written ones, or to the first cells and all cells of this history.
abbrev pub RecoversWith : ℕ → List Cell → List Cell → World → List Entry → List ℕ → Type 0
RecoversWith w first written world h image = Recovers w (first ++ written) image ⊎ Recovers w (first ++ cells_of world h) image

-- At every moment between the two, a crash leaves the history's cells that didn't wait, or all cells with those of all
-- entries of `es`. The claim needs known first cells.
abbrev pub OwnAllOrNone : {D : Type 0} → (D → Drive) → ℕ → Claim D
OwnAllOrNone drive w s h es old new =
    (first written : List Cell) → StartsWith w first (drive old.start) → AreWritten s h old written
    → LeavesOnly (drive old.disk) (drive new.disk) (RecoversWith w first written s.world (h ++ es))

abbrev pub LeavesAllOrNone : {D : Type 0} → (D → Drive) → ℕ → State → List Entry → List Entry → Option (KeptView D) → Option (KeptView D) → Type 0
LeavesAllOrNone drive w s h es old new = OfLog w s h es (OwnAllOrNone drive w) old new

-- The same of one entry.
abbrev pub LeavesEither : {D : Type 0} → (D → Drive) → ℕ → State → List Entry → Entry → Option (KeptView D) → Option (KeptView D) → Type 0
LeavesEither drive w s h e old new = LeavesAllOrNone drive w s h (e ∷ []) old new

-- `LeavesEither` holds of an append, for each history that the log keeps and each entry that has this cell.
abbrev pub LeavesNext : {D : Type 0} → (D → Drive) → Cell → Option (KeptView D) → Option (KeptView D) → Type 0
LeavesNext drive cell old new =
    (w : ℕ) (s : State) (h : List Entry) (e : Entry) → IsNext w s h e cell → KeepsIn drive w s h old → LeavesEither drive w s h e old new

-- `LeavesAllOrNone` holds of an append of cells, for each history that the log keeps and all entries that have these
-- cells.
abbrev pub LeavesNextAll : {D : Type 0} → (D → Drive) → List Cell → Option (KeptView D) → Option (KeptView D) → Type 0
LeavesNextAll drive more old new =
    (w : ℕ) (s : State) (h es : List Entry) → AreNext w s h es more → KeepsIn drive w s h old → LeavesAllOrNone drive w s h es old new

-- The cells were added. If there is a log and a cell, and no cell waits for a sync, four calls added them. The log keeps
-- the history with all entries that have these cells.
pub record AddedAll {D : Type 0} (drive : D → Drive) (more : List Cell) (old new : Option (KeptView D)) : Type 0 where
  pub count : cells_in new ≤ cells_in old + length more
  pub calls : at_sync_in old ≡ false → MadeIn drive (replicate (calls_to_add more) true) old new
  pub keeps : (w : ℕ) (s : State) (h es : List Entry) → AreNext w s h es more → KeepsIn drive w s h old → KeepsIn drive w s (h ++ es) new

-- How an append of cells stopped at a fault: up to three of its calls went well, the next one failed, and no call came
-- after it. If the first write or the first sync failed, no image has any of the new cells.
pub record AllBreakIn {D : Type 0} (drive : D → Drive) (more : List Cell) (old new : Option (KeptView D)) : Type 0 where
  pub went_well : ℕ
  pub few : went_well ≤ 3
  pub calls : MadeIn drive (replicate went_well true ++ false ∷ []) old new
  pub unstaged : went_well ≤ 1 → (w : ℕ) (s : State) (h es : List Entry) → AreNext w s h es more → KeepsIn drive w s h old → LeavesAlone drive w s h old new

-- A crash now leaves the history's cells that didn't wait, or all cells with those of all entries of `es`. The claim
-- needs known first cells.
abbrev pub OwnNowAllOrNone : {D : Type 0} → (D → Drive) → ℕ → Claim D
OwnNowAllOrNone drive w s h es old new =
    (first written : List Cell) → StartsWith w first (drive old.start) → AreWritten s h old written
    → LeavesNow (drive new.disk) (RecoversWith w first written s.world (h ++ es))

abbrev pub LeavesNowAllOrNone : {D : Type 0} → (D → Drive) → ℕ → State → List Entry → List Entry → Option (KeptView D) → Option (KeptView D) → Type 0
LeavesNowAllOrNone drive w s h es old new = OfLog w s h es (OwnNowAllOrNone drive w) old new

-- A device call failed while the cells were added. The file may lack them and all that waited. The first of them has
-- this number. The log takes no more cells. It keeps the history that ends with failed appends of this number which have
-- lost these cells.
pub record AllMissed {D : Type 0} (drive : D → Drive) (more : List Cell) (number : ℕ) (old new : Option (KeptView D)) : Type 0 where
  pub named : number ≡ written_in old
  pub count : cells_in new ≡ cells_in old
  pub written : written_in new ≡ written_in old
  pub closed : failed_in new ≡ Some number
  pub rose : RoseIn drive old new
  pub breaks : AllBreakIn drive more old new
  pub leaves : (w : ℕ) (s : State) (h es : List Entry) → AreNext w s h es more → KeepsIn drive w s h old → LeavesNowAllOrNone drive w s h es old new
  pub keeps : (w : ℕ) (s : State) (h es lost : List Entry) → AreNext w s h es more → AreFailsOf number lost → lost ≢ [] → failed_cells lost ≡ more
      → KeepsIn drive w s h old → KeepsIn drive w s (h ++ lost) new

-- Why the cells were not added: the drive failed, or there was no memory. Without memory nothing changed.
abbrev pub NotAdded : {D : Type 0} → (D → Drive) → List Cell → AppendAllLost → Option (KeptView D) → Option (KeptView D) → Type 0
NotAdded drive more (Disk number) old new = AllMissed drive more number old new
NotAdded drive more Memory old new = new ≡ old

-- All cells that waited are in the file now, by four calls if any did.
pub record Synced {D : Type 0} (drive : D → Drive) (old new : Option (KeptView D)) : Type 0 where
  pub none_wait : waiting_in new ≡ []
  pub count : cells_in new ≡ cells_in old
  pub calls : MadeIn drive (replicate (calls_to_add (waiting_in old)) true) old new
  pub keeps : (w : ℕ) (s : State) (h : List Entry) → IsLegal w s h → KeepsIn drive w s h old → KeepsIn drive w s h new

-- A device call failed while the cells that waited were written. The first of them has this number. The log takes no
-- more cells. It keeps the history that ends with a failed append of this number.
pub record NotSynced {D : Type 0} (drive : D → Drive) (number : ℕ) (old new : Option (KeptView D)) : Type 0 where
  pub named : number ≡ written_in old
  pub count : cells_in new ≡ cells_in old
  pub written : written_in new ≡ written_in old
  pub closed : failed_in new ≡ Some number
  pub rose : RoseIn drive old new
  pub keeps : (w : ℕ) (s : State) (h : List Entry) (lost : Lost) → IsLegal w s h → KeepsIn drive w s h old
      → KeepsIn drive w s (h ++ Fail number lost ∷ []) new

-- `LeavesAllOrNone` holds of a sync, for each history that the log keeps: a crash leaves the cells that didn't wait, or
-- all.
abbrev pub LeavesSynced : {D : Type 0} → (D → Drive) → Option (KeptView D) → Option (KeptView D) → Type 0
LeavesSynced drive old new = (w : ℕ) (s : State) (h : List Entry) → IsLegal w s h → KeepsIn drive w s h old → LeavesAllOrNone drive w s h [] old new

-- The log takes no more cells, and no device call was made. It keeps the history that ends with a failed append of this
-- number, if the append has lost no cell.
pub record Stops {D : Type 0} (drive : D → Drive) (number : ℕ) (old new : Option (KeptView D)) : Type 0 where
  pub named : number ≡ written_in old
  pub count : cells_in new ≡ cells_in old
  pub written : written_in new ≡ written_in old
  pub closed : failed_in new ≡ Some number
  pub disk : disk_in new ≡ disk_in old
  pub keeps : (w : ℕ) (s : State) (h : List Entry) (lost : Lost) → IsLegal w s h → lost_cells lost ≡ [] → KeepsIn drive w s h old
      → KeepsIn drive w s (h ++ Fail number lost ∷ []) new

-- The log was stopped with this number, if there is one.
abbrev pub StopsIn : {D : Type 0} → (D → Drive) → Option ℕ → Option (KeptView D) → Option (KeptView D) → Type 0
StopsIn drive None old new = (old ≡ None) × (new ≡ None)
StopsIn drive (Some number) old new = Stops drive number old new
