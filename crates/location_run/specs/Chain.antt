-- Runs one after the other: what a run leaves, or a crash in it, is a log over which the clauses of the next run say all.
use Rattle.std.specs.Prelude.{◌≡◌, ◌≢◌, ◌⊎◌, ℕ, ◌<◌, ◌≤◌, List, [], ◌++◌, length, take, Some, None}
use Rattle.causes.specs.Causes.{Rose}
use Rattle.zorder.specs.Width.{IsWidth}
use Rattle.cell_format.specs.declared.cell.Cell.{Cell}
use Rattle.plain_list.specs.declared.entries.Entry.{Entry}
use Rattle.disk_trait.specs.Drive.{Drive, IsSynced, Only}
use Rattle.disk_trait.specs.Moments.{LeavesNow, LeavesSince}
use Rattle.log_state.specs.Recovers.{Recovers, state_of}
use Rattle.log_state.specs.Changes.{cells_of, failed_cells, IsWhollyRecovered}
use Rattle.recovery.specs.Making.{IsSmall}
use Rattle.recovery.specs.Opening.{IsUntouched}
use Rattle.command_words.specs.Words.{Command, Init, Check, Play, Show, Trial, Compact, Watch, Follow, AsksFor}
use Rattle.run_ends.specs.Ends.{Ends, Done, Targets}
use Rattle.run_ends.specs.Limits.{most_inspected, most_played}
use Rattle.run_ends.specs.Status.{WritesLines}
use Rattle.log_run.specs.Checking.{FindsCells}
use Rattle.log_run.specs.Compacting.{RecoversFew, anew}
use Rattle.play_run.specs.Origin.{Origin, IsFoundOrigin, origin_of}
use Rattle.play_run.specs.Playing.{IsGoodLog}
use Rattle.play_run.specs.Standing.{IsStanding, HoldsLog}
use Rattle.follower.specs.Holding.{most_followed}
use Rattle.follower.specs.Opening.{IsTaken, most_held}
use Rattle.follow_run.specs.Leading.{FindsLeader, RecoversLeader}

-- a drive tells these bytes, and nothing is pending
pub record HoldsBytes (bytes : List ℕ) (drive : Drive) : Type 0 where
  pub told : drive.bytes ≡ Some bytes
  pub durable : Only bytes drive.images

-- bytes that a drive held with nothing pending are still held so, and a crash at any moment left them
pub record KeepsBytes (bytes : List ℕ) (old new : Drive) : Type 0 where
  pub any_moment : LeavesSince new old.clock (λ image. image ≡ bytes)
  pub holds : HoldsBytes bytes new

-- a drive tells the bytes of a log of these cells, of any version that is read
pub record TellsLog (w : ℕ) (cells : List Cell) (drive : Drive) : Type 0 where
  pub bytes : List ℕ
  pub told : drive.bytes ≡ Some bytes
  pub known : IsWidth w
  pub recovers : Recovers w cells bytes

-- Rows were played over a log that stood. A crash at any moment leaves the log of its cells and some of the history's, in order and none skipped.
-- The cell of a failed append may follow them all. With any status but 7 the run leaves the log of its cells and all of the history's. With any
-- status, the drive tells a log of those cells, to which that of the failed append may be added.
pub record GoesOn (w : ℕ) (cells : List Cell) (old new : Drive) (status : ℕ) (h : List Entry) : Type 0 where
  pub any_moment : (image : List ℕ) → new.since old.clock image
      → (m : ℕ) × IsStanding w (cells ++ take m (cells_of (state_of w cells).world h ++ failed_cells h)) image
  pub stands : status ≢ 7 → HoldsLog w (cells ++ cells_of (state_of w cells).world h) new
  pub held : (bytes : List ℕ) × (new.bytes ≡ Some bytes) × IsWhollyRecovered w cells (state_of w cells).world h bytes

-- a log that stood was only read: it still stands, with any status, and so it did at any moment
pub record StandsStill (w : ℕ) (cells : List Cell) (old new : Drive) : Type 0 where
  pub any_moment : LeavesSince new old.clock (IsStanding w cells)
  pub stands : HoldsLog w cells new

-- A drive was only read. So it holds a log that it held, of whatever version.
pub record OnlyReads (old new : Drive) : Type 0 where
  pub bytes : (bytes : List ℕ) → HoldsBytes bytes old → KeepsBytes bytes old new
  pub log : (w : ℕ) (cells : List Cell) → HoldsLog w cells old → StandsStill w cells old new

-- A log of no cells was made where the bytes were known. A crash at any moment leaves a small file if it did before, which is what making a log
-- requires. A file that wasn't small was only read.
pub record StartsLog (w : ℕ) (old new : Drive) (status : ℕ) : Type 0 where
  pub any_moment : LeavesNow old IsSmall → LeavesSince new old.clock IsSmall
  pub in_use : (bytes : List ℕ) → old.bytes ≡ Some bytes → 17 < length bytes → OnlyReads old new
  pub stands : WritesLines status → (bytes : List ℕ) → old.bytes ≡ Some bytes → HoldsLog w [] new

-- First cells of a leader were copied to a file whose bytes were known. With 0 and 6 such ones stand there, and with any other status but 7 they do,
-- or it is as it was. A crash at any moment leaves small bytes where it did before, or first cells of the leader standing, or, in a file that wasn't
-- small, what stood there.
pub record CopiesFirst (w : ℕ) (cells : List Cell) (old new : Drive) (status : ℕ) : Type 0 where
  pub small : LeavesNow old IsSmall → LeavesSince new old.clock (λ image. IsSmall image ⊎ ((m : ℕ) × IsStanding w (take m cells) image))
  pub stood : (v : ℕ) (own : List Cell) (there : HoldsLog v own old) → 17 < length there.bytes
      → LeavesSince new old.clock (λ image. IsStanding v own image ⊎ ((m : ℕ) × IsStanding w (take m cells) image))
  pub stands : WritesLines status → (m : ℕ) × HoldsLog w (take m cells) new
  pub stays : status ≢ 7 → ((m : ℕ) × HoldsLog w (take m cells) new) ⊎ IsUntouched old new

-- over whatever log stands on the drive
abbrev pub PlaysOn : Drive → Drive → ℕ → List Entry → Type 0
PlaysOn old new status h = (w : ℕ) (cells : List Cell) → HoldsLog w cells old → GoesOn w cells old new status h

-- These cells were written anew to a file whose bytes were known. With 0 and 6 they stand there, and a log that stood in a file that wasn't small
-- still does, with any status, and did at any moment. A crash at any moment leaves small bytes where it did before, or no cells standing, or all.
pub record WritesFresh (w : ℕ) (fresh : List Cell) (old new : Drive) (status : ℕ) : Type 0 where
  pub small : LeavesNow old IsSmall → LeavesSince new old.clock (λ image. IsSmall image ⊎ IsStanding w [] image ⊎ IsStanding w fresh image)
  pub in_use : (bytes : List ℕ) → old.bytes ≡ Some bytes → 17 < length bytes → OnlyReads old new
  pub stands : WritesLines status → HoldsLog w fresh new

-- if the first drive tells a log, what is left of its cells goes to the second, whose bytes were known
abbrev pub WritesNew : {D : Type 0} → Targets D → Targets D → ℕ → Type 0
WritesNew old new status = (w : ℕ) (cells : List Cell) (bytes : List ℕ) → TellsLog w cells old.drive → old.other_drive.bytes ≡ Some bytes
    → WritesFresh w (anew w (state_of w cells).world (state_of w cells).leaves) old.other_drive new.other_drive status

-- and its first cells are copied there
abbrev pub FollowsNew : {D : Type 0} → Targets D → Targets D → ℕ → Type 0
FollowsNew old new status = (w : ℕ) (cells : List Cell) (bytes : List ℕ) → TellsLog w cells old.drive → old.other_drive.bytes ≡ Some bytes
    → CopiesFirst w cells old.other_drive new.other_drive status

-- what each command leaves for the next
abbrev pub Leaves : {D : Type 0} → Command → Targets D → Targets D → ℕ → List Entry → Type 0
Leaves (Init file width) old new status h = StartsLog width old.drive new.drive status
Leaves (Check file) old new status h = OnlyReads old.drive new.drive
Leaves (Play None size) old new status h = OnlyReads old.drive new.drive
Leaves (Play (Some file) size) old new status h = PlaysOn old.drive new.drive status h
Leaves (Show file region) old new status h = OnlyReads old.drive new.drive
Leaves (Trial None made) old new status h = OnlyReads old.drive new.drive
Leaves (Trial (Some file) made) old new status h = PlaysOn old.drive new.drive status h
Leaves (Compact file name) old new status h = OnlyReads old.drive new.drive × WritesNew old new status
Leaves (Watch file) old new status h = OnlyReads old.drive new.drive
Leaves (Follow file name) old new status h = OnlyReads old.drive new.drive × FollowsNew old new status

-- What the records of the commands ask of a log on its drive. Where one stands it is so, and so each of their sentences speaks of its cells.
pub record Meets (w : ℕ) (cells : List Cell) (old new : Drive) : Type 0 where
  -- `play` and `trial`: nothing is pending, rows go on from these cells, and it is a good log
  pub settled : IsSynced old
  pub begins : (from : Origin) → IsFoundOrigin old from → from ≡ origin_of w cells
  pub good : length cells ≤ most_played → (Rose old.faults new.faults → ⊥) → IsGoodLog old new
  -- `check`, `show`, `watch` and `compact`: these cells are found, and no others
  pub finds : (v : ℕ) (own : List Cell) → FindsCells v old own → (v ≡ w) × (own ≡ cells)
  pub few : length cells ≤ most_inspected → RecoversFew old cells
  -- `follow` of these cells, and `follow` that goes on with them in a copy
  pub leads : (v : ℕ) (own : List Cell) → FindsLeader v old own → (v ≡ w) × (own ≡ cells)
  pub leading : length cells ≤ most_followed → RecoversLeader w cells old
  pub taken : (all : List Cell) (bytes : List ℕ) → old.bytes ≡ Some bytes → 17 < length bytes → length cells ≤ most_held
      → length cells ≤ length all → cells ≡ take (length cells) all → IsTaken w all bytes (length cells)

abbrev pub MeetsNext : Drive → Drive → Type 0
MeetsNext old new = (w : ℕ) (cells : List Cell) → HoldsLog w cells old → Meets w cells old new

-- a run in a chain: what it leaves for the next one, and what it finds of the one before
pub record Chains {D : Type 0} (c : Command) (old new : Targets D) (status : ℕ) (h : List Entry) : Type 0 where
  pub leaves : Leaves c old new status h
  pub meets : MeetsNext old.drive new.drive
  pub meets_other : MeetsNext old.other_drive new.other_drive

-- of the command that the words ask for
abbrev pub ChainsAsked : {S D : Type 0} → List (List ℕ) → Done (Ends S D) → Type 0
ChainsAsked words done = (c : Command) → AsksFor words c → Chains c done.old.to done.new.to done.status done.history
