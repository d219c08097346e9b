-- The command `init`.
use Rattle.std.specs.Prelude.{◌≡◌, ◌≢◌, ◌⊎◌, ◌<◌, ◌≤◌, ℕ, List, [], length, Some, None, true, ⊤}
use Rattle.causes.specs.Causes.{Rose}
use Rattle.disk_trait.specs.Drive.{Drive, Stays}
use Rattle.disk_trait.specs.Moments.{LeavesNow, LeavesOnly}
use Rattle.recovery.specs.LogText.{IsLog}
use Rattle.recovery.specs.Calls.{StopsAtFault}
use Rattle.recovery.specs.Making.{Makes, IsSmall}
use Rattle.recovery.specs.declared.seen.InitFault.{InitFault}
use Rattle.recovery.specs.declared.seen.InitFault.TheVariants as init_fault
use Rattle.io_edge.specs.Streams.{Output}
use Rattle.run_ends.specs.declared.refusals.Refusal.{Refusal}
use Rattle.run_ends.specs.declared.refusals.Refusal.TheVariants as refusal
use Rattle.run_ends.specs.LogLines.{made_line}
use Rattle.run_ends.specs.Ends.{Ends, Done, Targets, IsQuiet, IsUnread}
use Rattle.run_ends.specs.Ending.{EndsWriting, EndsRefused}
use Rattle.run_ends.specs.Status.{WritesLines}
use Rattle.run_ends.specs.Attaching.{AttachesOnce}

-- the refusal of a fault of making a log
abbrev pub making_refusal : InitFault → Refusal
making_refusal (init_fault.InUse len) = refusal.InUse len
making_refusal init_fault.Disk = refusal.Disk None

-- why no log was made: the drive failed, memory ran out, or the file has more than 17 bytes and is unchanged
abbrev pub IsMakingCause : Drive → Drive → Refusal → Type 0
IsMakingCause old new (refusal.Disk None) = Rose old.faults new.faults
IsMakingCause old new refusal.Memory = ⊤
IsMakingCause old new (refusal.InUse len) = (17 < len) × ((bytes : List ℕ) → old.bytes ≡ Some bytes → len ≡ length bytes) × Stays old new
IsMakingCause old new _ = ⊥

-- the log was made and the line written, or the line of a refusal was written
abbrev pub MakesOrRefuses : ℕ → Drive → Drive → ℕ → Output → Output → Type 0
MakesOrRefuses w old new status before after = (Makes w old new × EndsWriting made_line status before after) ⊎ EndsRefused (IsMakingCause old new) status before after

-- A small file has at most 17 bytes. If a crash left only small files before, it does so at each moment. A longer file
-- is unchanged. No device call was made after one that failed.
pub record LeavesFile (old new : Drive) : Type 0 where
  pub small : LeavesNow old IsSmall → LeavesOnly old new IsSmall
  pub in_use : (bytes : List ℕ) → old.bytes ≡ Some bytes → 17 < length bytes → Stays old new
  pub later : old.faults ≤ new.faults
  pub calls : StopsAtFault old new

-- A log without records and of this width was made, and the line written. Or the line of a refusal was written. A file
-- of more than 17 bytes is unchanged in each case.
pub record EndsMaking {D : Type 0} (file : List ℕ) (w : ℕ) (old new : Targets D) (status : ℕ) : Type 0 where
  pub ends : MakesOrRefuses w old.drive new.drive status old.output new.output
  -- status 10 says that the file has more than 17 bytes
  pub in_use : status ≡ 10 → (bytes : List ℕ) → old.drive.bytes ≡ Some bytes → 17 < length bytes
  -- a file of more than 17 bytes gives status 10, unless the drive failed or memory ran out
  pub exact : (bytes : List ℕ) → old.drive.bytes ≡ Some bytes → 17 < length bytes → (Rose old.drive.faults new.drive.faults → ⊥)
      → (status ≡ 10) ⊎ (status ≡ 9)
  -- a smaller file gives status 0, unless the drive or the sink failed or memory ran out
  pub whole : (bytes : List ℕ) → old.drive.bytes ≡ Some bytes → length bytes ≤ 17 → (Rose old.drive.faults new.drive.faults → ⊥)
      → (Rose old.output.faults new.output.faults → ⊥)
      → (status ≡ 0) ⊎ (status ≡ 9)
  pub leaves : LeavesFile old.drive new.drive
  -- if the line was written, or a prefix of it, the file is exactly that log, and a crash leaves it
  pub text : (bytes : List ℕ) → old.drive.bytes ≡ Some bytes → WritesLines status → IsLog w [] new.drive
  -- the fault count is unchanged, unless the status says that the drive failed
  pub calm : status ≢ 7 → new.drive.faults ≡ old.drive.faults
  -- this file was attached, and created if it wasn't there
  pub attached : AttachesOnce file true old.drive new.drive status

-- what `init` does with its sink and its drives
abbrev pub MakesLog : {D : Type 0} → List ℕ → ℕ → Done (Targets D) → Type 0
MakesLog file w done = IsQuiet (EndsMaking file w) done

-- what `init` promises
abbrev pub Inits : {S D : Type 0} → List ℕ → ℕ → Done (Ends S D) → Type 0
Inits file w done = IsUnread (MakesLog file w) done
