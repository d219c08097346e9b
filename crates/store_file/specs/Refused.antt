-- Why no store is opened over a file, and what that leaves.
use Rattle.std.specs.Prelude.{◌≡◌, ◌⊎◌, ℕ, nat_le, ◌<◌, ◌≤◌, Bool, true, false, ◌&&◌, List, length, Some, is_some, Result, IfErr, ⊤}
use Rattle.std.specs.Result.{IsErrAnd}
use Rattle.causes.specs.Causes.{Rose}
use Rattle.cell_format.specs.Spelling.{newest}
use Rattle.disk_trait.specs.Drive.{Drive, AttachedOne, AttachedAtMost, SameFile, Stays}
use Rattle.split_log.specs.LogView.{most_cells}
use Rattle.recovery.specs.declared.seen.OpenFault.{OpenFault}
use Rattle.recovery.specs.Calls.{StopsAtFault}
use Rattle.recovery.specs.Faults.{IsFault, IsInBytes}
use Rattle.recovery.specs.Opening.{HasNoLog, IsUntouched}
use Rattle.recovery.specs.Wanted.{MayTell}
use Rattle.store_file.specs.declared.faults.OpenCause.{OpenCause}
use Rattle.store_file.specs.declared.faults.OpenCause.TheVariants.{Bucket, Attach, Disk, Log, Memory}
use Rattle.store_file.specs.declared.faults.NotOpened.{NotOpened}
use Rattle.store_file.specs.Files.{CanOpen, KeepsFile, ShowsFault}

-- Whether a bucket may have this size.
abbrev pub is_bucket : ℕ → Bool
is_bucket bucket = nat_le 4 bucket && nat_le bucket 4096

-- A cause that the bytes don't decide: memory ran out, or the fault count rose.
abbrev pub IsFreeCause : Drive → Drive → OpenCause → Type 0
IsFreeCause old new cause = (cause ≡ Memory) ⊎ Rose old.faults new.faults

-- The causes of a drive that failed.
abbrev pub IsOfDrive : OpenCause → Type 0
IsOfDrive Bucket = ⊥
IsOfDrive Attach = ⊤
IsOfDrive Disk = ⊤
IsOfDrive (Log fault) = ⊥
IsOfDrive Memory = ⊥

-- A fault of a log that its bytes show. If the bytes of the drive are known, they are more than 17, and this is their
-- first fault.
pub record IsShown (w : ℕ) (drive : Drive) (fault : OpenFault) : Type 0 where
  pub in_bytes : IsInBytes fault
  pub may : MayTell newest (Some w) most_cells fault
  pub shows : (bytes : List ℕ) → drive.bytes ≡ Some bytes → (17 < length bytes) × IsFault newest (Some w) most_cells bytes fault

-- Why there is no store over a file, if the bucket size is allowed.
abbrev pub IsCause : ℕ → Drive → Drive → OpenCause → Type 0
IsCause w old new Bucket = ⊥
IsCause w old new Attach = Rose old.faults new.faults
IsCause w old new Disk = Rose old.faults new.faults
IsCause w old new (Log fault) = IsShown w old fault
IsCause w old new Memory = ⊤

-- Which file the drive has after a refusal. If this file wasn't attached, the drive has the file before, unchanged. If
-- the drive failed after that, or the bytes have a fault, it has this file. If memory ran out, it has either.
abbrev pub IsAttached : List ℕ → Drive → Drive → OpenCause → Type 0
IsAttached file old new Bucket = ⊥
IsAttached file old new Attach = SameFile old new × Stays old new
IsAttached file old new Disk = AttachedOne file true old new
IsAttached file old new (Log fault) = AttachedOne file true old new
IsAttached file old new Memory = AttachedAtMost file true old new

-- What a refusal leaves. At any moment a crash leaves what was in the file. A long file that is no log is unchanged.
-- The fault count rises only if the drive failed, and no device call follows one that failed. No other file was
-- attached.
pub record NotOpens (w : ℕ) (file : List ℕ) (old new : Drive) (cause : OpenCause) : Type 0 where
  pub why : IsCause w old new cause
  pub keeps : KeepsFile w old new
  pub untouched : (bytes : List ℕ) → old.bytes ≡ Some bytes → 17 < length bytes → HasNoLog w most_cells bytes → IsUntouched old new
  pub calm : (IsOfDrive cause → ⊥) → new.faults ≡ old.faults
  pub later : old.faults ≤ new.faults
  pub told : is_some new.bytes ≡ is_some old.bytes
  pub calls : StopsAtFault old new
  pub attached : IsAttached file old new cause

-- If the bucket size is wrong, the drive is unchanged. Otherwise the refusal leaves what `NotOpens` says.
abbrev pub RefusesStore : {D : Type 0} → (D → Drive) → ℕ → ℕ → List ℕ → D → D → OpenCause → Type 0
RefusesStore drive w bucket file disk back Bucket = (is_bucket bucket ≡ false) × (back ≡ disk)
RefusesStore drive w bucket file disk back Attach = (is_bucket bucket ≡ true) × NotOpens w file (drive disk) (drive back) Attach
RefusesStore drive w bucket file disk back Disk = (is_bucket bucket ≡ true) × NotOpens w file (drive disk) (drive back) Disk
RefusesStore drive w bucket file disk back (Log fault) = (is_bucket bucket ≡ true) × NotOpens w file (drive disk) (drive back) (Log fault)
RefusesStore drive w bucket file disk back Memory = (is_bucket bucket ≡ true) × NotOpens w file (drive disk) (drive back) Memory

-- When the opening of a file is refused, for which cause, and what that leaves. A bucket size that isn't allowed is always
-- refused, as `Bucket` (`bucket`). If the size is allowed, bytes that show a fault are refused for this fault, and bytes
-- that can be opened are not refused for their content (`exact`, `whole`). In both cases memory or the drive may refuse
-- too. `refused` says what each cause leaves.
pub record RefusesStoreExactly {A D : Type 0} (drive : D → Drive) (w size : ℕ) (file : List ℕ) (disk : D) (result : Result A (NotOpened D)) : Type 0 where
  pub refused : IfErr result (λ (e : NotOpened D). RefusesStore drive w size file disk e.disk e.cause)
  pub bucket : is_bucket size ≡ false → IsErrAnd result (λ (e : NotOpened D). e.cause ≡ Bucket)
  pub exact : (fault : OpenFault) → is_bucket size ≡ true → ShowsFault w (drive disk) fault
      → IsErrAnd result (λ (e : NotOpened D). (e.cause ≡ Log fault) ⊎ IsFreeCause (drive disk) (drive e.disk) e.cause)
  pub whole : is_bucket size ≡ true → CanOpen w (drive disk) → IfErr result (λ (e : NotOpened D). IsFreeCause (drive disk) (drive e.disk) e.cause)
