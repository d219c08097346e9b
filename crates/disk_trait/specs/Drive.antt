-- A drive with one file, and what its calls do to it. A crash image is what the file may hold after a crash.
use Rattle.std.specs.Prelude.{◌≡◌, ◌⊎◌, ℕ, Bool, true, false, ◌+◌, ◌-◌, ◌≤◌, min, max, List, [], ◌∷◌, ◌++◌, length, take, drop, replicate, Option, Some, is_some, Result, is_ok, OnOk, OnErr, IsErrOf, IfOk}
use Rattle.causes.specs.Causes.{Rose}
use Rattle.disk_trait.specs.declared.disk.AttachFault.{AttachFault}
use Rattle.disk_trait.specs.declared.disk.AttachFault.TheVariants.{Disk, Memory}
use Rattle.disk_trait.specs.declared.disk.DiskFault.{DiskFault}

-- an attach that returned Ok: the name, and whether it might create the file
pub record Attach : Type 0 where
  pub name : List ℕ
  pub make : Bool

-- What is known of a drive. `bytes` is what a read returns, or None if the content isn't known. `images` has the files
-- that a crash now may leave. `clock` numbers the moments. `since` has the files that a crash at some moment from an
-- earlier one on may have left. `faults` counts how often the drive failed. `calls` has the result of each write, cut
-- and sync so far, in order, true for Ok, or None if the drive keeps no such list. `attaches` has each attach that
-- returned Ok, in order, or None if the drive keeps no such list. The last one is of its file.
pub record Drive : Type 1 where
  pub bytes : Option (List ℕ)
  pub images : List ℕ → Type 0
  pub clock : ℕ
  pub since : ℕ → List ℕ → Type 0
  pub faults : ℕ
  pub calls : Option (List Bool)
  pub attaches : Option (List Attach)

-- new is old with the piece written at `at`
abbrev pub Holds : List ℕ → ℕ → List ℕ → List ℕ → Type 0
Holds old at piece new = new ≡ take at old ++ piece ++ drop (at + length piece) old

-- any bytes in the range of a write, the old bytes elsewhere, and any length from the old one to that after the write
pub record Torn (at n : ℕ) (old new : List ℕ) : Type 0 where
  pub before : take at new ≡ take at old
  pub after : drop (at + n) new ≡ drop (at + n) old
  pub no_shorter : length old ≤ length new
  pub no_longer : length new ≤ max (length old) (at + n)

-- the old bytes before a cut, any bytes after it, and any length from the old one down to that of the cut
pub record Shortened (n : ℕ) (old new : List ℕ) : Type 0 where
  pub before : take n new ≡ take n old
  pub no_shorter : min n (length old) ≤ length new
  pub no_longer : length new ≤ length old

-- each new image is an old image after the step
abbrev pub Follows : (List ℕ → List ℕ → Type 0) → (List ℕ → Type 0) → (List ℕ → Type 0) → Type 0
Follows step old new = (c : List ℕ) → new c → (d : List ℕ) × old d × step d c

-- a crash leaves these bytes and nothing else
abbrev pub Only : List ℕ → (List ℕ → Type 0) → Type 0
Only bytes images = (c : List ℕ) → images c → c ≡ bytes

-- Time passes: since t a crash may have left what it may have left before, or what it may leave now.
pub record Elapses (old new : Drive) : Type 0 where
  pub later : old.clock ≤ new.clock
  pub nothing_else : (t : ℕ) (c : List ℕ) → t ≤ old.clock → new.since t c → old.since t c ⊎ new.images c
  pub keeps : (t : ℕ) (c : List ℕ) → t ≤ old.clock → old.since t c → new.since t c

-- The list grew by `more` at its end. If the drive no longer keeps the list, nothing is said.
abbrev pub Grows : {T : Type 0} → List T → Option (List T) → Option (List T) → Type 0
Grows {T = T} more old new = (all : List T) → new ≡ Some all → (before : List T) × (old ≡ Some before) × (all ≡ before ++ more)

-- the list is unchanged, if the drive still keeps it
abbrev pub HasNoMore : {T : Type 0} → Option (List T) → Option (List T) → Type 0
HasNoMore {T = T} old new = (all : List T) → new ≡ Some all → old ≡ Some all

-- the writes, cuts and syncs from old to new returned these results
abbrev pub Made : List Bool → Drive → Drive → Type 0
Made answers old new = Grows answers old.calls new.calls

-- one such call was made, and returned this result
abbrev pub MadeOne : {T : Type 0} → Drive → Drive → Result T DiskFault → Type 0
MadeOne old new result = Made (is_ok result ∷ []) old new

-- n such calls were made, and each returned Ok
abbrev pub MadeWell : ℕ → Drive → Drive → Type 0
MadeWell n old new = Made (replicate n true) old new

-- `went_well` such calls, at most `most`, returned Ok, the next call failed, and none was made after it
pub record StopsAfter (most went_well : ℕ) (old new : Drive) : Type 0 where
  pub few : went_well ≤ most
  pub calls : Made (replicate went_well true ++ false ∷ []) old new

-- a call that leaves the bytes and the images unchanged, takes no time, and is in no list of calls
pub record Stays (old new : Drive) : Type 0 where
  pub bytes : new.bytes ≡ old.bytes
  pub images : (c : List ℕ) → new.images c → old.images c
  pub clock : new.clock ≡ old.clock
  pub since : (t : ℕ) (c : List ℕ) → new.since t c → old.since t c
  pub keeps : (t : ℕ) (c : List ℕ) → old.since t c → new.since t c
  pub calls : HasNoMore old.calls new.calls

-- no attach returned Ok, so the attached file is still the same
abbrev pub SameFile : Drive → Drive → Type 0
SameFile old new = HasNoMore old.attaches new.attaches

-- exactly one attach returned Ok, with this name and this `make`
abbrev pub AttachedOne : List ℕ → Bool → Drive → Drive → Type 0
AttachedOne name make old new = Grows (record { name = name; make = make } ∷ []) old.attaches new.attaches

-- at most that attach returned Ok
abbrev pub AttachedAtMost : List ℕ → Bool → Drive → Drive → Type 0
AttachedAtMost name make old new = AttachedOne name make old new ⊎ SameFile old new

-- a call on the attached file: the count never falls, a success leaves it, and a fault comes only if it rose
pub record CountsFaults {T : Type 0} (old new : Drive) (result : Result T DiskFault) : Type 0 where
  pub later : old.faults ≤ new.faults
  pub same : OnOk result (new.faults ≡ old.faults)
  pub failed : OnErr result (Rose old.faults new.faults)
  pub file : SameFile old new

-- an attach: Ok changes to its file, and a fault keeps the file before; if memory ran out, the count is unchanged
pub record CountsAttach {T : Type 0} (name : List ℕ) (make : Bool) (old new : Drive) (result : Result T AttachFault) : Type 0 where
  pub later : old.faults ≤ new.faults
  pub same : OnOk result (new.faults ≡ old.faults)
  pub memory : IsErrOf result Memory → new.faults ≡ old.faults
  pub failed : IsErrOf result Disk → Rose old.faults new.faults
  pub named : OnOk result (AttachedOne name make old new)
  pub kept : OnErr result (SameFile old new)

-- `at` is at most the file's length, if the length is known
abbrev pub IsWithin : Drive → ℕ → Type 0
IsWithin drive at = (xs : List ℕ) → drive.bytes ≡ Some xs → at ≤ length xs

-- the result is the file's length, if the length is known
abbrev pub TellsLength : Drive → Result ℕ DiskFault → Type 0
TellsLength drive result = (xs : List ℕ) → drive.bytes ≡ Some xs → IfOk result (λ n. n ≡ length xs)

-- a read returns the bytes from `at` on, as many as the file has and fit, and their number
abbrev pub Reads : Drive → ℕ → List ℕ → List ℕ → Result ℕ DiskFault → Type 0
Reads drive at before after result = IfOk result (λ n. (n ≤ length before)
    × ((xs : List ℕ) → drive.bytes ≡ Some xs → (n ≡ min (length before) (length xs - at)) × (take n after ≡ take n (drop at xs))))

-- A write: after Ok the file has the piece, and a crash may tear it until a sync. After Err the bytes are one of the
-- images.
pub record Writes {T : Type 0} (old new : Drive) (at : ℕ) (piece : List ℕ) (result : Result T DiskFault) : Type 0 where
  pub done : OnOk result ((xs : List ℕ) → old.bytes ≡ Some xs → (ys : List ℕ) × (new.bytes ≡ Some ys) × Holds xs at piece ys)
  pub told : is_some new.bytes ≡ is_some old.bytes
  pub crash : Follows (Torn at (length piece)) old.images new.images
  pub time : Elapses old new

-- A cut: after Ok the file is cut, and a crash may leave a length between until a sync. After Err the bytes are an
-- image.
pub record Cuts {T : Type 0} (old new : Drive) (len : ℕ) (result : Result T DiskFault) : Type 0 where
  pub done : OnOk result ((xs : List ℕ) → old.bytes ≡ Some xs → new.bytes ≡ Some (take len xs))
  pub told : is_some new.bytes ≡ is_some old.bytes
  pub crash : Follows (Shortened len) old.images new.images
  pub time : Elapses old new

-- a sync: after Ok a crash leaves what a read returns; a sync that fails fixes nothing
pub record Syncs {T : Type 0} (old new : Drive) (result : Result T DiskFault) : Type 0 where
  pub done : OnOk result ((xs : List ℕ) → old.bytes ≡ Some xs → Only xs new.images)
  pub bytes : new.bytes ≡ old.bytes
  pub crash : (c : List ℕ) → new.images c → old.images c
  pub time : Elapses old new

-- What holds of each drive: the images since an earlier moment include those of now, and those since now are no others.
-- A longer stretch has the images of a shorter one. The bytes that a read returns are an image.
pub record KeepsLaws (drive : Drive) : Type 0 where
  pub counts_now : (t : ℕ) (c : List ℕ) → t ≤ drive.clock → drive.images c → drive.since t c
  pub only_now : (c : List ℕ) → drive.since drive.clock c → drive.images c
  pub longer : (s t : ℕ) (c : List ℕ) → s ≤ t → drive.since t c → drive.since s c
  pub held : (xs : List ℕ) → drive.bytes ≡ Some xs → drive.images xs

-- nothing is pending: if the bytes are known, a crash leaves exactly these
abbrev pub IsSynced : Drive → Type 0
IsSynced drive = (xs : List ℕ) → drive.bytes ≡ Some xs → Only xs drive.images
