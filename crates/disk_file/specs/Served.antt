-- A drive over a file of the machine, and what its calls do to it.
use Rattle.std.specs.Prelude.{◌≡◌, ℕ, Bool, true, false, Option, Some, None, Result, IsErr, MatchResult}
use Rattle.causes.specs.Causes.{one_more}
use Rattle.disk_trait.specs.Drive.{Drive}
use Rattle.disk_file.specs.declared.reason.Reason.{Reason}
use Rattle.disk_trait.specs.declared.disk.AttachFault.{AttachFault}
use Rattle.disk_trait.specs.declared.disk.AttachFault.TheVariants.{Disk, Memory}

-- Whether the drive has a file, how often a call has failed, and why the last one did that failed.
pub record FileView : Type 0 where
  pub attached : Bool
  pub faults : ℕ
  pub reason : Option Reason

-- Nothing is known of the content. The bytes are unknown, a crash may leave any image at any moment, and no list of
-- calls or attaches is kept.
abbrev pub untold : ℕ → Drive
untold faults = record { bytes = None; images = λ c. Unit {0}; clock = 0; since = λ t c. Unit {0}; faults = faults; calls = None; attaches = None }

abbrev pub file_drive : FileView → Drive
file_drive d = untold d.faults

-- A step that went well changes nothing. One that failed raises the fault count and leaves its reason.
abbrev pub Counted : {T E : Type 0} → FileView → FileView → Result T E → Type 0
Counted old new result = MatchResult result
    (λ _. new ≡ old)
    (λ _. (why : Reason) × (new ≡ record { attached = old.attached; faults = one_more old.faults; reason = Some why }))

-- A call that needs a file fails if there is none.
pub record Serves {T E : Type 0} (old new : FileView) (result : Result T E) : Type 0 where
  pub needs : old.attached ≡ false → IsErr result
  pub after : Counted old new result

-- A lack of memory doesn't raise the fault count.
abbrev pub AfterFault : AttachFault → FileView → FileView → Type 0
AfterFault Disk old new = (why : Reason) × (new ≡ record { attached = old.attached; faults = one_more old.faults; reason = Some why })
AfterFault Memory old new = new ≡ old

-- An attach gives the drive a file. If it fails, the drive keeps the file that it had.
abbrev pub Attaches : {T : Type 0} → FileView → FileView → Result T AttachFault → Type 0
Attaches old new result = MatchResult result
    (λ _. new ≡ record { attached = true; faults = old.faults; reason = old.reason })
    (λ fault. AfterFault fault old new)
