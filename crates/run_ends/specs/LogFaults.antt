-- The refusal of each fault of a log, and why a log isn't read.
use Rattle.std.specs.Prelude.{ℕ, None, ⊤}
use Rattle.causes.specs.Causes.{Rose}
use Rattle.disk_trait.specs.Drive.{Drive}
use Rattle.disk_trait.specs.declared.disk.AttachFault.{AttachFault}
use Rattle.disk_trait.specs.declared.disk.AttachFault.TheVariants as attach_fault
pub use Rattle.recovery.specs.Faults.{ShowsFault}
pub use Rattle.recovery.specs.Wanted.{MayTell}
use Rattle.recovery.specs.declared.seen.OpenFault.{OpenFault}
use Rattle.recovery.specs.declared.seen.OpenFault.TheVariants as open_fault
use Rattle.run_ends.specs.declared.refusals.Refusal.{Refusal}
use Rattle.run_ends.specs.declared.refusals.Refusal.TheVariants as refusal

-- the refusal of a fault of an attach
abbrev pub attach_refusal : AttachFault → Refusal
attach_refusal attach_fault.Disk = refusal.Disk None
attach_refusal attach_fault.Memory = refusal.Memory

-- the refusal of a fault of a log
abbrev pub log_refusal : OpenFault → Refusal
log_refusal open_fault.NotLog = refusal.NotLog
log_refusal (open_fault.OldLog version width) = refusal.OldLog version width
log_refusal (open_fault.Damaged cell cause) = refusal.Damaged cell cause
log_refusal open_fault.Disk = refusal.Disk None
log_refusal open_fault.Memory = refusal.Memory
log_refusal (open_fault.TooLong most) = refusal.LongLog

-- if the drive's bytes are known, they have this fault; in each case it is one that such a reading may return
abbrev pub HasFault : ℕ → ℕ → Drive → OpenFault → Type 0
HasFault oldest most drive e = ShowsFault oldest None most drive e × MayTell oldest None most e

-- why a log isn't read: the first fault of its bytes, a failure of the drive, or too little memory
abbrev pub IsReadingCause : ℕ → ℕ → Drive → Drive → Refusal → Type 0
IsReadingCause oldest most old new refusal.NotLog = HasFault oldest most old open_fault.NotLog
IsReadingCause oldest most old new (refusal.OldLog version width) = HasFault oldest most old (open_fault.OldLog version width)
IsReadingCause oldest most old new (refusal.Damaged cell cause) = HasFault oldest most old (open_fault.Damaged cell cause)
IsReadingCause oldest most old new (refusal.Disk None) = Rose old.faults new.faults
IsReadingCause oldest most old new refusal.LongLog = HasFault oldest most old (open_fault.TooLong most)
IsReadingCause oldest most old new refusal.Memory = ⊤
IsReadingCause oldest most old new _ = ⊥
