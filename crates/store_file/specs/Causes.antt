-- The causes that faults of files and logs are reported as.
use Rattle.disk_trait.specs.declared.disk.AttachFault.{AttachFault}
use Rattle.disk_trait.specs.declared.disk.AttachFault.TheVariants as attach
use Rattle.recovery.specs.declared.seen.OpenFault.{OpenFault}
use Rattle.recovery.specs.declared.seen.OpenFault.TheVariants as log
use Rattle.store_file.specs.declared.faults.OpenCause.{OpenCause}
use Rattle.store_file.specs.declared.faults.OpenCause.TheVariants.{Attach, Disk, Log, Memory}

-- The cause if a file wasn't attached.
abbrev pub attach_cause : AttachFault → OpenCause
attach_cause attach.Disk = Attach
attach_cause attach.Memory = Memory

-- The cause if a log wasn't opened. A fault that its bytes show is reported unchanged.
abbrev pub open_cause : OpenFault → OpenCause
open_cause log.Disk = Disk
open_cause log.Memory = Memory
open_cause log.NotLog = Log log.NotLog
open_cause (log.OldLog version width) = Log (log.OldLog version width)
open_cause (log.Damaged cell cause) = Log (log.Damaged cell cause)
open_cause (log.TooLong most) = Log (log.TooLong most)
