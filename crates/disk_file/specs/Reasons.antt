-- Why a call of the system failed, by the kind of its error.
use Rattle.std.specs.declared.io.ErrorKind.{ErrorKind}
use Rattle.std.specs.declared.io.ErrorKind.TheVariants.{WouldBlock, NotFound, PermissionDenied, ReadOnlyFilesystem, StorageFull, QuotaExceeded}
use Rattle.disk_file.specs.declared.reason.Reason.{Reason}
use Rattle.disk_file.specs.declared.reason.Reason.TheVariants.{Held, Missing, Denied, NoSpace, Other}

abbrev pub reason_of : ErrorKind → Reason
reason_of WouldBlock = Held
reason_of NotFound = Missing
reason_of PermissionDenied = Denied
reason_of ReadOnlyFilesystem = Denied
reason_of StorageFull = NoSpace
reason_of QuotaExceeded = NoSpace
reason_of _ = Other
