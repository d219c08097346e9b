-- What contracts see of a drive in memory.
use Rattle.std.specs.Prelude.{◌≤◌}
use Rattle.disk_mem.specs.declared.disk.MemDisk.TheInside.{Inside}
use Rattle.disk_mem.specs.Drives.{DiskView}

abbrev pub disk_view : Inside → DiskView
disk_view a = record { plan = a.plan; first = a.file.first; changes = a.file.changes; room = a.file.room; faults = a.faults; attaches = a.attaches.items }

-- the record has room for each call that may still be made
abbrev pub IsDisk : Inside → Type 0
IsDisk a = a.plan.left ≤ a.file.spare
