use Rattle.std.proofs.Common.{rules}
use Rattle.disk_mem.proofs.disk.MemDisk.make_write.Goals as goal

pub returns-in-Passes-2-clause-makes : goal.returns-in-Passes-2-clause-makes
returns-in-Passes-2-clause-makes c = search rules
