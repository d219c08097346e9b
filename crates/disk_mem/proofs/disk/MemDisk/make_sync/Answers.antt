use Rattle.std.proofs.Common.{rules}
use Rattle.disk_mem.proofs.disk.MemDisk.make_sync.Goals as goal

pub returns-in-Fails-clause-makes : goal.returns-in-Fails-clause-makes
returns-in-Fails-clause-makes c = search rules
