use Rattle.disk_mem.proofs.DriveLemmas.{syncs-made}
use Rattle.disk_mem.proofs.disk.MemDiskLogDisk.sync.Goals as goal

pub returns-clause-syncs : goal.returns-clause-syncs
returns-clause-syncs c = syncs-made _ _ c.make_sync.result c.make_sync.ensures.makes
