use Rattle.disk_mem.proofs.DriveLemmas.{cuts-made}
use Rattle.disk_mem.proofs.disk.MemDiskLogDisk.cut.Goals as goal

pub returns-clause-cuts : goal.returns-clause-cuts
returns-clause-cuts c = cuts-made _ _ c.args.len c.make_cut.result c.make_cut.ensures.makes
