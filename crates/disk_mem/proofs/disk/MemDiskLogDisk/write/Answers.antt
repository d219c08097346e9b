use Rattle.std.proofs.Common.{refl}
use Rattle.disk_mem.proofs.DriveLemmas.{writes-made}
use Rattle.disk_mem.proofs.disk.MemDiskLogDisk.write.Goals as goal

pub returns-clause-writes : goal.returns-clause-writes
returns-clause-writes c = writes-made _ _ c.args.at c.args.piece.now c.make_write.result (c.requires.within _ refl) c.make_write.ensures.makes
