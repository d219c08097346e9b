use Rattle.disk_file.proofs.Untold.{untold-writes}
use Rattle.disk_file.proofs.disk.FileDiskLogDisk.write.Goals as goal

pub returns-clause-writes : goal.returns-clause-writes
returns-clause-writes g c = untold-writes c.args.self.now.faults c.counted.new.self.faults c.args.at c.args.piece.now c.counted.result
