use Rattle.disk_file.proofs.Untold.{untold-cuts}
use Rattle.disk_file.proofs.disk.FileDiskLogDisk.cut.Goals as goal

pub returns-clause-cuts : goal.returns-clause-cuts
returns-clause-cuts g c = untold-cuts c.args.self.now.faults c.counted.new.self.faults c.args.len c.counted.result
