use Rattle.std.proofs.Common.{rules}
use Rattle.disk_file.proofs.Untold.{untold-syncs}
use Rattle.disk_file.proofs.disk.FileDiskLogDisk.sync.Goals as goal

pub returns-clause-syncs : goal.returns-clause-syncs
returns-clause-syncs g c = untold-syncs c.args.self.now.faults c.counted.new.self.faults c.counted.result

pub returns-clause-serves : goal.returns-clause-serves
returns-clause-serves g c = search rules
