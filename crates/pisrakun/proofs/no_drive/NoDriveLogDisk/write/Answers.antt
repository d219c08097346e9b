use Rattle.disk_file.proofs.Untold.{untold-writes}
use Rattle.pisrakun.proofs.no_drive.NoDriveLogDisk.write.Goals as goal

pub returns-clause-writes : goal.returns-clause-writes
returns-clause-writes c = untold-writes _ _ c.args._at c.args._piece.now _
