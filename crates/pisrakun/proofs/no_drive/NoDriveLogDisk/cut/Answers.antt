use Rattle.disk_file.proofs.Untold.{untold-cuts}
use Rattle.pisrakun.proofs.no_drive.NoDriveLogDisk.cut.Goals as goal

pub returns-clause-cuts : goal.returns-clause-cuts
returns-clause-cuts c = untold-cuts _ _ c.args._len _
