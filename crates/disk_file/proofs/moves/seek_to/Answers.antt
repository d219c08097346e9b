use Rattle.std.proofs.Common.{rules}
use Rattle.disk_file.proofs.moves.seek_to.Goals as goal

pub returns-in-Ok : goal.returns-in-Ok
returns-in-Ok g c = search rules
