use Rattle.std.proofs.Common.{rules}
use Rattle.disk_file.proofs.opening.cause.Goals as goal

pub returns-in_default : goal.returns-in_default
returns-in_default c = search rules
