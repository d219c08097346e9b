use Rattle.std.proofs.Common.{rules}
use Rattle.disk_file.proofs.opening.options.Goals as goal

pub returns : goal.returns
returns c = search rules
