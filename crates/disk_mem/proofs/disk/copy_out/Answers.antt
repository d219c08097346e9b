use Rattle.std.proofs.Common.{rules}
use Rattle.disk_mem.proofs.disk.copy_out.Goals as goal

pub returns-clause-count : goal.returns-clause-count
returns-clause-count c = search rules
