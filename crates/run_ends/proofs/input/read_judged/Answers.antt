use Rattle.std.proofs.Common.{rules}
use Rattle.run_ends.proofs.input.read_judged.Goals as goal

pub returns-in-Ok : goal.returns-in-Ok
returns-in-Ok g c = search rules
