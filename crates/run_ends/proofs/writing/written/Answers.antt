use Rattle.std.proofs.Common.{refl}
use Rattle.run_ends.proofs.writing.written.Goals as goal

pub returns-in-Ok : goal.returns-in-Ok
returns-in-Ok c = rw c.in-Ok.is refl
