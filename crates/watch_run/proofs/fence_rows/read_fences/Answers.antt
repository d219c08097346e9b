use Rattle.watch_run.proofs.FenceRowsFacts.{read-fences}
use Rattle.watch_run.proofs.fence_rows.read_fences.Goals as goal

pub from_vec-requires : goal.from_vec-requires
from_vec-requires c = read-fences c.args.bytes.now _ c.in_ok-fences.ensures.rows
