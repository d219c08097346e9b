use Rattle.follow_run.proofs.TurnRowsFacts.{read-turns}
use Rattle.follow_run.proofs.turn_rows.read_turns.Goals as goal

pub from_vec-requires : goal.from_vec-requires
from_vec-requires c = read-turns c.args.bytes.now _ c.in_ok-turns.ensures.rows
