use Rattle.std.proofs.Common.{◌+◌, ◌*◌}
use Rattle.benches.proofs.crowd.+fn-run_all-join_mut+arg2+run_all.Given as goal

abbrev pub decreases-run_all : goal.decreases-run_all
decreases-run_all g l = 2 * l.number + 1

abbrev pub decreases-join_mut+arg2 : goal.decreases-join_mut+arg2
decreases-join_mut+arg2 g l = 2 * l.number
