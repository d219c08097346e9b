use Rattle.std.proofs.Common.{◌+◌, ◌*◌}
use Rattle.thread_tests.proofs.sheets.+add_all+fn-add_all-join_mut+arg2.Given as goal

abbrev pub decreases-add_all : goal.decreases-add_all
decreases-add_all g l = 2 * l.session + 1

abbrev pub decreases-join_mut+arg2 : goal.decreases-join_mut+arg2
decreases-join_mut+arg2 g l = 2 * l.session
