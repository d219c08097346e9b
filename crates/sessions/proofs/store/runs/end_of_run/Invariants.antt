use Rattle.std.proofs.Common.{◌≤◌, length}
use Rattle.sessions.specs.Runs.{AreQueries}
use Rattle.sessions.proofs.store.runs.end_of_run.Given as goal

abbrev pub invariant-loop-k : goal.invariant-loop-k
invariant-loop-k l = AreQueries l.i l.k l.rows × (l.end ≤ length l.rows)
