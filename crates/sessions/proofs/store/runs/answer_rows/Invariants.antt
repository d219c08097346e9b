use Rattle.sessions.specs.Runs.{Answers}
use Rattle.sessions.proofs.store.runs.answer_rows.Given as goal

abbrev pub invariant-loop-k : goal.invariant-loop-k
invariant-loop-k g l = Answers (g.I.Index.leaves l.index) l.i l.k l.fn.lane l.lane
