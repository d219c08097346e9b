use Rattle.follow_run.proofs.LineFacts.{HasLines}
use Rattle.follow_run.proofs.lines.write_reports.Given as goal

abbrev pub invariant-loop-before : goal.invariant-loop-before
invariant-loop-before g l =
    HasLines (g.K.Sink.output l.fn.sink).taken (g.K.Sink.output l.sink).taken (g.K.Sink.output l.fn.sink).faults (g.K.Sink.output l.sink).faults l.reports l.before l.piece.items
