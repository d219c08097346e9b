use Rattle.watch_run.specs.WatchLines.{event_line}
use Rattle.csv_rows.proofs.PiecesFacts.{HasAdded}
use Rattle.watch_run.proofs.lines.add_events.Given as goal

abbrev pub invariant-loop-event : goal.invariant-loop-event
invariant-loop-event g l =
    HasAdded event_line (g.K.Sink.output l.fn.sink).taken (g.K.Sink.output l.sink).taken (g.K.Sink.output l.fn.sink).faults (g.K.Sink.output l.sink).faults l.initial.piece.items l.events l.event-index l.piece.items
