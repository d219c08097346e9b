use Rattle.csv_rows.proofs.PiecesFacts.{HasAdded}
use Rattle.watch_run.specs.inside.Lines.{counted_line}
use Rattle.watch_run.proofs.lines.add_ends.Given as goal

abbrev pub invariant-loop-count : goal.invariant-loop-count
invariant-loop-count g l =
    HasAdded counted_line (g.K.Sink.output l.fn.sink).taken (g.K.Sink.output l.sink).taken (g.K.Sink.output l.fn.sink).faults (g.K.Sink.output l.sink).faults l.initial.piece.items l.counts l.count-index l.piece.items
