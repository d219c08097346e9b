use Rattle.csv_rows.specs.RowLines.{row_line}
use Rattle.csv_rows.proofs.PiecesFacts.{HasAdded}
use Rattle.csv_rows.proofs.row_lines.write_rows.Given as goal

abbrev pub invariant-loop-row : goal.invariant-loop-row
invariant-loop-row g l =
    HasAdded row_line (g.K.Sink.output l.fn.sink).taken (g.K.Sink.output l.sink).taken (g.K.Sink.output l.fn.sink).faults (g.K.Sink.output l.sink).faults l.initial.piece.items l.row-items l.row-index l.piece.items
