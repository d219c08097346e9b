use Rattle.csv_rows.proofs.PiecesFacts.{HasAdded}
use Rattle.run_ends.specs.ObjectLines.{line_in}
use Rattle.run_ends.proofs.object_lines.write_objects.Given as goal

abbrev pub invariant-loop-object : goal.invariant-loop-object
invariant-loop-object g l =
    HasAdded (line_in l.region) (g.K.Sink.output l.fn.sink).taken (g.K.Sink.output l.sink).taken (g.K.Sink.output l.fn.sink).faults (g.K.Sink.output l.sink).faults l.initial.piece.items l.objects l.object-index l.piece.items
