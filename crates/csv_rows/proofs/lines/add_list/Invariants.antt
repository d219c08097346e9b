use Rattle.std.proofs.Common.{◌++◌, ◌≤◌, length}
use Rattle.std.specs.Prelude.{codes}
use Rattle.zorder.specs.declared.points.Placed.{Placed}
use Rattle.csv_rows.specs.Lines.{placed_text}
use Rattle.csv_rows.proofs.PiecesFacts.{HasAdded}
use Rattle.csv_rows.proofs.lines.add_list.Given as goal

abbrev pub invariant-loop-placed : goal.invariant-loop-placed
invariant-loop-placed g l =
    HasAdded (λ (m : Placed). codes ";" ++ placed_text m) (g.K.Sink.output l.fn.sink).taken (g.K.Sink.output l.sink).taken (g.K.Sink.output l.fn.sink).faults (g.K.Sink.output l.sink).faults l.initial.piece.items l.rest l.placed-index l.piece.items
    × (length l.piece.items ≤ 65535)
