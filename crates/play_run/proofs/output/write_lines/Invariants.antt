use Rattle.std.proofs.Common.{◌≡◌, List, length}
use Rattle.std.specs.List.{range_with_len}
use Rattle.plain_list.specs.World.{World}
use Rattle.plain_list.specs.declared.entries.Entry.{Entry}
use Rattle.csv_rows.specs.Lines.{title_line}
use Rattle.csv_rows.proofs.PiecesFacts.{HasAdded}
use Rattle.play_run.specs.inside.Answered.{HasAnswers}
use Rattle.play_run.proofs.LineOrder.{HasTold, line_of}
use Rattle.play_run.proofs.output.write_lines.Given as goal

abbrev pub invariant-loop-row : goal.invariant-loop-row
invariant-loop-row g l =
    HasTold l.rows l.row-index l.told × ((g.K.Sink.output l.sink).faults ≡ (g.K.Sink.output l.fn.sink).faults)
    × ((world : World) (h : List Entry) → HasAnswers world h l.rows l.ends
    → HasAdded (line_of world h) (g.K.Sink.output l.fn.sink).taken (g.K.Sink.output l.sink).taken (g.K.Sink.output l.fn.sink).faults (g.K.Sink.output l.sink).faults title_line (range_with_len 1 (length l.rows)) l.row-index l.lines)
