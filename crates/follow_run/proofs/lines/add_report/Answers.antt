use Rattle.csv_rows.proofs.PiecesFacts.{holds-lost, moves-more}
use Rattle.follow_run.specs.Lines.{report_line}
use Rattle.follow_run.proofs.lines.add_report.Goals as goal

pub returns-in_err-make_room-clause-bytes : goal.returns-in_err-make_room-clause-bytes
returns-in_err-make_room-clause-bytes g c =
    let lost = c.in_err-make_room.ensures.bytes in
    holds-lost _ _ _ _ _ c.from_residual.result c.from_residual.ensures.0 (moves-more _ _ _ lost.0 (report_line c.args.turn c.args.report.now) lost.1) lost.2
