use Rattle.std.proofs.Common.{◌++◌, ap, sym}
use Rattle.run_ends.specs.ObjectLines.{line_in, object_line}
use Rattle.run_ends.proofs.ObjectFacts.{line_in-inside}
use Rattle.csv_rows.proofs.PiecesFacts.{holds-lost, moves-is, moves-more, moves-pushed}
use Rattle.run_ends.proofs.object_lines.add_within.Goals as goal

pub returns-in_err-make_room-clause-bytes : goal.returns-in_err-make_room-clause-bytes
returns-in_err-make_room-clause-bytes g c =
    let lost = c.in_err-make_room.ensures.bytes in
    holds-lost _ _ _ _ _ c.from_residual.result c.from_residual.ensures.0 (moves-more _ _ _ lost.0 (line_in c.args.region.now c.args.object.now) lost.1) lost.2

pub returns-clause-bytes : goal.returns-clause-bytes
returns-clause-bytes g c =
    moves-is _ _ _ _ _ (ap (λ l. c.args.piece.now.items ++ l) (sym (line_in-inside c.args.region.now c.args.object.now (sym c.if-not-has.ensures))))
    (moves-pushed _ _ _ _ (object_line c.args.object.now) _ c.in_ok-make_room.ensures.bytes c.add_object.ensures.bytes)
