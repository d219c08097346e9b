use Rattle.std.proofs.Common.{◌++◌, ap}
use Rattle.csv_rows.specs.Lines.{title_line}
use Rattle.csv_rows.proofs.PiecesFacts.{holds-lost, moves-is, moves-more, moves-pushed}
use Rattle.csv_rows.proofs.gathering.Gathered.add_title.Goals as goal

pub returns-in_err-make_room-clause-bytes : goal.returns-in_err-make_room-clause-bytes
returns-in_err-make_room-clause-bytes g c =
    let lost = c.in_err-make_room.ensures.bytes in
    holds-lost _ _ _ _ _ c.from_residual.result c.from_residual.ensures.0 (moves-is _ _ _ _ _ (ap (λ l. l ++ title_line) c.self.view_is) (moves-more _ _ _ lost.0 title_line lost.1)) lost.2

pub returns-clause-bytes : goal.returns-clause-bytes
returns-clause-bytes g c =
    moves-is _ _ _ _ _ (ap (λ l. l ++ title_line) c.self.view_is) (moves-pushed _ _ _ _ title_line _ c.in_ok-make_room.ensures.bytes c.push_str.ensures.bytes)
