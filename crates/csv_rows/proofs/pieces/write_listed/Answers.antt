use Rattle.std.proofs.Common.{arith}
use Rattle.std.proofs.lemmas.List.{drop_all}
use Rattle.csv_rows.proofs.PiecesFacts.{listed-written}
use Rattle.csv_rows.proofs.pieces.write_listed.Goals as goal

pub returns-clause-text : goal.returns-clause-text
returns-clause-text c =
    let none = drop_all 63 c.args.text.now (omega arith) in
    rw (c.write_marked.ensures.text, c.write_marked-x.ensures.text, c.write_marked-y.ensures.text, none, c.from.ensures, c.from-2.ensures) (listed-written _ _ _)
