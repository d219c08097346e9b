use Rattle.std.proofs.Common.{◌∙◌, ◌++◌, ap, arith}
use Rattle.csv_rows.proofs.PiecesFacts.{behind-mark}
use Rattle.csv_rows.proofs.pieces.add_placed.Goals as goal

pub returns-clause-bytes : goal.returns-clause-bytes
returns-clause-bytes c =
    let written = c.write_listed-mark in
    c.push_bytes.ensures.bytes ∙ ap (λ l. c.args.piece.now.items ++ l) (behind-mark written.new.text _ 63 written.result 59 (omega arith) written.ensures.text)
