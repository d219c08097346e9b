use Rattle.std.proofs.Common.{◌∙◌, ap, [], ◌++◌}
use Rattle.std.proofs.lemmas.List.{append-nil}
use Rattle.csv_rows.specs.Lines.{line_text}
use Rattle.csv_rows.proofs.PiecesFacts.{puts-fault, puts-is, puts-last}
use Rattle.csv_rows.proofs.lines.write_line.Goals as goal

pub returns-clause-bytes : goal.returns-clause-bytes
returns-clause-bytes g c =
    let line = line_text c.args.row c.args.place c.args.answer.now in
    puts-is _ _ (c.new-piece.result.items ++ line) line c.put.result (ap (λ l. l ++ line) c.new-piece.ensures)
    (puts-last _ _ _ _ _ c.put.result c.in_ok-add_line.ensures.bytes (puts-is _ _ c.as_slice.result.now _ c.put.result (c.as_slice.ensures.value) c.put.ensures.bytes))

pub returns-in_err-add_line-clause-bytes : goal.returns-in_err-add_line-clause-bytes
returns-in_err-add_line-clause-bytes g c =
    let line = line_text c.args.row c.args.place c.args.answer.now in
    let lost = c.in_err-add_line.ensures.bytes in
    puts-is _ _ _ line c.from_residual.result (append-nil _ ∙ ap (λ l. l ++ line) c.new-piece.ensures) (puts-fault _ _ _ lost.0 [] c.from_residual.result c.from_residual.ensures.0 lost.1)
