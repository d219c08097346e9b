use Rattle.std.proofs.Common.{◌∙◌, List, ℕ, ◌++◌, ap}
use Rattle.csv_rows.proofs.PiecesFacts.{puts-is}
use Rattle.run_ends.specs.LogLines.{compacted_line}
use Rattle.run_ends.proofs.log_lines.write_compacted.Goals as goal

pub returns-clause-bytes : goal.returns-clause-bytes
returns-clause-bytes g c =
    let one = c.add_count.ensures.bytes ∙ ap (λ (l : List ℕ). l ++ compacted_line c.args.cells) c.new-piece.ensures in
    puts-is _ _ c.as_slice.result.now _ c.put.result (c.as_slice.ensures.value ∙ one) c.put.ensures.bytes
