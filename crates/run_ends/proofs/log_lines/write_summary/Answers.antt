use Rattle.std.proofs.Common.{◌∙◌, List, ℕ, ◌++◌, ap}
use Rattle.std.specs.Prelude.{codes}
use Rattle.csv_rows.proofs.PiecesFacts.{puts-is}
use Rattle.run_ends.specs.LogLines.{count_line, summary_text}
use Rattle.run_ends.proofs.log_lines.write_summary.Goals as goal

pub returns-clause-bytes : goal.returns-clause-bytes
unfolding summary_text
returns-clause-bytes g c =
    let s = c.args.summary.now in
    let rows = count_line (codes "rows ") s.rows in
    let points = count_line (codes "points ") s.points in
    let sum = count_line (codes "sum ") s.sum in
    let one = c.add_count.ensures.bytes ∙ ap (λ (l : List ℕ). l ++ rows) c.new-piece.ensures in
    let two = c.add_count-2.ensures.bytes ∙ ap (λ (l : List ℕ). l ++ points) one in
    let three = c.add_count-3.ensures.bytes ∙ ap (λ (l : List ℕ). l ++ sum) two in
    puts-is _ _ c.as_slice.result.now _ c.put.result (c.as_slice.ensures.value ∙ three) c.put.ensures.bytes
