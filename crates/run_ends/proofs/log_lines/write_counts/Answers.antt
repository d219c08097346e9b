use Rattle.std.proofs.Common.{◌∙◌, List, ℕ, ◌++◌, ap}
use Rattle.std.specs.Prelude.{codes}
use Rattle.csv_rows.proofs.PiecesFacts.{puts-is}
use Rattle.run_ends.specs.LogLines.{count_line, counts_text}
use Rattle.run_ends.proofs.log_lines.write_counts.Goals as goal

pub returns-clause-bytes : goal.returns-clause-bytes
unfolding counts_text
returns-clause-bytes g c =
    let n = c.args.counts.now in
    let cells = count_line (codes "cells ") n.cells in
    let points = count_line (codes "points ") n.points in
    let leaves = count_line (codes "leaves ") n.leaves in
    let unfinished = count_line (codes "unfinished ") n.unfinished in
    let one = c.add_count.ensures.bytes ∙ ap (λ (l : List ℕ). l ++ cells) c.new-piece.ensures in
    let two = c.add_count-2.ensures.bytes ∙ ap (λ (l : List ℕ). l ++ points) one in
    let three = c.add_count-3.ensures.bytes ∙ ap (λ (l : List ℕ). l ++ leaves) two in
    let four = c.add_count-4.ensures.bytes ∙ ap (λ (l : List ℕ). l ++ unfinished) three in
    puts-is _ _ c.as_slice.result.now _ c.put.result (c.as_slice.ensures.value ∙ four) c.put.ensures.bytes
