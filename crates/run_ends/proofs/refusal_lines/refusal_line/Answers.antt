use Rattle.std.proofs.Common.{◌∙◌, ◌++◌, ap}
use Rattle.std.specs.Prelude.{codes}
use Rattle.csv_rows.proofs.PiecesFacts.{puts-is}
use Rattle.run_ends.specs.RefusalLines.{reason_text, refusal_text}
use Rattle.run_ends.proofs.refusal_lines.refusal_line.Goals as goal

pub returns-clause-bytes : goal.returns-clause-bytes
unfolding refusal_text
returns-clause-bytes g c =
    let front = c.push_str.ensures.bytes ∙ ap (λ l. l ++ codes "refused ") c.new-piece.ensures in
    let reason = c.add_reason.ensures.bytes ∙ ap (λ l. l ++ reason_text c.args.refusal.now) front in
    puts-is _ _ c.as_slice.result.now _ c.put.result (c.as_slice.ensures.value ∙ c.push_str-2.ensures.bytes ∙ ap (λ l. l ++ codes "\n") reason) c.put.ensures.bytes
