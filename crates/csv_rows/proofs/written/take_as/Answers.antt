use Rattle.std.proofs.Common.{◌≡◌, ◌∙◌, ◌++◌, List, ℕ, ap, sym}
use Rattle.std.specs.Prelude.{codes}
use Rattle.csv_rows.specs.Columns.{word_text}
use Rattle.csv_rows.specs.RowLines.{line_then}
use Rattle.csv_rows.proofs.ColumnsFacts.{op_fields-taken}
use Rattle.csv_rows.proofs.WrittenFacts.{op-written}
use Rattle.csv_rows.proofs.written.take_as.Goals as goal

pub returns-clause-tail : goal.returns-clause-tail
returns-clause-tail c =
    let behind = c.in-Some-take_columns in
    let word : c.args.text.now ≡ word_text c.args.word ++ c.in-Some.rest.now = c.in-Some.ensures ∙ ap (λ (l : List ℕ). l ++ c.in-Some.rest.now) (c.as_bytes.ensures.value ∙ c.text_of.ensures.text) in
    let fields = op_fields-taken c.args.word behind.columns c.op_of.result behind.ensures.kept c.op_of.ensures.op in
    op-written c.op_of.result _ _
    (ap (λ (l : List ℕ). codes "," ++ l) (word ∙ ap (λ (l : List ℕ). word_text c.args.word ++ l) behind.ensures.texts) ∙ ap (λ (fs : List (List ℕ)). line_then fs behind.rest.now) (sym fields))
