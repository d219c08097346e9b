use Rattle.std.proofs.Common.{◌∙◌, ◌++◌, List, ℕ, ap, sym}
use Rattle.csv_rows.specs.Columns.{columns_of, rules_of, text_by, word_by, word_text}
use Rattle.csv_rows.proofs.ColumnsFacts.{pushed_fields}
use Rattle.csv_rows.proofs.WrittenFacts.{op_tail-line}
use Rattle.csv_rows.proofs.row_lines.add_op.Goals as goal

pub returns-clause-bytes : goal.returns-clause-bytes
returns-clause-bytes c =
    let old = c.args.piece.now.items in
    let op = c.args.op.now in
    let word = word_by op in
    let n = columns_of op in
    let rules = rules_of word n.x n.y in
    rw (
      c.push_str-3.ensures.bytes,
      c.add_column-6.ensures.bytes,
      c.add_column-5.ensures.bytes,
      c.add_column-4.ensures.bytes,
      c.add_column-3.ensures.bytes,
      c.add_column-2.ensures.bytes,
      c.add_column.ensures.bytes,
      c.push_str-2.ensures.bytes,
      c.push_str.ensures.bytes,
      c.text_of.ensures.text,
      c.rules_of-rules.ensures,
      c.word_by-word.ensures,
      c.columns_of-columns.ensures,
    ) (pushed_fields old (word_text word) (text_by rules.id n.id) (text_by rules.x n.x) (text_by rules.y n.y) (text_by rules.a n.a) (text_by rules.b n.b) (text_by rules.moment n.moment) ∙ ap (λ (l : List ℕ). old ++ l) (sym (op_tail-line op)))
