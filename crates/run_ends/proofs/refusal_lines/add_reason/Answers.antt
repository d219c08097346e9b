use Rattle.std.proofs.Common.{◌++◌, ap, refl, sym, ◌∙◌}
use Rattle.run_ends.specs.RefusalLines.{reason_text}
use Rattle.run_ends.proofs.refusal_lines.add_reason.Goals as goal

pub returns-in-Csv-clause-bytes : goal.returns-in-Csv-clause-bytes
returns-in-Csv-clause-bytes c = c.add_csv.ensures.bytes ∙ ap (λ r. c.args.piece.now.items ++ reason_text r) (sym c.in-Csv.is)

pub returns-in-Field-clause-bytes : goal.returns-in-Field-clause-bytes
returns-in-Field-clause-bytes c = rw (c.add_two.ensures.bytes, c.from.ensures, c.from-in-Field.ensures, c.in-Field.is) refl

pub returns-in-OldLog-clause-bytes : goal.returns-in-OldLog-clause-bytes
returns-in-OldLog-clause-bytes c = rw (c.add_two-in-OldLog.ensures.bytes, c.from-in-OldLog.ensures, c.from-in-OldLog-2.ensures, c.in-OldLog.is) refl

pub returns-in-Damaged-clause-bytes : goal.returns-in-Damaged-clause-bytes
returns-in-Damaged-clause-bytes c = c.add_damaged.ensures.bytes ∙ ap (λ r. c.args.piece.now.items ++ reason_text r) (sym c.in-Damaged.is)

pub returns-in-Usage-clause-bytes : goal.returns-in-Usage-clause-bytes
returns-in-Usage-clause-bytes c = c.push_str.ensures.bytes ∙ ap (λ r. c.args.piece.now.items ++ reason_text r) (sym c.in-Usage.is)

pub returns-in-Header-clause-bytes : goal.returns-in-Header-clause-bytes
returns-in-Header-clause-bytes c = c.push_str-in-Header.ensures.bytes ∙ ap (λ r. c.args.piece.now.items ++ reason_text r) (sym c.in-Header.is)

pub returns-in-NotLog-clause-bytes : goal.returns-in-NotLog-clause-bytes
returns-in-NotLog-clause-bytes c = c.push_str-in-NotLog.ensures.bytes ∙ ap (λ r. c.args.piece.now.items ++ reason_text r) (sym c.in-NotLog.is)

pub returns-in-Source-clause-bytes : goal.returns-in-Source-clause-bytes
returns-in-Source-clause-bytes c = c.push_str-in-Source.ensures.bytes ∙ ap (λ r. c.args.piece.now.items ++ reason_text r) (sym c.in-Source.is)

pub returns-in-LongInput-clause-bytes : goal.returns-in-LongInput-clause-bytes
returns-in-LongInput-clause-bytes c = c.push_str-in-LongInput.ensures.bytes ∙ ap (λ r. c.args.piece.now.items ++ reason_text r) (sym c.in-LongInput.is)

pub returns-in-ManyRows-clause-bytes : goal.returns-in-ManyRows-clause-bytes
returns-in-ManyRows-clause-bytes c = c.push_str-in-ManyRows.ensures.bytes ∙ ap (λ r. c.args.piece.now.items ++ reason_text r) (sym c.in-ManyRows.is)

pub returns-in-LongLog-clause-bytes : goal.returns-in-LongLog-clause-bytes
returns-in-LongLog-clause-bytes c = c.push_str-in-LongLog.ensures.bytes ∙ ap (λ r. c.args.piece.now.items ++ reason_text r) (sym c.in-LongLog.is)

pub returns-in-Memory-clause-bytes : goal.returns-in-Memory-clause-bytes
returns-in-Memory-clause-bytes c = c.push_str-in-Memory.ensures.bytes ∙ ap (λ r. c.args.piece.now.items ++ reason_text r) (sym c.in-Memory.is)

pub returns-in-LongEvents-clause-bytes : goal.returns-in-LongEvents-clause-bytes
returns-in-LongEvents-clause-bytes c = c.push_str-in-LongEvents.ensures.bytes ∙ ap (λ r. c.args.piece.now.items ++ reason_text r) (sym c.in-LongEvents.is)

pub returns-in-Strange-clause-bytes : goal.returns-in-Strange-clause-bytes
returns-in-Strange-clause-bytes c = c.add_strange.ensures.bytes ∙ ap (λ r. c.args.piece.now.items ++ reason_text r) (sym c.in-Strange.is)
