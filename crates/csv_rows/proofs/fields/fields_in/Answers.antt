use Rattle.std.proofs.Common.{◌∙◌, sym}
use Rattle.csv_rows.proofs.FieldsFacts.{eight_fields}
use Rattle.csv_rows.proofs.fields.fields_in.Goals as goal

pub returns : goal.returns
returns c =
    eight_fields _ _ _ _ _ _ _ _ _ (sym c.len.ensures ∙ c.if-len-ne8.false) c.field_in.ensures c.field_in-2.ensures c.field_in-3.ensures c.field_in-4.ensures c.field_in-5.ensures c.field_in-6.ensures
    c.field_in-7.ensures c.field_in-8.ensures
