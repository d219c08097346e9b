use Rattle.std.proofs.Common.{◌∙◌, sym}
use Rattle.follow_run.proofs.TurnRowsFacts.{two_fields}
use Rattle.follow_run.proofs.turn_rows.fields_in.Goals as goal

pub returns : goal.returns
returns c = two_fields _ _ _ (sym c.len.ensures ∙ c.if-len-ne2.false) c.field_in.ensures c.field_in-2.ensures
