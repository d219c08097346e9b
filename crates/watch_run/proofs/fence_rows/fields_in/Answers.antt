use Rattle.std.proofs.Common.{◌∙◌, sym}
use Rattle.watch_run.proofs.FenceRowsFacts.{five_fields}
use Rattle.watch_run.proofs.fence_rows.fields_in.Goals as goal

pub returns : goal.returns
returns c = five_fields _ _ _ _ _ _ (sym c.len.ensures ∙ c.if-len-ne5.false) c.field_in.ensures c.field_in-2.ensures c.field_in-3.ensures c.field_in-4.ensures c.field_in-5.ensures
