use Rattle.std.proofs.Common.{◌∙◌, ap, sym}
use Rattle.bucket_versions.specs.Delta.{difference}
use Rattle.bucket_versions.specs.RowList.{rows_under}
use Rattle.bucket_versions.proofs.RowSets.{difference-none}
use Rattle.bucket_versions.proofs.row_list.RowList.parts.Goals as goal

pub returns-in-Nothing-clause-rows : goal.returns-in-Nothing-clause-rows
returns-in-Nothing-clause-rows c =
    difference-none c.deref.result.now ∙ c.deref.ensures.value ∙ sym (ap (λ u. difference (rows_under u) c.args.self.now.list.items) c.in-Nothing.is)
