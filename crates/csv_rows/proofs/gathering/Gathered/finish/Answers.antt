use Rattle.std.proofs.Common.{◌∙◌}
use Rattle.csv_rows.proofs.PiecesFacts.{puts-is}
use Rattle.csv_rows.proofs.gathering.Gathered.finish.Goals as goal

pub returns-clause-bytes : goal.returns-clause-bytes
returns-clause-bytes g c = puts-is _ _ c.as_slice.result.now _ c.put.result (c.as_slice.ensures.value ∙ c.self.view_is) c.put.ensures.bytes
