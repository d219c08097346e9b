use Rattle.std.proofs.Common.{rules}
use Rattle.bucket_versions.proofs.bucket.Bucket.walk.Goals as goal

pub returns-clause-rows : goal.returns-clause-rows
returns-clause-rows c = search rules
