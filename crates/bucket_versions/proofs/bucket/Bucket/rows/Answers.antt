use Rattle.std.proofs.Common.{rules}
use Rattle.bucket_versions.proofs.bucket.Bucket.rows.Goals as goal

pub returns-clause-steps : goal.returns-clause-steps
returns-clause-steps g c = search rules
