use Rattle.std.proofs.Common.{rules}
use Rattle.bucket_versions.proofs.bucket.in_place.pass.Goals as goal

pub returns-clause-count : goal.returns-clause-count
returns-clause-count g c = search rules
