use Rattle.std.proofs.Common.{subst}
use Rattle.bucket_versions.specs.Rows.{AreRows}
use Rattle.bucket_versions.proofs.Contents.{kept_rising}
use Rattle.bucket_versions.proofs.bucket.Bucket.parts.Goals as goal

pub returns-clause-rising : goal.returns-clause-rising
returns-clause-rising c = subst AreRows c.self.view_is (kept_rising c.self.inside.content.base c.self.inside.content.rows c.self.invariant.base c.self.invariant.rows)
