-- The value of a bucket, given by its fields.
use Rattle.bucket_versions.specs.declared.bucket.Bucket.TheInside.{Inside}
use Rattle.bucket_versions.specs.Rows.{Rows}
use Rattle.bucket_versions.specs.Content.{kept, AreKept}

-- the base and the rows of a bucket's content
abbrev pub seen : Inside → Rows
seen b = kept b.content

-- both lists are in order
abbrev pub IsBucket : Inside → Type 0
IsBucket b = AreKept b.content
