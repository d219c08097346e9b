-- What was found in a box so far.
use Rattle.std.specs.Prelude.{◌≡◌, ◌≤◌, ◌<◌, ◌+◌, ◌^◌, ◌++◌, ⊤, List, length, Result, OnOk}
use Rattle.zorder.specs.declared.points.Placed.{Placed}
use Rattle.bucket_versions.specs.declared.row.Row.{Row}
use Rattle.table_share.specs.Objects.{objects_of}
use Rattle.plain_list.specs.Queries.{most_listed}
use Rattle.plain_list.specs.declared.ops.Answer.{Answer}
use Rattle.plain_list.specs.declared.ops.Answer.TheVariants.{Found}
use Rattle.range_query.specs.declared.found.Listing.{Listing}

-- the count is the number of objects, and the list has them if they are at most 2,048
pub record IsListing (ms : List Placed) (listing : Listing) : Type 0 where
  pub count : listing.count ≡ length ms
  pub items : length ms ≤ most_listed → listing.list.items ≡ ms
  pub few : length listing.list.items ≤ most_listed

-- the objects `more` are appended, if their total fits in 64 bits
abbrev pub Adds : {T E : Type 0} → Result T E → List Placed → Listing → Listing → Type 0
Adds result more old new = (ms : List Placed) → length ms + length more < 2 ^ 64 → IsListing ms old → OnOk result (IsListing (ms ++ more) new)

-- the same for the objects that rows represent
abbrev pub AddsAll : {T E : Type 0} → Result T E → List Row → Listing → Listing → Type 0
AddsAll result rows old new = (ms : List Placed) → length ms + length rows < 2 ^ 64 → IsListing ms old → OnOk result (IsListing (ms ++ objects_of rows) new)

-- P holds if the answer lists objects
abbrev pub OnFound : Answer → Type 0 → Type 0
OnFound (Found ms) P = P
OnFound _ P = ⊤
