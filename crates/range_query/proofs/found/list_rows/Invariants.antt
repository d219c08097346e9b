use Rattle.std.proofs.Common.{◌≤◌, ◌+◌, ◌<◌, ◌^◌, List, length}
use Rattle.zorder.specs.declared.points.Placed.{Placed}
use Rattle.range_query.specs.Cut.{number_in}
use Rattle.range_query.specs.Listing.{IsListing}
use Rattle.range_query.proofs.Listings.{Passed}
use Rattle.range_query.proofs.found.list_rows.Given as goal

-- the objects of the rows that are gone were added
abbrev pub invariant-loop-row : goal.invariant-loop-row
invariant-loop-row g l =
    (l.fn.found.count ≤ l.found.count)
    × ((ms : List Placed) → length ms + number_in l.region l.bucket.rows < 2 ^ 64 → IsListing ms l.fn.found → Passed l.region ms l.bucket.rows l.row-iterator l.found)
