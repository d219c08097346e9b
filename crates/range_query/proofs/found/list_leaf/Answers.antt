use Rattle.std.proofs.Common.{refl, arith}
use Rattle.plain_list.specs.Queries.{members_in}
use Rattle.table_share.specs.Objects.{objects_of}
use Rattle.range_query.proofs.Listings.{counted-on}
use Rattle.range_query.proofs.found.list_leaf.Goals as goal

pub returns-clause-lists : goal.returns-clause-lists
returns-clause-lists g c under ms fits is =
    let more = members_in c.args.region.now (objects_of c.args.bucket.now.rows) in
    let number = c.count_rows-count.ensures.number under (omega (arith, fits)) in
    counted-on ms more c.args.found.now (record { list = c.args.found.now.list; count = c.saturating_add-found.result }) refl (omega (arith, c.if-found-lt-MOST_LISTED.false)) (omega (arith, c.saturating_add-found.ensures, number, fits, is.count)) is
