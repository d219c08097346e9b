use Rattle.std.proofs.Common.{◌≡◌, ◌++◌, List, OnOk, sym, subst}
use Rattle.zorder.specs.declared.points.Placed.{Placed}
use Rattle.range_query.proofs.BoxCounts.{all_held}
use Rattle.range_query.proofs.ranges.push_leaf.Goals as goal

pub returns-then-inside-clause-objects : goal.returns-then-inside-clause-objects
returns-then-inside-clause-objects g c under =
    let within = c.inside.ensures.points.0 c.if-inside.true in
    subst (λ (ms : List Placed). OnOk c.push_all.result (c.push_all.new.found.items ≡ c.args.found.now.items ++ ms))
    (sym (all_held c.region.result c.args.region.now c.args.name.now c.region.ensures.points c.args.bucket.now.rows within under)) c.push_all.ensures.objects
