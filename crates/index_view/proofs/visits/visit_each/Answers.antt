use Rattle.std.proofs.Common.{◌≡◌, ◌∙◌, List, length, ap, subst, arith}
use Rattle.std.specs.List.{FoldsTo}
use Rattle.zorder.specs.declared.points.Placed.{Placed}
use Rattle.index_layer.specs.Leaves.{Leaf, all_rows}
use Rattle.plain_list.specs.Queries.{members_in}
use Rattle.table_share.specs.Objects.{objects_of}
use Rattle.table_share.specs.Subtree.{subtree}
use Rattle.table_share.proofs.LeafRows.{leaves_under}
use Rattle.range_query.specs.Cut.{leaves_met, objects_held}
use Rattle.range_query.proofs.BoxLeaves.{held-met}
use Rattle.range_query.proofs.Reaches.{met-below}
use Rattle.index_view.proofs.KeyOrder.{each_visited}
use Rattle.index_view.proofs.visits.visit_each.Goals as goal

pub returns-clause-visits : goal.returns-clause-visits
returns-clause-visits g c places names are_places stands =
    let region = c.args.region.now in
    let leaves : List Leaf = g.I.Index.leaves c.args.index.now in
    let tile = (g.met.I.Index.are_leaves c.args.index.now).tile in
    let under = leaves_under places leaves stands.rows in
    let met = met-below region c.requires c.key.result c.key-2.result c.key.ensures.sum c.key.ensures.back c.key-2.ensures.sum c.key-2.ensures.back leaves tile c.reach-name.result.0 c.reach-name.ensures.some c.reach-name.ensures.over in
    let held : objects_held region (leaves_met region (subtree c.reach-name.result.0 leaves)) ≡ members_in region (objects_of (all_rows leaves)) = ap (objects_held region) met ∙ held-met region c.requires 0 leaves tile under in
    each_visited g.V.Visit.does region leaves places names c.args.visitor.now c.visit_below.new.visitor are_places stands
    (subst (λ (ms : List Placed). FoldsTo g.V.Visit.does c.args.visitor.now ms c.visit_below.new.visitor) held (c.visit_below.ensures.visits under))

pub returns-clause-opened : goal.returns-clause-opened
returns-clause-opened g c =
    let leaves : List Leaf = g.I.Index.leaves c.args.index.now in
    let met = met-below c.args.region.now c.requires c.key.result c.key-2.result c.key.ensures.sum c.key.ensures.back c.key-2.ensures.sum c.key-2.ensures.back leaves (g.met.I.Index.are_leaves c.args.index.now).tile c.reach-name.result.0 c.reach-name.ensures.some c.reach-name.ensures.over in
    omega (arith, c.visit_below.ensures.opened, ap length met)
