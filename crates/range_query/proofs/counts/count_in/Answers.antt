use Rattle.std.proofs.Common.{◌≡◌, ◌∙◌, ◌^◌, ◌<◌, List, length, ap, sym, subst, arith}
use Rattle.index_layer.specs.Leaves.{Leaf, all_rows}
use Rattle.table_share.proofs.LeafRows.{leaves_under}
use Rattle.range_query.specs.Cut.{number_in, below_met}
use Rattle.range_query.proofs.BoxCounts.{number_of_places, number-fits}
use Rattle.range_query.proofs.BoxLeaves.{held-met}
use Rattle.range_query.proofs.Reaches.{short-some, met-below, cut-below}
use Rattle.range_query.proofs.counts.count_in.Goals as goal

pub number_below-requires-clause-area : goal.number_below-requires-clause-area
number_below-requires-clause-area g c = record {
  is = c.region-area.ensures.value;
  short = short-some c.reach-name.result.0 (g.I.Index.leaves c.args.index.now) (g.met.I.Index.are_leaves c.args.index.now).tile c.reach-name.ensures.some;
}

pub returns-clause-number : goal.returns-clause-number
returns-clause-number g c places names are_places stands =
    let region = c.args.region.now in
    let leaves : List Leaf = g.I.Index.leaves c.args.index.now in
    let tile = (g.met.I.Index.are_leaves c.args.index.now).tile in
    let under = leaves_under places leaves stands.rows in
    let met = met-below region c.requires c.key.result c.key-2.result c.key.ensures.sum c.key.ensures.back c.key-2.ensures.sum c.key-2.ensures.back leaves tile c.reach-name.result.0 c.reach-name.ensures.some c.reach-name.ensures.over in
    let all : number_in region (all_rows (below_met region c.reach-name.result.0 leaves)) ≡ number_in region (all_rows leaves) =
    ap (λ (ls : List Leaf). number_in region (all_rows ls)) met ∙ ap length (held-met region c.requires 0 leaves tile under) in
    c.number_below.ensures.number under (subst (λ n. n < 2 ^ 64) (sym all) (number-fits region leaves places names are_places stands)) ∙ all ∙ number_of_places region leaves places names are_places stands

pub returns-clause-opened : goal.returns-clause-opened
returns-clause-opened g c =
    let leaves : List Leaf = g.I.Index.leaves c.args.index.now in
    let cut = cut-below c.args.region.now c.requires c.key.result c.key-2.result c.key.ensures.sum c.key.ensures.back c.key-2.ensures.sum c.key-2.ensures.back leaves (g.met.I.Index.are_leaves c.args.index.now).tile c.reach-name.result.0 c.reach-name.ensures.some c.reach-name.ensures.over in
    omega (arith, c.number_below.ensures.opened, ap length cut)
