use Rattle.std.proofs.Common.{◌≤◌, length, rules, sym, subst}
use Rattle.zorder.specs.Region.{IsBox}
use Rattle.prefix_names.proofs.Corners.{IsBox-region_of}
use Rattle.knn_query.proofs.ahead.Ahead.new.Goals as goal

pub least-requires : goal.least-requires
least-requires c =
    let short : length c.args.name ≤ 64 = search rules in
    subst IsBox (sym c.requires) (IsBox-region_of c.args.name short)
