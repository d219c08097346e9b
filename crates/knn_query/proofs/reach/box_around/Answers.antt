use Rattle.zorder.specs.declared.points.Region.{Region}
use Rattle.knn_query.proofs.Reaches.{outside-far}
use Rattle.knn_query.proofs.reach.box_around.Goals as goal

pub returns : goal.returns
returns c p at out =
    let b : Region = record {
      lo = record { x = c.saturating_sub.result; y = c.saturating_sub-2.result };
      hi = record { x = c.saturating_add.result; y = c.saturating_add-2.result };
    } in
    outside-far c.args.middle p c.args.side b
    (record { left = c.saturating_sub.ensures; low = c.saturating_sub-2.ensures; right = c.saturating_add.ensures; high = c.saturating_add-2.ensures })
    c.coordinates_fit.ensures at out
