use Rattle.std.proofs.Common.{◌∙◌, sym, ap}
use Rattle.point_table.specs.Crowded.{Crowd}
use Rattle.point_table.specs.Sized.{StandsBySize}
use Rattle.point_table.proofs.Anew.{crowded_of-sized}
use Rattle.point_table.proofs.table.PointTable.take_index.Goals as goal

pub invariant_of-self : goal.invariant_of-self
invariant_of-self g c =
    let inside = c.self.inside in
    let by : StandsBySize g.I.Index.WIDTH inside.size inside.members (g.I.Index.leaves c.args.index) = rw (← c.self.view_is) at c.requires in
    record {
      world = c.self.invariant.world;
      rows = by.stands.rows;
      crowded = ap (λ (crowd : Crowd). crowd.names) c.new.ensures ∙ sym (crowded_of-sized g.I.Index.WIDTH inside.size inside.members (g.I.Index.leaves c.args.index) c.self.invariant.world by);
    }
