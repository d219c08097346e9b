use Rattle.point_table.proofs.Nets.{leaves_at}
use Rattle.point_table.proofs.table.plans.leave.Goals as goal

pub returns : goal.returns
returns c = leaves_at c.args.id c.args.now c.args.left.now.entries c.insert.new.self.entries c.in_ok-insert.ensures.updates.0
