use Rattle.std.specs.Arc.{arc_value}
use Rattle.std.proofs.Common.{subst, sym}
use Rattle.split_prepare.specs.Prepared.{PreparedView}
use Rattle.sessions.specs.Splits.{BegunEnds, HasBegun}
use Rattle.sessions.proofs.store.Store.carry_out.Goals as goal

pub returns : goal.returns
returns g c = subst (λ (p : PreparedView). BegunEnds g.I.Index.WIDTH p.number c.args.pass.now c.finish.new.pass c.finish.result) c.in-Ok.ensures.prepared c.finish.ensures

pub give_up-requires-clause-begun : goal.give_up-requires-clause-begun
give_up-requires-clause-begun g c = (c.args.ticket.now.name, (arc_value c.args.ticket.now.bucket).base, c.requires.begun)

pub finish-requires-clause-begun : goal.finish-requires-clause-begun
finish-requires-clause-begun g c = subst (λ (p : PreparedView). HasBegun c.args.pass.now p.number p.name p.base) (sym c.in-Ok.ensures.prepared) c.requires.begun
