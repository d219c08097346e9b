use Rattle.std.proofs.Common.{◌<◌, List, Bool, length, ap, sym, subst, arith}
use Rattle.point_table.specs.Crowded.{AreRising}
use Rattle.point_table.proofs.KeyPlaces.{length-marked, length-unmarked}
use Rattle.point_table.proofs.Rising.{AreRising-marked, AreRising-unmarked}
use Rattle.point_table.proofs.crowded.Crowded.set.Goals as goal

pub invariant_of-self : goal.invariant_of-self
invariant_of-self c =
    let some : 0 < c.self.inside.room = rw (← c.self.view_is) at c.requires in
    let names = c.self.inside.names.items in
    record {
      rising = subst AreRising (sym c.mark_name.ensures.names) (AreRising-marked c.args.name.now names c.self.invariant.rising);
      room = omega (arith, some, ap (length {A = List Bool}) c.mark_name.ensures.names, length-marked c.args.name.now names, c.self.invariant.room, c.mark_name.ensures.room);
    }

pub invariant_of-self-else-crowded : goal.invariant_of-self-else-crowded
invariant_of-self-else-crowded c =
    let some : 0 < c.self.inside.room = rw (← c.self.view_is) at c.requires in
    let names = c.self.inside.names.items in
    record {
      rising = subst AreRising (sym c.unmark_name.ensures.names) (AreRising-unmarked c.args.name.now names c.self.invariant.rising);
      room = omega (arith, some, ap (length {A = List Bool}) c.unmark_name.ensures.names, length-unmarked c.args.name.now names, c.self.invariant.room, c.unmark_name.ensures.room);
    }
