use Rattle.std.proofs.Common.{◌≡◌, sym, ◌∙◌, None}
use Rattle.plain_list.specs.World.{position_of}
use Rattle.plain_list.specs.MemberMap.{world_of}
use Rattle.plain_list.proofs.member_map.MemberMap.insert.Goals as goal
use Rattle.plain_list.proofs.MemberMaps.{position_of-world_of, inserts, on_err_anyway}

pub returns-in_err-insert-clause-absent : goal.returns-in_err-insert-clause-absent
returns-in_err-insert-clause-absent c =
    let none : position_of (world_of c.self.inside.positions.entries) c.args.id ≡ None = position_of-world_of c.self.inside.positions.entries c.args.id ∙ c.in_err-insert.ensures.absent in
    on_err_anyway c.from_residual.result (position_of c.args.self.now c.args.id ≡ None) (rw (← c.self.view_is) none)

pub invariant_of-self-2 : goal.invariant_of-self-2
invariant_of-self-2 c =
    let es = c.self.inside.positions.entries in
    let few = rw (← c.self.view_is) at c.requires.room in
    let there = position_of-world_of es c.args.id ∙ sym c.in_ok-insert.ensures.old in
    rw c.in_ok-insert.ensures.entries (inserts c.args.id c.args.to c.in_ok-insert.field-0 es c.self.invariant few c.coordinates_fit.ensures there).world

pub returns-clause-ok : goal.returns-clause-ok
returns-clause-ok c =
    let es = c.self.inside.positions.entries in
    let few = rw (← c.self.view_is) at c.requires.room in
    let there = position_of-world_of es c.args.id ∙ sym c.in_ok-insert.ensures.old in
    record {
      found = c.in_ok-insert.ensures.old ∙ sym (rw (← c.self.view_is) (position_of-world_of es c.args.id));
      is = rw (← c.self.view_is, c.in_ok-insert.ensures.entries) (inserts c.args.id c.args.to c.in_ok-insert.field-0 es c.self.invariant few c.coordinates_fit.ensures there).is;
    }

pub returns-clause-world : goal.returns-clause-world
returns-clause-world c = invariant_of-self-2 c
