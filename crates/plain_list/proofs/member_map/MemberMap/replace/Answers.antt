use Rattle.std.proofs.Common.{◌≡◌, sym, ap, ◌∙◌, Some, None}
use Rattle.plain_list.specs.World.{position_of}
use Rattle.plain_list.specs.Answer.{with_moved}
use Rattle.plain_list.specs.MemberMap.{world_of}
use Rattle.std.specs.BTreeMap.{BTreeMap}
use Rattle.plain_list.proofs.member_map.MemberMap.replace.Goals as goal
use Rattle.plain_list.proofs.MemberMaps.{position_of-world_of, world_of-set_value, with_moved-none}
use Rattle.plain_list.proofs.Worlds.{IsWorld-with_moved}

pub returns-in_err-position-clause-found : goal.returns-in_err-position-clause-found
returns-in_err-position-clause-found c =
    c.from_residual.ensures ∙ c.in_err-position.ensures.value ∙ sym (rw (← c.self.view_is) (position_of-world_of c.self.inside.positions.entries c.args.id))

pub returns-in_err-position-clause-moved : goal.returns-in_err-position-clause-moved
returns-in_err-position-clause-moved c =
    let es = c.self.inside.positions.entries in
    let none : position_of (world_of es) c.args.id ≡ None = position_of-world_of es c.args.id ∙ sym c.in_err-position.ensures.value in
    rw (← c.self.view_is) (ap (λ (m : BTreeMap _ _). world_of m.entries) c.get_mut.follows.holds-at-none ∙ sym (with_moved-none c.args.id c.args.to (world_of es) none))

pub invariant_of-self-2 : goal.invariant_of-self-2
invariant_of-self-2 c =
    let es = c.self.inside.positions.entries in
    let moves = ap world_of (c.get_mut.follows.holds c.replace.new.dest).0 ∙ world_of-set_value c.args.id c.replace.new.dest es c.self.invariant.rising ∙ ap (λ at. with_moved c.args.id at (world_of es)) c.replace.ensures.after in
    rw moves (IsWorld-with_moved c.args.id c.args.to (world_of es) c.self.invariant c.coordinates_fit.ensures)

pub returns-clause-found : goal.returns-clause-found
returns-clause-found c =
    ap Some c.replace.ensures.value ∙ c.in_ok-position.ensures.value ∙ sym (rw (← c.self.view_is) (position_of-world_of c.self.inside.positions.entries c.args.id))

pub returns-clause-moved : goal.returns-clause-moved
returns-clause-moved c =
    let es = c.self.inside.positions.entries in
    let moves = ap world_of (c.get_mut.follows.holds c.replace.new.dest).0 ∙ world_of-set_value c.args.id c.replace.new.dest es c.self.invariant.rising ∙ ap (λ at. with_moved c.args.id at (world_of es)) c.replace.ensures.after in
    rw (← c.self.view_is) moves

pub returns-clause-world : goal.returns-clause-world
returns-clause-world c = invariant_of-self-2 c
