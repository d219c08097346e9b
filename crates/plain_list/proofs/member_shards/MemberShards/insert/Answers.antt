use Rattle.std.proofs.Common.{◌≡◌, rules, ◌∙◌, sym, if◌then◌else◌}
use Rattle.std.specs.Option.{is_none}
use Rattle.plain_list.proofs.member_shards.MemberShards.insert.Goals as goal
use Rattle.plain_list.proofs.MemberMaps.{on_err_anyway}
use Rattle.plain_list.proofs.ShardChanges.{Reads, below_made, found_made, room_made, same_made, inserts}

pub insert-requires : goal.insert-requires
insert-requires c =
    let reads : Reads c.make_shards.new.shards.items c.args.id c.shard_of.result c.index_mut.result.now = record { index = c.shard_of.ensures.index; lt = below_made c.shard_of.result c.self.invariant c.in_ok-make_shards.ensures.ok c.shard_of.ensures.within; is = c.index_mut.ensures.value } in
    record { room = room_made c.self.invariant c.in_ok-make_shards.ensures.ok reads (rw (← c.self.view_is) at c.requires.room) }

pub invariant_of-self-in_err-there : goal.invariant_of-self-in_err-there
invariant_of-self-in_err-there c =
    let reads : Reads c.make_shards.new.shards.items c.args.id c.shard_of.result c.index_mut.result.now = record { index = c.shard_of.ensures.index; lt = below_made c.shard_of.result c.self.invariant c.in_ok-make_shards.ensures.ok c.shard_of.ensures.within; is = c.index_mut.ensures.value } in
    (same_made c.self.invariant c.in_ok-make_shards.ensures.ok reads c.insert.new.self c.in_err-there.ensures.err).all

pub returns-in_err-there-clause-err : goal.returns-in_err-there-clause-err
returns-in_err-there-clause-err c =
    let reads : Reads c.make_shards.new.shards.items c.args.id c.shard_of.result c.index_mut.result.now = record { index = c.shard_of.ensures.index; lt = below_made c.shard_of.result c.self.invariant c.in_ok-make_shards.ensures.ok c.shard_of.ensures.within; is = c.index_mut.ensures.value } in
    let same = same_made c.self.invariant c.in_ok-make_shards.ensures.ok reads c.insert.new.self c.in_err-there.ensures.err in
    on_err_anyway c.from_residual-in_err-there.result _ (rw (← c.self.view_is) same.now)

pub returns-in_err-there-clause-world : goal.returns-in_err-there-clause-world
returns-in_err-there-clause-world c = (invariant_of-self-in_err-there c).world

pub returns-in_err-there-clause-absent : goal.returns-in_err-there-clause-absent
returns-in_err-there-clause-absent c =
    let reads : Reads c.make_shards.new.shards.items c.args.id c.shard_of.result c.index_mut.result.now = record { index = c.shard_of.ensures.index; lt = below_made c.shard_of.result c.self.invariant c.in_ok-make_shards.ensures.ok c.shard_of.ensures.within; is = c.index_mut.ensures.value } in
    let found = found_made c.self.invariant c.in_ok-make_shards.ensures.ok reads in
    on_err_anyway c.from_residual-in_err-there.result _ (rw (← c.self.view_is) (sym found ∙ c.in_err-there.ensures.absent))

pub invariant_of-self-2 : goal.invariant_of-self-2
invariant_of-self-2 c =
    let reads : Reads c.make_shards.new.shards.items c.args.id c.shard_of.result c.index_mut.result.now = record { index = c.shard_of.ensures.index; lt = below_made c.shard_of.result c.self.invariant c.in_ok-make_shards.ensures.ok c.shard_of.ensures.within; is = c.index_mut.ensures.value } in
    let one : c.from.result ≡ (if is_none c.in_ok-there.there then 1 else 0) = search rules in
    let few = rw (← c.self.view_is) at c.requires.room in
    (inserts c.self.invariant c.in_ok-make_shards.ensures.ok reads c.args.to c.insert.new.self c.in_ok-there.there c.from.result c.coordinates_fit.ensures few c.in_ok-there.ensures.ok.found c.in_ok-there.ensures.ok.is one).all

pub returns : goal.returns
returns c =
    let reads : Reads c.make_shards.new.shards.items c.args.id c.shard_of.result c.index_mut.result.now = record { index = c.shard_of.ensures.index; lt = below_made c.shard_of.result c.self.invariant c.in_ok-make_shards.ensures.ok c.shard_of.ensures.within; is = c.index_mut.ensures.value } in
    let one : c.from.result ≡ (if is_none c.in_ok-there.there then 1 else 0) = search rules in
    let few = rw (← c.self.view_is) at c.requires.room in
    let is = inserts c.self.invariant c.in_ok-make_shards.ensures.ok reads c.args.to c.insert.new.self c.in_ok-there.there c.from.result c.coordinates_fit.ensures few c.in_ok-there.ensures.ok.found c.in_ok-there.ensures.ok.is one in
    record { ok = record { found = rw (← c.self.view_is) is.found; is = rw (← c.self.view_is) is.is }; err = tt; absent = tt; world = is.all.world }
