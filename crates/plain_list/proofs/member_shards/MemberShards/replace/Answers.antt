use Rattle.std.proofs.Common.{rules, ◌∙◌}
use Rattle.plain_list.proofs.member_shards.MemberShards.replace.Goals as goal
use Rattle.plain_list.proofs.ShardChanges.{Reads, found_in, moved_in}

pub invariant_of-self : goal.invariant_of-self
invariant_of-self c =
    let reads : Reads c.self.inside.shards.items c.args.id c.shard_of.result c.index_mut.result.now = record { index = c.shard_of.ensures.index; lt = search rules; is = c.index_mut.ensures.value } in
    (moved_in c.self.invariant reads c.args.to c.replace.new.self c.coordinates_fit.ensures c.replace.ensures.moved).all

pub returns : goal.returns
returns c =
    let reads : Reads c.self.inside.shards.items c.args.id c.shard_of.result c.index_mut.result.now = record { index = c.shard_of.ensures.index; lt = search rules; is = c.index_mut.ensures.value } in
    let moved = moved_in c.self.invariant reads c.args.to c.replace.new.self c.coordinates_fit.ensures c.replace.ensures.moved in
    record {
      found = rw (← c.self.view_is) (c.replace.ensures.found ∙ found_in c.self.invariant reads);
      moved = rw (← c.self.view_is) moved.now;
      world = moved.all.world;
    }
