use Rattle.std.proofs.Common.{rules, ◌∙◌}
use Rattle.plain_list.proofs.member_shards.MemberShards.position.Goals as goal
use Rattle.plain_list.proofs.ShardChanges.{Reads, found_in}

pub returns : goal.returns
returns c =
    let reads : Reads c.self.inside.shards.items c.args.id c.shard_of.result c.index.result.now = record { index = c.shard_of.ensures.index; lt = search rules; is = c.index.ensures } in
    rw (← c.self.view_is) (c.position.ensures ∙ found_in c.self.invariant reads)
