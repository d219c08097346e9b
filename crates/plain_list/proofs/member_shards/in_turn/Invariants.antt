use Rattle.std.proofs.Common.{◌≡◌, ◌≤◌, ◌+◌, ◌++◌, drop, length, vec_capacity}
use Rattle.plain_list.specs.MemberShards.{in_turn}
use Rattle.plain_list.proofs.member_shards.in_turn.Given as goal

-- the objects so far, and then those of the shards that are left, are all, and there is memory for these
abbrev pub invariant-loop-shard : goal.invariant-loop-shard
invariant-loop-shard l =
    (l.members.items ++ in_turn (drop l.shard-index l.shards) ≡ in_turn l.shards)
    × (length l.members.items + length (in_turn (drop l.shard-index l.shards)) ≤ vec_capacity l.members)
