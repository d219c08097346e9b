use Rattle.std.proofs.Common.{◌≡◌, ◌≤◌, ◌+◌, ◌++◌, length, vec_capacity}
use Rattle.plain_list.specs.MemberMap.{world_of}
use Rattle.plain_list.proofs.member_map.MemberMap.add_to.Given as goal

-- the list so far, and then the objects that are left, are all; the memory is what it was, and enough
abbrev pub invariant-loop-id : goal.invariant-loop-id
invariant-loop-id l =
    (l.list.items ++ world_of l.id-iterator ≡ l.fn.list.items ++ l.fn.self)
    × (length l.list.items + length (world_of l.id-iterator) ≤ vec_capacity l.list)
    × (vec_capacity l.list ≡ vec_capacity l.fn.list)
