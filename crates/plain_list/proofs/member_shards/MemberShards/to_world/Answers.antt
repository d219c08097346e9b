use Rattle.std.proofs.Common.{◌≡◌, ◌∙◌, List, length, sym, ap, subst, rules}
use Rattle.std.specs.List.Sorted.{IsPermutation, IsSortedBy}
use Rattle.std.proofs.lemmas.Fn.{always_returns_same}
use Rattle.plain_list.specs.World.{World, IsWorld}
use Rattle.plain_list.specs.MemberShards.{joined, in_turn}
use Rattle.plain_list.proofs.InTurn.{length-in_turn, has_less_id, in_turn_sorted}
use Rattle.plain_list.proofs.member_shards.MemberShards.to_world.Goals as goal

sorted_is : (shards now : List World) (listed sorted : World) → now ≡ shards → listed ≡ in_turn now → IsWorld (joined shards) → IsPermutation listed sorted → IsSortedBy has_less_id sorted → sorted ≡ joined shards
sorted_is shards now listed sorted same is w shuffled in_order =
    in_turn_sorted shards sorted w.rising (subst (λ (l : World). IsPermutation l sorted) (is ∙ ap in_turn same) shuffled) in_order

pub in_turn-requires : goal.in_turn-requires
in_turn-requires c = c.self.invariant.len ∙ length-in_turn c.self.inside.shards.items ∙ ap (λ (shards : List World). length (in_turn shards)) (sym c.deref.ensures.value)

pub from_vec-requires : goal.from_vec-requires
from_vec-requires c =
    let in_order = c.sort_unstable_by_key.ensures.sorted (λ m. m.id) (always_returns_same _ _ _ (λ a r q k. search rules)) in
    let is = sorted_is c.self.inside.shards.items c.deref.result.now c.in_ok-members.members.items c.sort_unstable_by_key.new.self.items c.deref.ensures.value c.in_ok-members.ensures c.self.invariant.world c.sort_unstable_by_key.ensures.permutation in_order in
    subst IsWorld (sym is) c.self.invariant.world

pub returns : goal.returns
returns c =
    let in_order = c.sort_unstable_by_key.ensures.sorted (λ m. m.id) (always_returns_same _ _ _ (λ a r q k. search rules)) in
    let is = sorted_is c.self.inside.shards.items c.deref.result.now c.in_ok-members.members.items c.sort_unstable_by_key.new.self.items c.deref.ensures.value c.in_ok-members.ensures c.self.invariant.world c.sort_unstable_by_key.ensures.permutation in_order in
    c.from_vec.ensures ∙ is ∙ c.self.view_is
