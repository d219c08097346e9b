use Rattle.std.proofs.Common.{◌≡◌, ◌∙◌, ◌+◌, ◌++◌, List, drop, length, length-append, append_assoc, append-nil, sym, ap, arith}
use Rattle.std.proofs.lemmas.List.{drop_more, drop_all}
use Rattle.plain_list.specs.World.{World}
use Rattle.plain_list.specs.MemberShards.{in_turn}
use Rattle.plain_list.proofs.member_shards.in_turn.Goals as goal

pub loop-shard-init : goal.loop-shard-init
loop-shard-init c =
    let none = c.in_ok-members.ensures.items in
    (ap (λ (l : World). l ++ in_turn c.args.shards.now) none, omega (arith, ap length none, c.in_ok-members.ensures.capacity, c.requires))

pub add_to-requires : goal.add_to-requires
add_to-requires c =
    let shards = c.args.shards.now in
    let i = c.loop-shard.shard-index in
    let shard = c.shard-item.result in
    let later = in_turn (drop (i + 1) shards) in
    let next : in_turn (drop i shards) ≡ shard ++ later = ap in_turn (drop_more shards i shard c.loop-shard-test.true) ∙ ap (λ (s : World). s ++ later) (sym c.shard-item.is) in
    omega (arith, c.loop-shard.invariant.1, ap length next, length-append shard later)

pub loop-shard-preserved : goal.loop-shard-preserved
loop-shard-preserved c =
    let shards = c.args.shards.now in
    let i = c.loop-shard.shard-index in
    let shard = c.shard-item.result in
    let members = c.loop-shard.members.items in
    let later = in_turn (drop (i + 1) shards) in
    let next : in_turn (drop i shards) ≡ shard ++ later = ap in_turn (drop_more shards i shard c.loop-shard-test.true) ∙ ap (λ (s : World). s ++ later) (sym c.shard-item.is) in
    let added = c.add_to.ensures.items in (
      ap (λ (l : World). l ++ later) added ∙ append_assoc members shard later ∙ ap (λ (l : World). members ++ l) (sym next) ∙ c.loop-shard.invariant.0,
      omega (arith, c.loop-shard.invariant.1, ap length next, length-append shard later, ap length added, length-append members shard, c.add_to.ensures.capacity),
    )

pub returns : goal.returns
returns c =
    let members = c.loop-shard.members.items in
    sym (append-nil members) ∙ ap (λ (l : List World). members ++ in_turn l) (sym (drop_all c.loop-shard.shard-index c.args.shards.now c.loop-shard-test.false)) ∙ c.loop-shard.invariant.0
