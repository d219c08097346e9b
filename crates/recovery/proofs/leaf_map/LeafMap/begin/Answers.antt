use Rattle.std.proofs.Common.{◌≡◌, ap, ◌∙◌}
use Rattle.std.specs.Ordering.{nat_cmp}
use Rattle.std.specs.BTreeMap.{insert_entry, is_at}
use Rattle.std.specs.Map.{lookup}
use Rattle.zorder.specs.Name.{first_key}
use Rattle.plain_list.proofs.MemberMaps.{inserted_there}
use Rattle.recovery.specs.LeafMap.{leaves_of, with_begun}
use Rattle.recovery.proofs.LeafMaps.{lookup-leaf, keyed-with_begun, leaves_of-keyed, IsLeafMap-with_begun}
use Rattle.recovery.proofs.leaf_map.LeafMap.begin.Goals as goal

pub invariant_of-self : goal.invariant_of-self
invariant_of-self c =
    let ls = leaves_of c.self.inside.leaves.entries in
    let leaf = rw (← c.self.view_is) at c.requires in
    let there = lookup-leaf 0 ls c.args.name c.self.invariant.tile leaf in
    let found = ap (lookup (is_at (nat_cmp (first_key c.args.name)))) c.self.invariant.keys ∙ there.1 in
    let new : c.insert.new.self.entries ≡ insert_entry nat_cmp c.self.inside.leaves.entries c.bits.result (record { name = c.args.name; split = c.args.number })
    = inserted_there c.insert.result _ _ _ c.insert.ensures.entries c.insert.ensures.absent (ap (λ k. lookup (is_at (nat_cmp k)) c.self.inside.leaves.entries) c.bits.ensures ∙ found) in
    IsLeafMap-with_begun c.insert.new.self.entries ls c.args.name c.args.number
    (new ∙ (λ i. insert_entry nat_cmp (c.self.invariant.keys i) (c.bits.ensures i) (record { name = c.args.name; split = c.args.number })) ∙ keyed-with_begun 0 ls c.args.name c.args.number c.self.invariant.tile leaf)
    c.self.invariant.tile

pub returns : goal.returns
returns c =
    let ls = leaves_of c.self.inside.leaves.entries in
    let leaf = rw (← c.self.view_is) at c.requires in
    let there = lookup-leaf 0 ls c.args.name c.self.invariant.tile leaf in
    let found = ap (lookup (is_at (nat_cmp (first_key c.args.name)))) c.self.invariant.keys ∙ there.1 in
    let new : c.insert.new.self.entries ≡ insert_entry nat_cmp c.self.inside.leaves.entries c.bits.result (record { name = c.args.name; split = c.args.number })
    = inserted_there c.insert.result _ _ _ c.insert.ensures.entries c.insert.ensures.absent (ap (λ k. lookup (is_at (nat_cmp k)) c.self.inside.leaves.entries) c.bits.ensures ∙ found) in
    rw (← c.self.view_is) (ap leaves_of (new ∙ (λ i. insert_entry nat_cmp (c.self.invariant.keys i) (c.bits.ensures i) (record { name = c.args.name; split = c.args.number })) ∙ keyed-with_begun 0 ls c.args.name c.args.number c.self.invariant.tile leaf)
    ∙ leaves_of-keyed (with_begun c.args.name c.args.number ls))
