use Rattle.std.proofs.Common.{ap, ◌∙◌}
use Rattle.std.specs.Ordering.{nat_cmp}
use Rattle.std.specs.BTreeMap.{insert_entry, is_at}
use Rattle.std.specs.Map.{lookup, remove_entry}
use Rattle.zorder.specs.Name.{first_key}
use Rattle.plain_list.proofs.MemberMaps.{inserted_there}
use Rattle.recovery.specs.LeafMap.{leaves_of}
use Rattle.recovery.proofs.LeafMaps.{is_leaf_map, leaves_of-keyed}
use Rattle.recovery.proofs.Unites.{united}
use Rattle.recovery.proofs.leaf_map.LeafMap.unite.Goals as goal

pub invariant_of-self : goal.invariant_of-self
invariant_of-self c =
    let h = c.requires.halved in
    let name = c.args.name.now in
    let left = c.remove.ensures.entries ∙ ap (λ k. remove_entry (is_at (nat_cmp k)) c.self.inside.leaves.entries) (c.bits.ensures ∙ ap first_key c.child.ensures) in
    is_leaf_map c.insert.new.self.entries h.0
    (united h.0 c.args.self.now name c.args.split c.self.inside.leaves.entries c.remove.new.self.entries c.insert.new.self.entries h.1 c.self.invariant c.self.view_is left
    (λ old there. inserted_there c.insert.result _ _ _ c.insert.ensures.entries c.insert.ensures.absent (ap (λ k. lookup (is_at (nat_cmp k)) c.remove.new.self.entries) c.bits-2.ensures ∙ there)
    ∙ ap (λ k. insert_entry nat_cmp c.remove.new.self.entries k (record { name = name; split = c.args.split })) c.bits-2.ensures))
    h.1.tile

pub returns : goal.returns
returns c leaves h =
    let name = c.args.name.now in
    let left = c.remove.ensures.entries ∙ ap (λ k. remove_entry (is_at (nat_cmp k)) c.self.inside.leaves.entries) (c.bits.ensures ∙ ap first_key c.child.ensures) in
    ap leaves_of
    (united leaves c.args.self.now name c.args.split c.self.inside.leaves.entries c.remove.new.self.entries c.insert.new.self.entries h c.self.invariant c.self.view_is left
    (λ old there. inserted_there c.insert.result _ _ _ c.insert.ensures.entries c.insert.ensures.absent (ap (λ k. lookup (is_at (nat_cmp k)) c.remove.new.self.entries) c.bits-2.ensures ∙ there)
    ∙ ap (λ k. insert_entry nat_cmp c.remove.new.self.entries k (record { name = name; split = c.args.split })) c.bits-2.ensures))
    ∙ leaves_of-keyed leaves
