use Rattle.std.proofs.Common.{◌≡◌, ◌+◌, ◌≤◌, true, length, map, [], ◌∷◌, ◌++◌, ap, ◌∙◌, arith}
use Rattle.std.specs.Ordering.{nat_cmp}
use Rattle.std.specs.BTreeMap.{insert_entry, is_at}
use Rattle.std.specs.Map.{lookup}
use Rattle.zorder.specs.Name.{first_key}
use Rattle.plain_list.proofs.MemberMaps.{inserted_there}
use Rattle.recovery.specs.declared.leaf_map.MarkedLeaf.{MarkedLeaf}
use Rattle.recovery.specs.LeafMap.{leaves_of, keyed, halved, new_leaf}
use Rattle.recovery.proofs.LeafMaps.{lookup-leaf, lookup-beside, keyed-halved, leaves_of-keyed, IsLeafMap-halved}
use Rattle.recovery.proofs.leaf_map.LeafMap.halve.Goals as goal

pub invariant_of-self-2 : goal.invariant_of-self-2
invariant_of-self-2 c =
    let name = c.args.name.now in
    let ls = leaves_of c.self.inside.leaves.entries in
    let room : length name + 1 ≤ 64 = omega (arith, c.requires.short) in
    let leaf = rw (← c.self.view_is) at c.requires.leaf in
    let second = c.new_leaf-second.ensures ∙ ap new_leaf c.child.ensures in
    let at_second = c.bits.ensures ∙ ap (λ (l : MarkedLeaf). first_key l.name) second in
    let mid : c.insert.new.self.entries ≡ insert_entry nat_cmp (map keyed ls) (first_key (name ++ true ∷ [])) (new_leaf (name ++ true ∷ []))
    = c.in_ok-insert.ensures.entries ∙ (λ i. insert_entry nat_cmp (c.self.invariant.keys i) (at_second i) (second i)) in
    let first = c.new_leaf.ensures ∙ ap new_leaf c.child-2.ensures in
    let there = ap (λ k. lookup (is_at (nat_cmp k)) c.insert.new.self.entries) c.bits-2.ensures ∙ ap (lookup (is_at (nat_cmp (first_key name)))) mid
    ∙ lookup-beside 0 ls name (new_leaf (name ++ true ∷ [])) room c.self.invariant.tile ∙ (lookup-leaf 0 ls name c.self.invariant.tile leaf).1 in
    let last : c.insert-2.new.self.entries ≡ insert_entry nat_cmp c.insert.new.self.entries c.bits-2.result c.new_leaf.result
    = inserted_there c.insert-2.result _ _ _ c.insert-2.ensures.entries c.insert-2.ensures.absent there in
    IsLeafMap-halved c.insert-2.new.self.entries ls name room
    (last ∙ (λ i. insert_entry nat_cmp (mid i) (c.bits-2.ensures i) (first i)) ∙ keyed-halved 0 ls name room c.self.invariant.tile leaf) c.self.invariant.tile

pub returns-clause-ok : goal.returns-clause-ok
returns-clause-ok c =
    let name = c.args.name.now in
    let ls = leaves_of c.self.inside.leaves.entries in
    let room : length name + 1 ≤ 64 = omega (arith, c.requires.short) in
    let leaf = rw (← c.self.view_is) at c.requires.leaf in
    let second = c.new_leaf-second.ensures ∙ ap new_leaf c.child.ensures in
    let at_second = c.bits.ensures ∙ ap (λ (l : MarkedLeaf). first_key l.name) second in
    let mid : c.insert.new.self.entries ≡ insert_entry nat_cmp (map keyed ls) (first_key (name ++ true ∷ [])) (new_leaf (name ++ true ∷ []))
    = c.in_ok-insert.ensures.entries ∙ (λ i. insert_entry nat_cmp (c.self.invariant.keys i) (at_second i) (second i)) in
    let first = c.new_leaf.ensures ∙ ap new_leaf c.child-2.ensures in
    let there = ap (λ k. lookup (is_at (nat_cmp k)) c.insert.new.self.entries) c.bits-2.ensures ∙ ap (lookup (is_at (nat_cmp (first_key name)))) mid
    ∙ lookup-beside 0 ls name (new_leaf (name ++ true ∷ [])) room c.self.invariant.tile ∙ (lookup-leaf 0 ls name c.self.invariant.tile leaf).1 in
    let last : c.insert-2.new.self.entries ≡ insert_entry nat_cmp c.insert.new.self.entries c.bits-2.result c.new_leaf.result
    = inserted_there c.insert-2.result _ _ _ c.insert-2.ensures.entries c.insert-2.ensures.absent there in
    rw (← c.self.view_is) (ap leaves_of (last ∙ (λ i. insert_entry nat_cmp (mid i) (c.bits-2.ensures i) (first i)) ∙ keyed-halved 0 ls name room c.self.invariant.tile leaf) ∙ leaves_of-keyed (halved name ls))
