use Rattle.std.proofs.Common.{◌≡◌, ◌∙◌, ◌+◌, ◌-◌, ◌<◌, true, false, List, [], ◌∷◌, ◌++◌, length, map, take, drop, sym, subst, ap, arith}
use Rattle.std.specs.List.{AllByRecursion}
use Rattle.std.specs.Arc.{arc_value}
use Rattle.std.proofs.lemmas.List.{length-map}
use Rattle.zorder.specs.Tile.{children}
use Rattle.bucket_versions.specs.Rows.{Rows, IsRows}
use Rattle.index_layer.specs.Leaves.{Leaf, AreLeaves, leaves_of, split}
use Rattle.index_layer.proofs.Children.{two_items}
use Rattle.index_layer.proofs.LeafChanges.{leaf_at, AreLeaves-split}
use Rattle.flat_index.specs.declared.leaf.FlatLeaf.{FlatLeaf}
use Rattle.flat_index.specs.Seen.{seen, seen_leaf}
use Rattle.flat_index.proofs.SeenLeaves.{length-seen}
use Rattle.flat_index.proofs.SeenChanges.{two_more, split-place}
use Rattle.flat_index.proofs.flat.with_children.Goals as goal

pub returns : goal.returns
returns c =
    let xs = c.args.leaves.now in
    let name = c.args.name.now in
    let none : Leaf = leaf_at [] (record { base = []; rows = [] }) in
    let lt : c.args.place < length (seen c.args.leaves.now) = omega (arith, c.requires.stands.within, length-seen c.args.leaves.now) in
    let buckets : map arc_value c.args.children.now ≡ arc_value c.index-children-0.result ∷ arc_value c.index-children-1.result ∷ [] =
    two_items arc_value c.args.children.now c.index-children-0.result c.index-children-1.result c.requires.count c.index-children-0.is c.index-children-1.is in
    let left : seen_leaf c.new.result ≡ leaf_at (name ++ false ∷ []) (arc_value c.index-children-0.result) = c.new.ensures.leaf ∙ (λ i. leaf_at (c.child.ensures i) (c.in_ok-try_clone.ensures i)) in
    let right : seen_leaf c.new-2.result ≡ leaf_at (name ++ true ∷ []) (arc_value c.index-children-1.result) = c.new-2.ensures.leaf ∙ (λ i. leaf_at (c.child-2.ensures i) (c.in_ok-try_clone-2.ensures i)) in
    let leaves : seen c.push_shared.new.into.items ≡ split 1 name (map arc_value c.args.children.now) (seen xs) =
    c.in_ok-push_shared.ensures
    ∙ ap (λ (all : List FlatLeaf). seen all ++ seen (take (length c.args.leaves.now - (c.args.place + 1)) (drop (c.args.place + 1) c.args.leaves.now)))
    (c.in_ok-push-2.ensures.items ∙ ap (λ (all : List FlatLeaf). all ++ c.new-2.result ∷ []) c.in_ok-push.ensures.items)
    ∙ two_more c.in_ok-all.all.items c.new.result c.new-2.result xs c.args.place c.in_ok-all.ensures
    ∙ (λ i. take c.args.place (seen xs) ++ left i ∷ right i ∷ drop (c.args.place + 1) (seen xs))
    ∙ ap (λ (bs : List Rows). take c.args.place (seen xs) ++ (leaves_of (children 1 name) bs ++ drop (c.args.place + 1) (seen xs))) (sym buckets)
    ∙ split-place (seen xs) c.args.place 1 name (map arc_value c.args.children.now) none c.requires.tile.tile lt (c.requires.stands.named none) in
    let InOrder : Rows → Type 0 = λ b. IsRows b.rows in
    let AllInOrder : List Rows → Type 0 = λ bs. AllByRecursion (λ (b : Rows). IsRows b.rows) bs in
    let rising = subst AllInOrder (sym buckets) (subst InOrder c.in_ok-try_clone.ensures c.new.ensures.in_order.rows, (subst InOrder c.in_ok-try_clone-2.ensures c.new-2.ensures.in_order.rows, tt)) in
    record {
      leaves = leaves;
      tile = subst AreLeaves (sym leaves) (AreLeaves-split 1 name (map arc_value c.args.children.now) c.requires.short (length-map c.args.children.now arc_value ∙ c.requires.count) (seen xs) c.requires.tile rising c.requires.under);
    }
