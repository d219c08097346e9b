use Rattle.std.proofs.Common.{◌≡◌, subst, List, Some, get_or}
use Rattle.index_layer.specs.Leaves.{Leaf, leaf_under}
use Rattle.flat_index.specs.declared.leaf.FlatLeaf.{FlatLeaf}
use Rattle.flat_index.specs.Seen.{seen}
use Rattle.flat_index.proofs.SeenLeaves.{found_at}
use Rattle.flat_index.proofs.flat.FlatIndexIndex.leaf_of.Goals as goal

pub returns : goal.returns
returns c =
    let P : List FlatLeaf → Type 0 = λ xs. (d : Leaf) → leaf_under c.args.key (seen xs) ≡ Some (get_or (seen xs) c.place_of.result d) in
    found_at c.args.self.now.leaves.items c.args.key c.place_of.result c.index-leaf.result.now c.index-leaf.ensures (subst P c.deref.ensures.value c.place_of.ensures.found)
