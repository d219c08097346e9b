use Rattle.std.proofs.Common.{[], List, refl, arith}
use Rattle.std.specs.List.{starts_with}
use mathlib.Core.Bool.{beq}
use Rattle.zorder.specs.Key.{is_under}
use Rattle.zorder.specs.Name.{first_key}
use Rattle.index_layer.specs.Leaves.{Leaf}
use Rattle.index_layer.proofs.LeafKeys.{first_key-fits, leaf_under-some}
use Rattle.index_layer.proofs.LeafNames.{front-test, among-any, find-among}
use Rattle.flat_index.specs.Seen.{seen}
use Rattle.flat_index.proofs.flat.FlatIndexIndex.top.Goals as goal

-- the name of each leaf begins with the empty one, and there is one
pub returns : goal.returns
returns c =
    let leaves : List Leaf = seen c.args.self.now.leaves.items in
    let l = leaf_under-some leaves (first_key []) c.args.self.now.are_leaves.tile (first_key-fits [] (omega arith)) in
    among-any (λ (n : Leaf). starts_with beq n.name []) leaves l.0 (find-among (λ (n : Leaf). is_under n.name (first_key [])) leaves l.0 l.1).0 (front-test [] l.0.name (l.0.name, refl))
