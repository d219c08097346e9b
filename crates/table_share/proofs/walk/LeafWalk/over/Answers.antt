use Rattle.std.proofs.Common.{◌≡◌, true, List, sym, subst, arith}
use Rattle.zorder.specs.Tile.{tiles_from}
use Rattle.index_layer.specs.Leaves.{Leaf, names_of}
use Rattle.index_layer.proofs.WalkLemmas.{leaves_from-tiled}
use Rattle.table_share.proofs.walk.LeafWalk.over.Goals as goal

pub invariant_of-result : goal.invariant_of-result
invariant_of-result g c =
    let leaves : List Leaf = g.I.Index.leaves c.args.index.now in
    let tile : tiles_from 0 (names_of leaves) ≡ true = (g.met.I.Index.are_leaves c.args.index.now).tile in
    (omega arith, subst (λ (ls : List Leaf). tiles_from 0 (names_of ls) ≡ true) (sym (leaves_from-tiled 0 leaves tile)) tile)

pub returns : goal.returns
returns g c = leaves_from-tiled 0 (g.I.Index.leaves c.args.index.now) (g.met.I.Index.are_leaves c.args.index.now).tile
