use Rattle.std.proofs.Common.{◌≡◌, ◌∙◌, ◌+◌, ◌-◌, ◌<◌, List, ◌++◌, length, take, drop, sym, subst, ap, arith}
use Rattle.index_layer.specs.Leaves.{AreLeaves, replaced}
use Rattle.index_layer.proofs.LeafChanges.{AreLeaves-replaced}
use Rattle.flat_index.specs.declared.leaf.FlatLeaf.{FlatLeaf}
use Rattle.flat_index.specs.Seen.{seen, seen_leaf}
use Rattle.flat_index.proofs.SeenLeaves.{length-seen}
use Rattle.flat_index.proofs.SeenChanges.{one_more, replaced-place}
use Rattle.flat_index.proofs.flat.with_leaf.Goals as goal

pub returns : goal.returns
returns c =
    let xs = c.args.leaves.now in
    let l = seen_leaf c.args.leaf in
    let lt : c.args.place < length (seen c.args.leaves.now) = omega (arith, c.requires.stands.within, length-seen c.args.leaves.now) in
    let leaves : seen c.push_shared.new.into.items ≡ replaced l.name l.bucket (seen xs) =
    c.in_ok-push_shared.ensures
    ∙ ap (λ (all : List FlatLeaf). seen all ++ seen (take (length c.args.leaves.now - (c.args.place + 1)) (drop (c.args.place + 1) c.args.leaves.now))) c.in_ok-push.ensures.items
    ∙ one_more c.in_ok-all.all.items c.args.leaf xs c.args.place c.in_ok-all.ensures
    ∙ replaced-place (seen xs) c.args.place l.name l.bucket l c.requires.tile.tile lt (c.requires.stands.named l) in
    record { leaves = leaves; tile = subst AreLeaves (sym leaves) (AreLeaves-replaced l.name l.bucket (seen xs) c.requires.tile c.requires.in_order c.requires.under) }
