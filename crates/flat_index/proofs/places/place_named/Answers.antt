use Rattle.std.proofs.Common.{◌≡◌, ◌∙◌, ℕ, sym, ap, get_or, Some}
use Rattle.zorder.specs.Name.{first_key}
use Rattle.zorder.specs.SameName.{same_name-decides}
use Rattle.index_layer.specs.Leaves.{Leaf, leaf_under}
use Rattle.index_layer.proofs.LeafNames.{has_name-first}
use Rattle.flat_index.specs.Seen.{seen, seen_leaf}
use Rattle.flat_index.proofs.SeenLeaves.{seen-read, seen-get_or}
use Rattle.flat_index.proofs.places.place_named.Goals as goal

pub returns-then-eq-clause-named : goal.returns-then-eq-clause-named
returns-then-eq-clause-named c = λ d.
    ap (λ (l : Leaf). l.name) (seen-read c.args.leaves.now c.place_of-place.result c.index-leaves-place.result d c.place_of-place.ensures.within c.index-leaves-place.is ∙ ap seen_leaf c.index-leaves-place.is)
    ∙ (same_name-decides (get_or c.args.leaves.now c.place_of-place.result c.index-leaves-place.result).name c.args.name.now).0 (sym c.if-eq.ensures)

pub returns-else-eq-clause-within : goal.returns-else-eq-clause-within
returns-else-eq-clause-within c =
    let l = seen_leaf (get_or c.args.leaves.now c.place_of-place.result c.index-leaves-place.result) in
    let found : leaf_under (first_key c.args.name.now) (seen c.args.leaves.now) ≡ Some l =
    ap (λ (k : ℕ). leaf_under k (seen c.args.leaves.now)) (sym c.bits.ensures) ∙ c.place_of-place.ensures.found (seen_leaf c.index-leaves-place.result)
    ∙ ap Some (seen-get_or c.args.leaves.now c.place_of-place.result c.index-leaves-place.result) in
    has_name-first (seen c.args.leaves.now) c.requires.tile c.args.name.now l found ∙ sym c.if-eq.ensures

pub returns-then-eq-clause-there : goal.returns-then-eq-clause-there
returns-then-eq-clause-there c =
    let l = seen_leaf (get_or c.args.leaves.now c.place_of-place.result c.index-leaves-place.result) in
    let found : leaf_under (first_key c.args.name.now) (seen c.args.leaves.now) ≡ Some l =
    ap (λ (k : ℕ). leaf_under k (seen c.args.leaves.now)) (sym c.bits.ensures) ∙ c.place_of-place.ensures.found (seen_leaf c.index-leaves-place.result)
    ∙ ap Some (seen-get_or c.args.leaves.now c.place_of-place.result c.index-leaves-place.result) in
    has_name-first (seen c.args.leaves.now) c.requires.tile c.args.name.now l found ∙ sym c.if-eq.ensures
