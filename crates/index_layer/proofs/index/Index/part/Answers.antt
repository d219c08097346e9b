use Rattle.std.proofs.Common.{◌∙◌, ℕ, Bool, List, Some, sym, ap}
use Rattle.std.specs.Arc.{arc_value}
use Rattle.zorder.specs.SameName.{same_name-decides}
use Rattle.index_layer.specs.Leaves.{leaf_under}
use Rattle.index_layer.proofs.LeafChanges.{leaf_at}
use Rattle.index_layer.proofs.LeafNames.{has_name-first, leaf_named-first, is_inner-first}
use Rattle.index_layer.proofs.index.Index.part.Goals as goal

pub returns-then-eq : goal.returns-then-eq
returns-then-eq g c =
    let leaves = g.Self.Index.leaves c.args.self.now in
    let bucket = arc_value c.leaf_of-found.result.1.now in
    let found = ap (λ (k : ℕ). leaf_under k leaves) (sym c.bits.ensures) ∙ c.leaf_of-found.ensures in
    leaf_named-first leaves (g.met.Self.Index.are_leaves c.args.self.now).tile c.args.name.now (leaf_at c.leaf_of-found.result.0 bucket) found (sym c.if-eq.ensures)
    ∙ ap (λ (n : List Bool). Some (leaf_at n bucket)) ((same_name-decides c.leaf_of-found.result.0 c.args.name.now).0 (sym c.if-eq.ensures))

pub returns-then-goes_on : goal.returns-then-goes_on
returns-then-goes_on g c =
    let leaves = g.Self.Index.leaves c.args.self.now in
    let leaf = leaf_at c.leaf_of-found.result.0 (arc_value c.leaf_of-found.result.1.now) in
    let found = ap (λ (k : ℕ). leaf_under k leaves) (sym c.bits.ensures) ∙ c.leaf_of-found.ensures in
    let tile = (g.met.Self.Index.are_leaves c.args.self.now).tile in
    (is_inner-first leaves tile c.args.name.now leaf found ∙ sym c.if-goes_on.ensures, has_name-first leaves tile c.args.name.now leaf found ∙ sym c.if-eq.ensures)

pub returns-else-goes_on : goal.returns-else-goes_on
returns-else-goes_on g c =
    let leaves = g.Self.Index.leaves c.args.self.now in
    let leaf = leaf_at c.leaf_of-found.result.0 (arc_value c.leaf_of-found.result.1.now) in
    let found = ap (λ (k : ℕ). leaf_under k leaves) (sym c.bits.ensures) ∙ c.leaf_of-found.ensures in
    let tile = (g.met.Self.Index.are_leaves c.args.self.now).tile in
    (is_inner-first leaves tile c.args.name.now leaf found ∙ sym c.if-goes_on.ensures, has_name-first leaves tile c.args.name.now leaf found ∙ sym c.if-eq.ensures)
