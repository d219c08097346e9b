use Rattle.std.proofs.Common.{◌≡◌, ◌∙◌, true, List, sym, ap}
use mathlib.Core.Bool.{true≢false}
use Rattle.index_layer.specs.Leaves.{has_name}
use Rattle.flat_index.specs.declared.leaf.FlatLeaf.{FlatLeaf}
use Rattle.flat_index.specs.Seen.{seen}
use Rattle.flat_index.proofs.flat.FlatIndexIndex.replaced.Goals as goal

pub returns-clause-no_leaf : goal.returns-clause-no_leaf
returns-clause-no_leaf c =
    let there : has_name c.args.name.now (seen c.args.self.now.leaves.items) ≡ true = ap (λ (l : List FlatLeaf). has_name c.args.name.now (seen l)) (sym c.deref.ensures.value) ∙ c.in-Some.ensures.there in
    (λ e. absurd (cc e), λ none. absurd (true≢false (sym there ∙ none)))
