use Rattle.std.proofs.Common.{◌≡◌, ◌∙◌, ap, sym, subst, ℕ, Bool, true, false, List, [], ◌∷◌, ◌++◌}
use Rattle.index_build.specs.Grown.{IsGrown}
use Rattle.index_build.specs.Examples.{two_halves}
use Rattle.crate_tests.proofs.index.buckets.two_leaves.Goals as goal

pub build-requires : goal.build-requires
build-requires g c =
    let zero : c.child-zero.result ≡ false ∷ [] = c.child-zero.ensures ∙ ap (λ (n : List Bool). n ++ false ∷ []) c.whole.ensures in
    let one : c.child-one.result ≡ true ∷ [] = c.child-one.ensures ∙ ap (λ (n : List Bool). n ++ true ∷ []) c.whole-2.ensures in
    subst (λ (w : ℕ). IsGrown w (c.child-zero.result ∷ c.child-one.result ∷ [])) (sym c.requires)
    (subst (λ (n : List Bool). IsGrown 1 (n ∷ c.child-one.result ∷ [])) (sym zero) (subst (λ (n : List Bool). IsGrown 1 ((false ∷ []) ∷ n ∷ [])) (sym one) two_halves))
