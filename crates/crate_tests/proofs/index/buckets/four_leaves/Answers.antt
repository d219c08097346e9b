use Rattle.std.proofs.Common.{◌≡◌, ◌∙◌, ap, sym, subst, ℕ, Bool, true, false, List, [], ◌∷◌, ◌++◌}
use Rattle.index_build.specs.Grown.{IsGrown}
use Rattle.index_build.specs.Examples.{four_quarters}
use Rattle.crate_tests.proofs.index.buckets.four_leaves.Goals as goal

alike : (w : ℕ) (a b c d : List Bool) → w ≡ 2 → a ≡ false ∷ false ∷ [] → b ≡ false ∷ true ∷ [] → c ≡ true ∷ false ∷ [] → d ≡ true ∷ true ∷ [] → IsGrown w (a ∷ b ∷ c ∷ d ∷ [])
alike w a b c d v e f g h =
    subst (λ (w : ℕ). IsGrown w (a ∷ b ∷ c ∷ d ∷ [])) (sym v)
    (subst (λ (n : List Bool). IsGrown 2 (n ∷ b ∷ c ∷ d ∷ [])) (sym e)
    (subst (λ (n : List Bool). IsGrown 2 ((false ∷ false ∷ []) ∷ n ∷ c ∷ d ∷ [])) (sym f)
    (subst (λ (n : List Bool). IsGrown 2 ((false ∷ false ∷ []) ∷ (false ∷ true ∷ []) ∷ n ∷ d ∷ [])) (sym g)
    (subst (λ (n : List Bool). IsGrown 2 ((false ∷ false ∷ []) ∷ (false ∷ true ∷ []) ∷ (true ∷ false ∷ []) ∷ n ∷ [])) (sym h) four_quarters))))

pub build-requires : goal.build-requires
build-requires g c =
    let zero : c.child-zero.result ≡ false ∷ [] = c.child-zero.ensures ∙ ap (λ (n : List Bool). n ++ false ∷ []) c.whole.ensures in
    let one : c.child-one.result ≡ true ∷ [] = c.child-one.ensures ∙ ap (λ (n : List Bool). n ++ true ∷ []) c.whole-2.ensures in
    alike g.I.Index.WIDTH c.child-first.result c.child-second.result c.child-third.result c.child-fourth.result c.requires
    (c.child-first.ensures ∙ ap (λ (n : List Bool). n ++ false ∷ []) zero) (c.child-second.ensures ∙ ap (λ (n : List Bool). n ++ true ∷ []) zero)
    (c.child-third.ensures ∙ ap (λ (n : List Bool). n ++ false ∷ []) one) (c.child-fourth.ensures ∙ ap (λ (n : List Bool). n ++ true ∷ []) one)
