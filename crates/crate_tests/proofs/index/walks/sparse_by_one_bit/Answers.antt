use Rattle.std.proofs.Common.{◌≡◌, ◌∙◌, ap, sym, subst, refl, ℕ, Bool, true, false, List, [], ◌∷◌, ◌++◌}
use Rattle.zorder.specs.Name.{first_key}
use Rattle.index_build.specs.Grown.{IsGrown}
use Rattle.crate_tests.proofs.index.walks.sparse_by_one_bit.Goals as goal

four : IsGrown 1 ((false ∷ false ∷ false ∷ []) ∷ (false ∷ false ∷ true ∷ []) ∷ (false ∷ true ∷ []) ∷ (true ∷ []) ∷ [])
unfolding first_key
four = record { tile = refl; splits = (refl, (refl, (refl, (refl, tt)))) }

alike : (w : ℕ) (a b c d : List Bool) → w ≡ 1 → a ≡ false ∷ false ∷ false ∷ [] → b ≡ false ∷ false ∷ true ∷ [] → c ≡ false ∷ true ∷ [] → d ≡ true ∷ [] → IsGrown w (a ∷ b ∷ c ∷ d ∷ [])
alike w a b c d v e f g h =
    subst (λ (w : ℕ). IsGrown w (a ∷ b ∷ c ∷ d ∷ [])) (sym v)
    (subst (λ (n : List Bool). IsGrown 1 (n ∷ b ∷ c ∷ d ∷ [])) (sym e)
    (subst (λ (n : List Bool). IsGrown 1 ((false ∷ false ∷ false ∷ []) ∷ n ∷ c ∷ d ∷ [])) (sym f)
    (subst (λ (n : List Bool). IsGrown 1 ((false ∷ false ∷ false ∷ []) ∷ (false ∷ false ∷ true ∷ []) ∷ n ∷ d ∷ [])) (sym g)
    (subst (λ (n : List Bool). IsGrown 1 ((false ∷ false ∷ false ∷ []) ∷ (false ∷ false ∷ true ∷ []) ∷ (false ∷ true ∷ []) ∷ n ∷ [])) (sym h) four))))

pub build-requires : goal.build-requires
build-requires g c =
    alike g.I.Index.WIDTH c.first_eighth-first.result c.second_eighth-second.result c.child-beside.result c.child-behind.result c.requires c.first_eighth-first.ensures c.second_eighth-second.ensures
    (c.child-beside.ensures ∙ ap (λ (n : List Bool). n ++ true ∷ []) c.half.ensures) (c.child-behind.ensures ∙ ap (λ (n : List Bool). n ++ true ∷ []) c.whole.ensures)
