use Rattle.std.proofs.Common.{◌≡◌, ◌∙◌, ap, sym, subst, refl, ℕ, Bool, true, false, List, [], ◌∷◌, ◌++◌}
use Rattle.zorder.specs.Name.{first_key}
use Rattle.index_build.specs.Grown.{IsGrown}
use Rattle.crate_tests.proofs.index.walks.sparse_by_two_bits.Goals as goal

seven : IsGrown 2 ((false ∷ false ∷ false ∷ false ∷ []) ∷ (false ∷ false ∷ false ∷ true ∷ []) ∷ (false ∷ false ∷ true ∷ false ∷ []) ∷ (false ∷ false ∷ true ∷ true ∷ []) ∷ (false ∷ true ∷ []) ∷ (true ∷ false ∷ []) ∷ (true ∷ true ∷ []) ∷ [])
unfolding first_key
seven = record { tile = refl; splits = (refl, (refl, (refl, (refl, (refl, (refl, (refl, tt))))))) }

alike : (w : ℕ) (a b c d e f g : List Bool) → w ≡ 2 → a ≡ false ∷ false ∷ false ∷ false ∷ [] → b ≡ false ∷ false ∷ false ∷ true ∷ [] → c ≡ false ∷ false ∷ true ∷ false ∷ [] → d ≡ false ∷ false ∷ true ∷ true ∷ [] → e ≡ false ∷ true ∷ [] → f ≡ true ∷ false ∷ [] → g ≡ true ∷ true ∷ []
    → IsGrown w (a ∷ b ∷ c ∷ d ∷ e ∷ f ∷ g ∷ [])
alike w a b c d e f g v pa pb pc pd pe pf pg =
    subst (λ (w : ℕ). IsGrown w (a ∷ b ∷ c ∷ d ∷ e ∷ f ∷ g ∷ [])) (sym v)
    (subst (λ (n : List Bool). IsGrown 2 (n ∷ b ∷ c ∷ d ∷ e ∷ f ∷ g ∷ [])) (sym pa)
    (subst (λ (n : List Bool). IsGrown 2 ((false ∷ false ∷ false ∷ false ∷ []) ∷ n ∷ c ∷ d ∷ e ∷ f ∷ g ∷ [])) (sym pb)
    (subst (λ (n : List Bool). IsGrown 2 ((false ∷ false ∷ false ∷ false ∷ []) ∷ (false ∷ false ∷ false ∷ true ∷ []) ∷ n ∷ d ∷ e ∷ f ∷ g ∷ [])) (sym pc)
    (subst (λ (n : List Bool). IsGrown 2 ((false ∷ false ∷ false ∷ false ∷ []) ∷ (false ∷ false ∷ false ∷ true ∷ []) ∷ (false ∷ false ∷ true ∷ false ∷ []) ∷ n ∷ e ∷ f ∷ g ∷ [])) (sym pd)
    (subst (λ (n : List Bool). IsGrown 2 ((false ∷ false ∷ false ∷ false ∷ []) ∷ (false ∷ false ∷ false ∷ true ∷ []) ∷ (false ∷ false ∷ true ∷ false ∷ []) ∷ (false ∷ false ∷ true ∷ true ∷ []) ∷ n ∷ f ∷ g ∷ [])) (sym pe)
    (subst (λ (n : List Bool). IsGrown 2 ((false ∷ false ∷ false ∷ false ∷ []) ∷ (false ∷ false ∷ false ∷ true ∷ []) ∷ (false ∷ false ∷ true ∷ false ∷ []) ∷ (false ∷ false ∷ true ∷ true ∷ []) ∷ (false ∷ true ∷ []) ∷ n ∷ g ∷ [])) (sym pf)
    (subst (λ (n : List Bool). IsGrown 2 ((false ∷ false ∷ false ∷ false ∷ []) ∷ (false ∷ false ∷ false ∷ true ∷ []) ∷ (false ∷ false ∷ true ∷ false ∷ []) ∷ (false ∷ false ∷ true ∷ true ∷ []) ∷ (false ∷ true ∷ []) ∷ (true ∷ false ∷ []) ∷ n ∷ [])) (sym pg) seven)))))))

pub build-requires : goal.build-requires
build-requires g c =
    let right : c.child-behind.result ≡ true ∷ [] = c.child-behind.ensures ∙ ap (λ (n : List Bool). n ++ true ∷ []) c.whole.ensures in
    alike g.I.Index.WIDTH c.child-low.result c.child-high.result c.child-next_low.result c.child-next_high.result c.child-beside.result c.child-third.result c.child-last.result
    c.requires
    (c.child-low.ensures ∙ ap (λ (n : List Bool). n ++ false ∷ []) c.first_eighth-first.ensures)
    (c.child-high.ensures ∙ ap (λ (n : List Bool). n ++ true ∷ []) c.first_eighth-first.ensures)
    (c.child-next_low.ensures ∙ ap (λ (n : List Bool). n ++ false ∷ []) c.second_eighth-second.ensures)
    (c.child-next_high.ensures ∙ ap (λ (n : List Bool). n ++ true ∷ []) c.second_eighth-second.ensures)
    (c.child-beside.ensures ∙ ap (λ (n : List Bool). n ++ true ∷ []) c.half.ensures)
    (c.child-third.ensures ∙ ap (λ (n : List Bool). n ++ false ∷ []) right)
    (c.child-last.ensures ∙ ap (λ (n : List Bool). n ++ true ∷ []) right)
