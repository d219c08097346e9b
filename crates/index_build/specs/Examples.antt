-- Worked values, computed.
use Rattle.std.specs.Prelude.{true, false, [], ◌∷◌}
use Rattle.std.proofs.Common.{refl}
use Rattle.zorder.specs.Name.{first_key}
use Rattle.index_build.specs.Grown.{IsGrown}

-- the two halves of the space, after one split into two leaves
pub two_halves : IsGrown 1 ((false ∷ []) ∷ (true ∷ []) ∷ [])
unfolding first_key
two_halves = record { tile = refl; splits = (refl, (refl, tt)) }

-- the four quarters of the space, after one split into four leaves
pub four_quarters : IsGrown 2 ((false ∷ false ∷ []) ∷ (false ∷ true ∷ []) ∷ (true ∷ false ∷ []) ∷ (true ∷ true ∷ []) ∷ [])
unfolding first_key
four_quarters = record { tile = refl; splits = (refl, (refl, (refl, (refl, tt)))) }
