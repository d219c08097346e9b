-- The leaves that are to be split stand in the order of their keys.
use Rattle.std.proofs.Common.{◌≡◌, ℕ, suc, ◌≤◌, Bool, true, false, cond, List, [], ◌∷◌, arith}
use Rattle.zorder.specs.Name.{first_key}
use Rattle.zorder.specs.Tile.{tiles_from, next_key}
use Rattle.index_layer.specs.Leaves.{Leaf, names_of}
use Rattle.point_table.specs.Crowded.{AreFrom, AreRising}
use Rattle.point_table.specs.Crowds.{is_crowded, crowded_of}
use Rattle.point_table.proofs.Covered.{tiles}
use Rattle.point_table.proofs.CrowdLemmas.{next-above}
use Rattle.point_table.proofs.Rising.{AreFrom-lower}

rising_if : (k : ℕ) (b : Bool) (name : List Bool) (names : List (List Bool)) → k ≤ first_key name → AreFrom (next_key name) names × AreRising names
    → AreFrom k (cond b (name ∷ names) names) × AreRising (cond b (name ∷ names) names)
rising_if k true name names le rest =
    ((le, AreFrom-lower k (next_key name) names (omega (arith, le, next-above name)) rest.0), (AreFrom-lower (suc (first_key name)) (next_key name) names (omega (arith, next-above name)) rest.0, rest.1))
rising_if k false name names le rest = (AreFrom-lower k (next_key name) names (omega (arith, le, next-above name)) rest.0, rest.1)

crowded-rise : (w size k : ℕ) (leaves : List Leaf) → tiles_from k (names_of leaves) ≡ true → AreFrom k (crowded_of w size leaves) × AreRising (crowded_of w size leaves)
crowded-rise w size k [] tile = (tt, tt)
crowded-rise w size k (l ∷ leaves) tile =
    let t = tiles k l.name (names_of leaves) tile in
    rising_if k (is_crowded w size l) l.name (crowded_of w size leaves) (omega (arith, t.from)) (crowded-rise w size (next_key l.name) leaves t.rest)

pub AreRising-crowded_of : (w size : ℕ) (leaves : List Leaf) → tiles_from 0 (names_of leaves) ≡ true → AreRising (crowded_of w size leaves)
AreRising-crowded_of w size leaves tile = (crowded-rise w size 0 leaves tile).1
