-- Names below others that have all their rows.
use Rattle.std.proofs.Common.{◌≡◌, ℕ, arith, Bool, true, false, List, [], ◌∷◌, refl, sym, ◌∙◌}
use Rattle.std.specs.List.{starts_with, AllByRecursion}
use Rattle.std.proofs.lemmas.List.{append-nil}
use mathlib.Core.Bool.{beq, true≢false}
use Rattle.zorder.specs.Key.{is_under, key_bits}
use Rattle.zorder.specs.Tile.{tiles_from}
use Rattle.index_layer.specs.Below.{begins_some}
use Rattle.index_layer.specs.Leaves.{Leaf, names_of}
use Rattle.index_layer.specs.Narrowed.{PassesBare}
use Rattle.index_layer.proofs.LeafKeys.{leaf_under-some}
use Rattle.index_layer.proofs.LeafNames.{front-test, find-among, among-any}

-- each key is under the empty name
pub under-none : (key : ℕ) → is_under [] key ≡ true
under-none key = front-test [] (key_bits key) (key_bits key, refl)

-- some leaf's name begins with the empty name
pub some-whole : (leaves : List Leaf) → tiles_from 0 (names_of leaves) ≡ true → begins_some [] leaves ≡ true
some-whole leaves tile =
    let l = leaf_under-some leaves 0 tile (omega arith) in
    let at = (find-among (λ (m : Leaf). is_under m.name 0) leaves l.0 l.1).0 in
    among-any (λ (m : Leaf). starts_with beq m.name []) leaves l.0 at (front-test [] l.0.name (l.0.name, refl))

-- a name passes nothing by on the way to itself
pub passes-none : (name : List Bool) (leaves : List Leaf) → PassesBare name name leaves
passes-none name leaves = record { on = front-test name name ([], sym (append-nil name)); bare = none leaves }
  where
    none : (ls : List Leaf) → AllByRecursion (λ (l : Leaf). starts_with beq l.name name ≡ true → starts_with beq l.name name ≡ false → l.bucket.rows ≡ []) ls
    none [] = tt
    none (l ∷ ls) = (λ here out. absurd (true≢false (sym here ∙ out)), none ls)
