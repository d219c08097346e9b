-- The leaf that is to be split next, by the objects of a world and by the rows of leaves.
use Rattle.std.proofs.Common.{◌≡◌, ℕ, ◌+◌, Bool, true, false, cond, not, List, [], ◌∷◌, length, Option, Some, refl, sym, ap, ◌∙◌}
use Rattle.std.specs.Prelude.{nat_lt, nat_le, ◌&&◌}
use Rattle.std.specs.List.{find, AllByRecursion}
use Rattle.zorder.specs.declared.points.Placed.{Placed}
use Rattle.bucket_versions.specs.Rows.{IsRows}
use Rattle.index_layer.specs.Leaves.{Leaf, names_of}
use Rattle.index_layer.specs.Stands.{HasRowsOf}
use Rattle.plain_list.specs.Places.{IsRising}
use Rattle.plain_list.specs.State.{OpenSplit, is_splitting}
use Rattle.plain_list.specs.Size.{is_over}
use Rattle.point_table.specs.Crowded.{first_free}
use Rattle.point_table.specs.Crowds.{is_crowded, crowded_of}
use Rattle.point_table.proofs.Counting.{count_in_name-rows}

pub is_over-is_crowded : (w size : ℕ) (places : List Placed) (leaf : Leaf) → IsRising places → IsRows leaf.bucket.rows → HasRowsOf places leaf → is_over w size places leaf.name ≡ is_crowded w size leaf
is_over-is_crowded w size places leaf rising rows stands =
    ap (λ n. nat_lt size n && nat_le (length leaf.name + w) 64) (count_in_name-rows places leaf.name leaf.bucket.rows rising rows stands)

find_if : (b c : Bool) (name : List Bool) (p : List Bool → Bool) (names : List (List Bool)) (rest : Option (List Bool)) → p name ≡ c → find p names ≡ rest → find p (cond b (name ∷ names) names) ≡ cond (b && c) (Some name) rest
find_if true true name p names rest is more = ap (λ b. cond b (Some name) (find p names)) is
find_if true false name p names rest is more = ap (λ b. cond b (Some name) (find p names)) is ∙ more
find_if false c name p names rest is more = more

pub first_free-crowded_of : (w size : ℕ) (places : List Placed) (splits : List OpenSplit) (leaves : List Leaf) → IsRising places → AllByRecursion (λ (l : Leaf). IsRows l.bucket.rows) leaves → AllByRecursion (HasRowsOf places) leaves
    → first_free splits (crowded_of w size leaves) ≡ find (λ name. is_over w size places name && not (is_splitting splits name)) (names_of leaves)
first_free-crowded_of w size places splits [] rising rows stands = refl
first_free-crowded_of w size places splits (l ∷ leaves) rising rows stands =
    find_if (is_crowded w size l) (not (is_splitting splits l.name)) l.name (λ name. not (is_splitting splits name)) (crowded_of w size leaves)
    (find (λ name. is_over w size places name && not (is_splitting splits name)) (names_of leaves)) refl (first_free-crowded_of w size places splits leaves rising rows.1 stands.1)
    ∙ ap (λ b. cond (b && not (is_splitting splits l.name)) (Some l.name) (find (λ name. is_over w size places name && not (is_splitting splits name)) (names_of leaves)))
    (sym (is_over-is_crowded w size places l rising rows.0 stands.0))
