-- The leaves have as many rows as there are objects.
use Rattle.std.proofs.Common.{◌≡◌, ◌-◌, ◌^◌, Bool, true, List, [], ◌∷◌, length, refl, ap, ◌∙◌, arith}
use Rattle.std.specs.Prelude.{min}
use Rattle.std.specs.List.{filter}
use Rattle.std.specs.List.Sorted.{IsPermutation}
use Rattle.std.proofs.lemmas.List.{length-map}
use Rattle.std.proofs.lemmas.List.Sorted.{length_permutation}
use Rattle.zorder.specs.declared.points.Placed.{Placed}
use Rattle.index_layer.specs.Leaves.{Leaf, all_rows}
use Rattle.index_layer.specs.Stands.{Stands}
use Rattle.index_layer.specs.Subtree.{subtree}
use Rattle.plain_list.specs.Places.{ArePlaces}
use Rattle.table_share.specs.Objects.{placed_of, objects_of}
use Rattle.table_share.proofs.RowObjects.{objects-permutation}
use Rattle.table_share.proofs.Subtrees.{subtree-whole}
use Rattle.table_share.proofs.TableRows.{table_of}

filter_all : (ms : List Placed) → filter (λ m. true) ms ≡ ms
filter_all [] = refl
filter_all (m ∷ ms) = ap (λ (l : List Placed). m ∷ l) (filter_all ms)

number_of_rows : (leaves : List Leaf) (places : List Placed) (names : List (List Bool)) → ArePlaces places → Stands leaves places names → length (all_rows leaves) ≡ length places
number_of_rows leaves places names are_places stands =
    let table = table_of leaves places names stands in
    let rows = all_rows leaves in
    let some : IsPermutation (filter (λ m. true) places) (filter (λ m. true) (objects_of rows)) = objects-permutation (λ m. true) places rows are_places.rising are_places.points table.ordered table.has in
    let count = length_permutation (filter (λ m. true) places) (filter (λ m. true) (objects_of rows)) some in
    omega (arith, count, ap length (filter_all places), ap length (filter_all (objects_of rows)), length-map rows placed_of)

-- the number of rows below the empty name
pub number_below_whole : (name : List Bool) (leaves : List Leaf) (places : List Placed) (names : List (List Bool)) → name ≡ [] → ArePlaces places → Stands leaves places names
    → min (length (all_rows (subtree name leaves))) (2 ^ 64 - 1) ≡ length places
number_below_whole name leaves places names whole are_places stands =
    let all : subtree name leaves ≡ leaves = ap (λ n. subtree n leaves) whole ∙ subtree-whole leaves in
    omega (arith, ap (λ ls. length (all_rows ls)) all, number_of_rows leaves places names are_places stands, are_places.size)
