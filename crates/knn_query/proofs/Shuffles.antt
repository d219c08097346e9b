-- Lists of which each item stands for a list, in another order.
use Rattle.std.proofs.Common.{◌≡◌, ℕ, zero, suc, ◌<◌, Bool, List, [], ◌∷◌, ◌++◌, length, get_or, sym, ◌∙◌, subst, arith, append_assoc}
use Rattle.std.proofs.Math.ListN.{set}
use Rattle.std.specs.List.{flat_map, swap}
use Rattle.std.specs.List.Sorted.{IsPermutation}
use Rattle.std.proofs.lemmas.List.Edits.{swap_is}
use Rattle.std.proofs.lemmas.List.Sorted.{IsPermutation-refl, IsPermutation-trans, IsPermutation-append_comm, IsPermutation-append_left, IsPermutation-append_right, IsPermutation-keeps, IsPermutation-map, sum_by-IsPermutation}
use Rattle.std.proofs.lemmas.List.Sums.{length-filter}
use Rattle.std.specs.Prelude.{cond}
use Rattle.index_layer.specs.Leaves.{Leaf, all_rows}
use Rattle.table_share.specs.Objects.{placed_of, objects_of}
use Rattle.table_share.specs.Subtree.{subtree, leaves_of}
use Rattle.knn_query.specs.Ahead.{leaves_ahead}
use Rattle.knn_query.specs.declared.ahead.Ahead.{Ahead}

module _ {X A : Type 0} (f : X → List A) where
  abbrev all : List X → List A
  all xs = flat_map f xs

  exchange : (a b c : List A) → IsPermutation (a ++ (b ++ c)) (b ++ (a ++ c))
  exchange a b c =
      subst (λ (l : List A). IsPermutation l (b ++ (a ++ c))) (append_assoc a b c)
      (subst (λ (l : List A). IsPermutation ((a ++ b) ++ c) l) (append_assoc b a c) (IsPermutation-append_left c (a ++ b) (b ++ a) (IsPermutation-append_comm a b)))

  -- one in front changes places with another one
  put-first : (x : X) (xs : List X) (j : ℕ) (d : X) → j < length xs → IsPermutation (f x ++ all xs) (f (get_or xs j d) ++ all (set xs j x))
  put-first x [] j d lt = absurd (omega (arith, lt))
  put-first x (z ∷ zs) zero d lt = exchange (f x) (f z) (all zs)
  put-first x (z ∷ zs) (suc j) d lt =
      let y = get_or zs j d in
      let rest = all (set zs j x) in
      IsPermutation-trans (f x ++ (f z ++ all zs)) (f z ++ (f x ++ all zs)) (f y ++ (f z ++ rest)) (exchange (f x) (f z) (all zs))
      (IsPermutation-trans (f z ++ (f x ++ all zs)) (f z ++ (f y ++ rest)) (f y ++ (f z ++ rest))
      (IsPermutation-append_right (f z) (f x ++ all zs) (f y ++ rest) (put-first x zs j d (omega (arith, lt)))) (exchange (f z) (f y) rest))

  two-swapped : (xs : List X) (i j : ℕ) (d : X) → i < length xs → j < length xs → IsPermutation (all xs) (all (set (set xs i (get_or xs j d)) j (get_or xs i d)))
  two-swapped [] i j d p q = absurd (omega (arith, p))
  two-swapped (x ∷ xs) zero zero d p q = IsPermutation-refl (all (x ∷ xs))
  two-swapped (x ∷ xs) zero (suc j) d p q = put-first x xs j d (omega (arith, q))
  two-swapped (x ∷ xs) (suc i) zero d p q = put-first x xs i d (omega (arith, p))
  two-swapped (x ∷ xs) (suc i) (suc j) d p q =
      IsPermutation-append_right (f x) (all xs) (all (set (set xs i (get_or xs j d)) j (get_or xs i d))) (two-swapped xs i j d (omega (arith, p)) (omega (arith, q)))

  swapped : (xs : List X) (i j : ℕ) → i < length xs → j < length xs → IsPermutation (all xs) (all (swap xs i j))
  swapped [] i j p q = absurd (omega (arith, p))
  swapped (d ∷ xs) i j p q = subst (λ (ys : List X). IsPermutation (all (d ∷ xs)) (all ys)) (swap_is (d ∷ xs) i j d p q) (two-swapped (d ∷ xs) i j d p q)

  pub IsPermutation-flat_map : (xs ys : List X) → IsPermutation xs ys → IsPermutation (all xs) (all ys)
  IsPermutation-flat_map xs ys perm =
      IsPermutation-keeps xs (λ (l : List X). IsPermutation (all xs) (all l)) (IsPermutation-refl (all xs))
      (λ l i j p q h. IsPermutation-trans (all xs) (all l) (all (swap l i j)) h (swapped l i j p q)) ys perm

-- of leaves in another order the same objects, and as many of those that pass
pub objects-shuffled : (xs ys : List Leaf) → IsPermutation xs ys → IsPermutation (objects_of (all_rows xs)) (objects_of (all_rows ys))
objects-shuffled xs ys perm = IsPermutation-map placed_of (all_rows xs) (all_rows ys) (IsPermutation-flat_map (λ (l : Leaf). l.bucket.rows) xs ys perm)

pub number-shuffled : (passes : List Bool → Bool) (xs ys : List Leaf) → IsPermutation xs ys → length (leaves_of passes ys) ≡ length (leaves_of passes xs)
number-shuffled passes xs ys perm =
    length-filter (λ (l : Leaf). passes l.name) ys ∙ sum_by-IsPermutation (λ (l : Leaf). cond (passes l.name) 1 0) xs ys perm ∙ sym (length-filter (λ (l : Leaf). passes l.name) xs)

pub leaves-shuffled : (leaves : List Leaf) (xs ys : List Ahead) → IsPermutation xs ys → IsPermutation (leaves_ahead leaves xs) (leaves_ahead leaves ys)
leaves-shuffled leaves xs ys perm = IsPermutation-flat_map (λ (a : Ahead). subtree a.name leaves) xs ys perm
