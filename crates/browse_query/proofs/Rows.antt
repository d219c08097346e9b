-- The objects of the leaves that aren't opened yet.
use Rattle.std.proofs.Common.{◌≡◌, ℕ, zero, suc, ◌+◌, ◌<◌, ◌≤◌, Bool, true, false, cond, List, [], ◌∷◌, ◌++◌, length, map, refl, sym, ap, subst, ◌∙◌, arith, length-append}
use Rattle.std.specs.Prelude.{◌==◌}
use Rattle.std.specs.Int.{bit_at}
use Rattle.std.specs.List.{All, AllByRecursion}
use Rattle.std.specs.List.Sorted.{IsPermutation}
use Rattle.std.proofs.lemmas.Grind.{flat_map-append}
use Rattle.std.proofs.lemmas.List.{map-append}
use Rattle.std.proofs.lemmas.List.Elements.{All-nil, All-cons, All-head, All-tail, All-append, filter-append}
use Rattle.std.proofs.lemmas.List.Sorted.{IsPermutation-map}
use Rattle.zorder.specs.declared.points.Point.{Point}
use Rattle.zorder.specs.Bits.{low_bits}
use Rattle.zorder.specs.Distance.{distance}
use Rattle.zorder.specs.Key.{is_in, key_bits, key_of, point_of}
use Rattle.zorder.proofs.Places.{IsPoint-point_of, bit_at-key_of-x, bit_at-key_of-y, bit_at-point_of-x, bit_at-point_of-y, cases_place}
use Rattle.prefix_names.specs.Regions.{region_of}
use Rattle.prefix_names.proofs.Corners.{has_point-region_of}
use Rattle.prefix_names.proofs.Nearest.{least_distance-le}
use Rattle.bucket_versions.specs.declared.row.Row.{Row}
use Rattle.index_layer.specs.Leaves.{Leaf, AreUnder, all_rows}
use Rattle.index_layer.proofs.LeafNames.{IsFront, front-from_test, under-front}
use Rattle.table_share.specs.Subtree.{subtree, leaves_of}
use Rattle.table_share.proofs.Subtrees.{begins}
use Rattle.knn_query.specs.Ahead.{least_to, IsAhead, leaves_ahead}
use Rattle.knn_query.specs.declared.ahead.Ahead.{Ahead}
use Rattle.knn_query.proofs.Shuffles.{IsPermutation-flat_map, leaves-shuffled}
use Rattle.browse_query.specs.Found.{found_of}
use Rattle.browse_query.specs.declared.found.Found.{Found}

-- the point of a key is in each subspace that the key is under
low_bits-same : (n a b : ℕ) → ((i : ℕ) → i < n → bit_at a i ≡ bit_at b i) → low_bits n a ≡ low_bits n b
low_bits-same zero a b same = refl
low_bits-same (suc n) a b same = λ i. (same n (omega arith) i == 1) ∷ low_bits-same n a b (λ j lt. same j (omega (arith, lt))) i

key_bits-same : (k : ℕ) → key_bits (key_of (point_of k)) ≡ key_bits k
unfolding key_bits
key_bits-same k =
    low_bits-same 64 (key_of (point_of k)) k
    (cases_place (λ j. bit_at (key_of (point_of k)) j ≡ bit_at k j) (λ i lt. bit_at-key_of-y (point_of k) i lt ∙ bit_at-point_of-y k i lt) (λ i lt. bit_at-key_of-x (point_of k) i lt ∙ bit_at-point_of-x k i lt))

abbrev AreFar : ℕ → List Found → Type 0
AreFar reach cs = All (λ (c : Found). reach ≤ c.distance) cs

module _ (p : Point) where
  abbrev pub founds_of : List Row → List Found
  founds_of rows = map (found_of p) rows

  -- the objects below a subtree are no nearer than its region
  far-rows : (a : Ahead) → IsAhead p a → (reach : ℕ) → reach ≤ a.least.0 → (long : List Bool) → IsFront a.name long → (rows : List Row) → AreUnder long rows → AreFar reach (founds_of rows)
  far-rows a is reach le long front [] under = All-nil (λ (c : Found). reach ≤ c.distance)
  far-rows a is reach le long front (r ∷ rows) under =
      let inside : is_in a.name (point_of r.key) ≡ true = ap (λ bits. begins a.name bits) (key_bits-same r.key) ∙ under-front a.name long r.key front under.0 in
      let near : least_to p a.name ≤ distance (point_of r.key) p =
      least_distance-le (region_of a.name) p (point_of r.key) (has_point-region_of a.name is.short (point_of r.key) (IsPoint-point_of r.key) ∙ inside) in
      All-cons (λ (c : Found). reach ≤ c.distance) (found_of p r) (founds_of rows) (omega (arith, le, is.least_is, near)) (far-rows a is reach le long front rows under.1)

  far-subtree : (a : Ahead) → IsAhead p a → (reach : ℕ) → reach ≤ a.least.0 → (ls : List Leaf) → AllByRecursion (λ (l : Leaf). AreUnder l.name l.bucket.rows) ls → AreFar reach (founds_of (all_rows (subtree a.name ls)))
  far-subtree a is reach le [] under = All-nil (λ (c : Found). reach ≤ c.distance)
  far-subtree a is reach le (l ∷ ls) under = by_test (begins a.name l.name) refl (far-subtree a is reach le ls under.1)
    where
      by_test : (b : Bool) → begins a.name l.name ≡ b → AreFar reach (founds_of (all_rows (subtree a.name ls))) → AreFar reach (founds_of (all_rows (cond b (l ∷ subtree a.name ls) (subtree a.name ls))))
      by_test false e rest = rest
      by_test true e rest =
          subst (AreFar reach) (sym (map-append (found_of p) l.bucket.rows (all_rows (subtree a.name ls))))
          (All-append (λ (c : Found). reach ≤ c.distance) (founds_of l.bucket.rows) (founds_of (all_rows (subtree a.name ls))) (far-rows a is reach le l.name (front-from_test a.name l.name e) l.bucket.rows under.0) rest)

  module _ (leaves : List Leaf) where
    abbrev pub founds_ahead : List Ahead → List Found
    founds_ahead ahead = founds_of (all_rows (leaves_ahead leaves ahead))

    pub founds-cons : (a : Ahead) (left : List Ahead) → founds_ahead (a ∷ left) ≡ founds_of (all_rows (subtree a.name leaves)) ++ founds_ahead left
    founds-cons a left =
        ap founds_of (flat_map-append (λ (l : Leaf). l.bucket.rows) (subtree a.name leaves) (leaves_ahead leaves left)) ∙ map-append (found_of p) (all_rows (subtree a.name leaves)) (all_rows (leaves_ahead leaves left))

    pub founds-shuffled : (xs ys : List Ahead) → IsPermutation xs ys → IsPermutation (founds_ahead xs) (founds_ahead ys)
    founds-shuffled xs ys perm =
        IsPermutation-map (found_of p) (all_rows (leaves_ahead leaves xs)) (all_rows (leaves_ahead leaves ys))
        (IsPermutation-flat_map (λ (l : Leaf). l.bucket.rows) (leaves_ahead leaves xs) (leaves_ahead leaves ys) (leaves-shuffled leaves xs ys perm))

    -- those of subtrees that are this far
    pub far-ahead : AllByRecursion (λ (l : Leaf). AreUnder l.name l.bucket.rows) leaves → (reach : ℕ) (ahead : List Ahead) → All (IsAhead p) ahead → All (λ (a : Ahead). reach ≤ a.least.0) ahead → AreFar reach (founds_ahead ahead)
    far-ahead under reach [] are low = All-nil (λ (c : Found). reach ≤ c.distance)
    far-ahead under reach (a ∷ ahead) are low =
        subst (AreFar reach) (sym (founds-cons a ahead))
        (All-append (λ (c : Found). reach ≤ c.distance) (founds_of (all_rows (subtree a.name leaves))) (founds_ahead ahead)
        (far-subtree a (All-head (IsAhead p) a ahead are) reach (All-head (λ (b : Ahead). reach ≤ b.least.0) a ahead low) leaves under)
        (far-ahead under reach ahead (All-tail (IsAhead p) a ahead are) (All-tail (λ (b : Ahead). reach ≤ b.least.0) a ahead low)))

-- how many leaves pass a test
pub number-append : (passes : List Bool → Bool) (xs ys : List Leaf) → length (leaves_of passes (xs ++ ys)) ≡ length (leaves_of passes xs) + length (leaves_of passes ys)
number-append passes xs ys = ap length (filter-append (λ (l : Leaf). passes l.name) xs ys) ∙ length-append (leaves_of passes xs) (leaves_of passes ys)
