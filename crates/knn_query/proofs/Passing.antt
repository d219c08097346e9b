-- Objects that come in turn, row after row and leaf after leaf.
use Rattle.std.proofs.Common.{◌≡◌, ℕ, zero, suc, ◌≤◌, Bool, true, List, [], ◌∷◌, ◌++◌, take, Some, refl, sym, ap, subst, ◌∙◌}
use Rattle.std.specs.List.{All, filter}
use Rattle.std.specs.List.Sorted.{IsPermutation}
use Rattle.std.proofs.lemmas.List.Elements.{All-nil, All-cons, All-head, All-tail}
use Rattle.std.proofs.lemmas.List.Sorted.{IsPermutation-trans}
use Rattle.zorder.specs.declared.points.Point.{Point}
use Rattle.zorder.specs.declared.points.Placed.{Placed}
use Rattle.zorder.specs.Distance.{distance}
use Rattle.zorder.specs.Key.{point_of, is_under, is_in, IsPoint}
use Rattle.zorder.proofs.Places.{key_of-point_of, IsPoint-point_of}
use Rattle.bucket_versions.specs.declared.row.Row.{Row}
use Rattle.plain_list.specs.Places.{IsRising, place_of}
use Rattle.plain_list.specs.Queries.{ranked}
use Rattle.plain_list.specs.AtPlaces.{AreOf}
use Rattle.plain_list.proofs.Ranking.{found_in, ranked_once, IsPermutation-ranked, IsSortedBy-ranked}
use Rattle.knn_query.specs.Passes.{IsPass, with_more}
use Rattle.table_share.specs.Objects.{placed_of, objects_of}
use Rattle.table_share.specs.KeysUnder.{AreKeysUnder}
use Rattle.knn_query.specs.declared.kept.Kept.{Kept}
use Rattle.knn_query.specs.Passes.{Passes, Keeps}

abbrev IsAt : List Placed → Placed → Type 0
IsAt places m = place_of places m.id ≡ Some m.at

-- where the point and the number are known by other names
pub passes_on : (p : Point) (k : ℕ) (places ms rest : List Placed) (old new : Kept) → old.from ≡ p → old.k ≡ k → Passes ms old new → AreOf places ms
    → Keeps p k places (ms ++ rest) old → Keeps p k places rest new
passes_on p k places ms rest old new from_is k_is passes are_of keeps =
    subst (λ q. Keeps q k places rest new) from_is (subst (λ j. Keeps old.from j places rest new) k_is
    (passes.keeps places rest are_of (subst (λ q. Keeps q old.k places (ms ++ rest) old) (sym from_is) (subst (λ j. Keeps p j places (ms ++ rest) old) (sym k_is) keeps))))

-- one row more
pub row_passes : (p : Point) (k : ℕ) (places rest : List Placed) (r : Row) (rows all : List Row) (m : Placed) (old new : Kept) → all ≡ r ∷ rows → m ≡ placed_of r
    → old.from ≡ p → old.k ≡ k → Passes (m ∷ []) old new → AreOf places (objects_of all) × Keeps p k places (objects_of all ++ rest) old
    → AreOf places (objects_of rows) × Keeps p k places (objects_of rows ++ rest) new
row_passes p k places rest r rows all m old new all_is m_is from_is k_is passes (are_of, keeps) =
    let are : AreOf places (placed_of r ∷ objects_of rows) = subst (λ rs. AreOf places (objects_of rs)) all_is are_of in
    let one : AreOf places (m ∷ []) = All-cons (IsAt places) m [] (subst (IsAt places) (sym m_is) (All-head (IsAt places) (placed_of r) (objects_of rows) are)) (All-nil (IsAt places)) in
    let next : Keeps p k places (m ∷ (objects_of rows ++ rest)) old =
    subst (λ (n : Placed). Keeps p k places (n ∷ (objects_of rows ++ rest)) old) (sym m_is) (subst (λ rs. Keeps p k places (objects_of rs ++ rest) old) all_is keeps) in
    (All-tail (IsAt places) (placed_of r) (objects_of rows) are, passes_on p k places (m ∷ []) (objects_of rows ++ rest) old new from_is k_is passes one next)

-- each object under a name is at least as far as the nearest point there
pub far_rows : (p : Point) (name : List Bool) (least : ℕ) → ((q : Point) → IsPoint q → is_in name q ≡ true → least ≤ distance q p)
    → (P : Placed → Type 0) → ((m : Placed) → least ≤ distance m.at p → P m) → (rows : List Row) → AreKeysUnder name rows → All P (objects_of rows)
far_rows p name least none_nearer P far [] under = All-nil P
far_rows p name least none_nearer P far (r ∷ rows) under =
    let within : is_in name (point_of r.key) ≡ true = ap (is_under name) (key_of-point_of r.key under.0.0) ∙ under.0.1 in
    All-cons P (placed_of r) (objects_of rows) (far (placed_of r) (none_nearer (point_of r.key) (IsPoint-point_of r.key) within)) (far_rows p name least none_nearer P far rows under.1)

pub front_of : (places xs ys : List Placed) → AreOf places (xs ++ ys) → AreOf places xs
front_of places [] ys all = All-nil (IsAt places)
front_of places (x ∷ xs) ys all = All-cons (IsAt places) x xs (All-head (IsAt places) x (xs ++ ys) all) (front_of places xs ys (All-tail (IsAt places) x (xs ++ ys) all))

pub back_of : (places xs ys : List Placed) → AreOf places (xs ++ ys) → AreOf places ys
back_of places [] ys all = all
back_of places (x ∷ xs) ys all = back_of places xs ys (All-tail (IsAt places) x (xs ++ ys) all)

pub filter-all : {X : Type 0} (xs : List X) → filter (λ (x : X). true) xs ≡ xs
filter-all [] = refl
filter-all (x ∷ xs) = ap (λ l. x ∷ l) (filter-all xs)

pub take-none : (k : ℕ) → take {A = Placed} k [] ≡ []
take-none zero = refl
take-none (suc k) = refl

-- before the first object
pub before_all : (p : Point) (k : ℕ) (places ms : List Placed) → IsRising places → IsPermutation places ms → IsPass p k places ms []
before_all p k places ms rising shuffled =
    let same : ranked p ms ≡ ranked p places =
    ranked_once p places places (ranked p ms) (found_in places rising) (IsPermutation-trans places ms (ranked p ms) shuffled (IsPermutation-ranked p ms)) (IsSortedBy-ranked p ms) in
    record {
      are_of = All-nil (IsAt places);
      nearest = ap (λ l. take k (with_more p l ms)) (take-none k) ∙ ap (take k) same;
    }
