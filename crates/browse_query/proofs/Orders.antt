-- Found objects in order.
use Rattle.std.proofs.Common.{◌≡◌, ℕ, zero, suc, ◌+◌, ◌<◌, Bool, true, false, List, [], ◌∷◌, length, map, get_or, cond, refl, sym, ap, subst, ◌∙◌, arith, add-one}
use Rattle.std.specs.List.{All}
use Rattle.std.specs.List.Sorted.{IsPermutation, IsSortedBy}
use Rattle.std.specs.Cmp.{IsStrictWeakOrder, IsTotalOrder}
use Rattle.std.specs.Ordering.{nat_cmp, ordering_then, is_lt}
use Rattle.std.proofs.lemmas.Cmp.{on_total, then_total, nat_cmp_total}
use Rattle.std.proofs.lemmas.Grind.{common_steps}
use Rattle.std.proofs.lemmas.Bool.Decides.{nat_tests}
use Rattle.std.proofs.lemmas.List.{get_or-map, length-map}
use Rattle.std.proofs.lemmas.List.Elements.{All-head, All-map}
use Rattle.std.proofs.lemmas.List.Sorted.{All-permutation, IsPermutation-cons, IsPermutation-map, IsPermutation-middle, IsPermutation-refl, IsPermutation-trans, ranks_by, sum_by-IsPermutation}
use Rattle.zorder.specs.declared.points.Point.{Point}
use Rattle.zorder.specs.declared.points.Placed.{Placed}
use Rattle.zorder.specs.Distance.{distance}
use Rattle.zorder.specs.Key.{point_of}
use Rattle.bucket_versions.specs.declared.row.Row.{Row}
use Rattle.plain_list.specs.Places.{IsRising}
use Rattle.plain_list.specs.Queries.{is_before, ranked}
use Rattle.plain_list.proofs.Ranking.{found_in, is_before-cmp, ranked_once, sorted_once}
use Rattle.table_share.specs.Objects.{placed_of, objects_of}
use Rattle.browse_query.specs.Found.{found_of, object_of, found_cmp, comes_before, with_found, in_order, IsMeasured}
use Rattle.browse_query.specs.declared.found.Found.{Found}

-- the test is that of an order, in which two that tie are one
found_total : IsTotalOrder found_cmp
found_total = then_total (on_total (λ (c : Found). c.distance) nat_cmp_total) (then_total (on_total (λ (c : Found). c.id) nat_cmp_total) (on_total (λ (c : Found). c.key) nat_cmp_total))

pub before-order : IsStrictWeakOrder comes_before
before-order = ranks_by found_total (λ (c : Found). c)

tied_numbers : (a b c d e f : ℕ) → is_lt (ordering_then (nat_cmp a b) (ordering_then (nat_cmp c d) (nat_cmp e f))) ≡ false → is_lt (ordering_then (nat_cmp b a) (ordering_then (nat_cmp d c) (nat_cmp f e))) ≡ false
    → (a ≡ b) × (c ≡ d) × (e ≡ f)
tied_numbers a b c d e f g h = (grind (arith, nat_tests, common_steps), grind (arith, nat_tests, common_steps), grind (arith, nat_tests, common_steps))

tied : (c d : Found) → comes_before c d ≡ false → comes_before d c ≡ false → c ≡ d
tied c d g h =
    let (distances, ids, keys) = tied_numbers c.distance d.distance c.id d.id c.key d.key g h in
    λ i. record { distance = distances i; id = ids i; key = keys i }

-- the list in order has its items, each once
with_found-permutation : (c : Found) (ds : List Found) → IsPermutation (c ∷ ds) (with_found c ds)
with_found-permutation c [] = IsPermutation-refl (c ∷ [])
with_found-permutation c (d ∷ ds) = by_test (comes_before d c) (with_found-permutation c ds)
  where
    by_test : (b : Bool) → IsPermutation (c ∷ ds) (with_found c ds) → IsPermutation (c ∷ d ∷ ds) (cond b (d ∷ with_found c ds) (c ∷ d ∷ ds))
    by_test true rest =
        IsPermutation-trans (c ∷ d ∷ ds) (d ∷ c ∷ ds) (d ∷ with_found c ds) (IsPermutation-middle (c ∷ []) d ds) (IsPermutation-cons d (c ∷ ds) (with_found c ds) rest)
    by_test false rest = IsPermutation-refl (c ∷ d ∷ ds)

pub in_order-permutation : (cs : List Found) → IsPermutation cs (in_order cs)
in_order-permutation [] = IsPermutation-refl []
in_order-permutation (c ∷ cs) =
    IsPermutation-trans (c ∷ cs) (c ∷ in_order cs) (with_found c (in_order cs)) (IsPermutation-cons c cs (in_order cs) (in_order-permutation cs)) (with_found-permutation c (in_order cs))

-- it is in order
abbrev Follows : Found → List Found → Type 0
Follows c [] = Unit {0}
Follows c (d ∷ ds) = comes_before d c ≡ false

abbrev AreRising : List Found → Type 0
AreRising [] = Unit {0}
AreRising (c ∷ cs) = Follows c cs × AreRising cs

follows-with : (d c : Found) (ds : List Found) → Follows d ds → comes_before c d ≡ false → Follows d (with_found c ds)
follows-with d c [] follows later = later
follows-with d c (e ∷ es) follows later = by_test (comes_before e c)
  where
    by_test : (b : Bool) → Follows d (cond b (e ∷ with_found c es) (c ∷ e ∷ es))
    by_test true = follows
    by_test false = later

rising-with : (c : Found) (ds : List Found) → AreRising ds → AreRising (with_found c ds)
rising-with c [] up = (tt, tt)
rising-with c (d ∷ ds) up = by_test (comes_before d c) refl (rising-with c ds up.1)
  where
    by_test : (b : Bool) → comes_before d c ≡ b → AreRising (with_found c ds) → AreRising (cond b (d ∷ with_found c ds) (c ∷ d ∷ ds))
    by_test true first rest = (follows-with d c ds up.0 (before-order.one_way d c first), rest)
    by_test false later rest = (later, up)

rising-in_order : (cs : List Found) → AreRising (in_order cs)
rising-in_order [] = tt
rising-in_order (c ∷ cs) = rising-with c (in_order cs) (rising-in_order cs)

sorted_from_rising : (cs : List Found) → AreRising cs → (k : ℕ) (d : Found) → suc k < length cs → comes_before (get_or cs (suc k) d) (get_or cs k d) ≡ false
sorted_from_rising [] up k d lt = absurd (omega (arith, lt))
sorted_from_rising (c ∷ []) up k d lt = absurd (omega (arith, lt))
sorted_from_rising (c ∷ e ∷ es) up zero d lt = up.0
sorted_from_rising (c ∷ e ∷ es) up (suc k) d lt = sorted_from_rising (e ∷ es) up.1 k d (omega (arith, lt))

pub in_order-sorted : (cs : List Found) → IsSortedBy comes_before (in_order cs)
in_order-sorted cs = λ k d low lt.
    subst (λ j. comes_before (get_or (in_order cs) j d) (get_or (in_order cs) k d) ≡ false) (sym (add-one k)) (sorted_from_rising (in_order cs) (rising-in_order cs) k d (omega (arith, lt)))

-- two lists with the same items are the same in order
every : (cs : List Found) → All (λ (c : Found). Unit {0}) cs
every cs = λ k d lt. tt

pub in_order-once : (cs ds : List Found) → IsPermutation cs ds → in_order cs ≡ in_order ds
in_order-once cs ds perm =
    sorted_once comes_before (λ (c : Found). Unit {0}) before-order (λ a b _ _ ab ba. tied a b ab ba) (in_order cs) (in_order ds) (every (in_order cs)) (every (in_order ds)) (in_order-sorted cs) (in_order-sorted ds)
    (λ q.
    sum_by-IsPermutation (λ c. cond (q c) 1 0) cs (in_order cs) (in_order-permutation cs)
    ∙ sym (sum_by-IsPermutation (λ c. cond (q c) 1 0) cs ds perm)
    ∙ sym (sum_by-IsPermutation (λ c. cond (q c) 1 0) ds (in_order ds) (in_order-permutation ds)))

-- the first of a list is one that no other one comes before
with_found-first : (c : Found) (ds : List Found) → All (λ (d : Found). comes_before d c ≡ false) ds → with_found c ds ≡ c ∷ ds
with_found-first c [] low = refl
with_found-first c (d ∷ ds) low = ap (λ b. cond b (d ∷ with_found c ds) (c ∷ d ∷ ds)) (All-head (λ (d : Found). comes_before d c ≡ false) d ds low)

pub in_order-first : (c : Found) (cs : List Found) → All (λ (d : Found). comes_before d c ≡ false) cs → in_order (c ∷ cs) ≡ c ∷ in_order cs
in_order-first c cs low = with_found-first c (in_order cs) (All-permutation (λ (d : Found). comes_before d c ≡ false) cs (in_order cs) (in_order-permutation cs) low)

-- an object that is ranked before another one is found before it
before-found : (d e i j k l : ℕ) → is_lt (ordering_then (nat_cmp d e) (ordering_then (nat_cmp i j) (nat_cmp k l))) ≡ false → is_lt (ordering_then (nat_cmp d e) (nat_cmp i j)) ≡ false
before-found d e i j k l h = grind (arith, nat_tests, common_steps)

sorted-objects : (p : Point) (cs : List Found) → All (IsMeasured p) cs → IsSortedBy comes_before cs → IsSortedBy (is_before p) (map object_of cs)
sorted-objects p cs at sorted k d low less =
    let far : k + 1 < length cs = omega (arith, less, length-map cs object_of) in
    let near : k < length cs = omega (arith, far) in
    by_element cs refl near far
  where
    behind : (c e : Found) → IsMeasured p c → IsMeasured p e → comes_before c e ≡ false → is_before p (object_of c) (object_of e) ≡ false
    behind c e at_c at_e h =
        sym (is_before-cmp (distance (point_of c.key) p) c.id (distance (point_of e.key) p) e.id)
        ∙ (λ i. is_lt (ordering_then (nat_cmp (sym at_c i) (sym at_e i)) (nat_cmp c.id e.id)))
        ∙ before-found c.distance e.distance c.id e.id c.key e.key h

    by_element : (ds : List Found) → ds ≡ cs → k < length cs → k + 1 < length cs → is_before p (get_or (map object_of cs) (k + 1) d) (get_or (map object_of cs) k d) ≡ false
    by_element [] same near far = absurd (omega (arith, near, ap length same))
    by_element (e ∷ es) same near far =
        (λ i. is_before p (get_or-map object_of cs (k + 1) e d far i) (get_or-map object_of cs k e d near i)) ∙ behind (get_or cs (k + 1) e) (get_or cs k e) (at (k + 1) e far) (at k e near) (sorted k e low far)

-- the objects of rows in order are the ranking of the places that the rows stand for
objects-same : (p : Point) (rows : List Row) → map object_of (map (found_of p) rows) ≡ objects_of rows
objects-same p [] = refl
objects-same p (r ∷ rows) = ap (λ (ms : List Placed). placed_of r ∷ ms) (objects-same p rows)

pub in_order-ranked : (p : Point) (places : List Placed) (rows : List Row) → IsRising places → IsPermutation places (objects_of rows) → map object_of (in_order (map (found_of p) rows)) ≡ ranked p places
in_order-ranked p places rows rising perm =
    let cs : List Found = map (found_of p) rows in
    let measured : All (IsMeasured p) cs = All-map (IsMeasured p) (found_of p) rows (λ i d lt. refl) in
    ranked_once p places places (map object_of (in_order cs)) (found_in places rising)
    (IsPermutation-trans places (map object_of cs) (map object_of (in_order cs)) (subst (IsPermutation places) (sym (objects-same p rows)) perm) (IsPermutation-map object_of cs (in_order cs) (in_order-permutation cs)))
    (sorted-objects p (in_order cs) (All-permutation (IsMeasured p) cs (in_order cs) (in_order-permutation cs) measured) (in_order-sorted cs))
