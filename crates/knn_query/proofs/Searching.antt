-- A best-first search: what is ahead, and what was opened.
use Rattle.std.proofs.Common.{◌≡◌, ℕ, zero, suc, ◌+◌, ◌-◌, ◌<◌, ◌≤◌, Bool, true, false, cond, List, [], ◌∷◌, ◌++◌, length, take, get_or, Some, refl, sym, ap, subst, ◌∙◌, arith, length-take}
use Rattle.std.specs.Prelude.{nat_lt}
use Rattle.std.specs.List.{All}
use Rattle.std.specs.List.Sorted.{IsPermutation}
use Rattle.std.proofs.lemmas.Grind.{flat_map-append}
use Rattle.std.proofs.lemmas.List.{map-append, get_or-take}
use Rattle.std.proofs.lemmas.List.Elements.{All-nil, All-head, All-tail, All-append}
use Rattle.std.proofs.lemmas.List.Sorted.{All-permutation, IsPermutation-append_right, sum_by-IsPermutation, sorted_far, length_permutation}
use Rattle.std.proofs.lemmas.List.Sums.{sum_by-cons, sum_by-append, sum_by-take-le}
use Rattle.std.proofs.lemmas.Bool.Decides.{nat_tests}
use Rattle.zorder.specs.declared.points.Point.{Point}
use Rattle.zorder.specs.declared.points.Placed.{Placed}
use Rattle.zorder.specs.Distance.{distance}
use Rattle.zorder.specs.Key.{is_in, IsPoint}
use Rattle.prefix_names.specs.Regions.{region_of}
use Rattle.prefix_names.proofs.Corners.{has_point-region_of}
use Rattle.prefix_names.proofs.Nearest.{least_distance-le}
use Rattle.bucket_versions.specs.declared.row.Row.{Row}
use Rattle.index_layer.specs.Leaves.{Leaf, all_rows}
use Rattle.index_layer.proofs.LeafNames.{IsFront, front-from_test, under-front}
use Rattle.plain_list.specs.Places.{place_of}
use Rattle.plain_list.specs.Queries.{ranked, is_before}
use Rattle.plain_list.specs.AtPlaces.{AreOf}
use Rattle.plain_list.proofs.Ranking.{IsPermutation-ranked, IsSortedBy-ranked, is_before-order}
use Rattle.table_share.specs.Objects.{placed_of, objects_of}
use Rattle.table_share.specs.KeysUnder.{AreKeysUnder, AreAllKeysUnder}
use Rattle.table_share.specs.Subtree.{subtree}
use Rattle.table_share.proofs.Subtrees.{begins}
use Rattle.knn_query.specs.Ahead.{least_to, reach_of, number_nearer, IsAhead, leaves_ahead, objects_ahead, Searches}
use Rattle.knn_query.specs.Passes.{held, Keeps}
use Rattle.knn_query.specs.declared.ahead.Ahead.{Ahead}
use Rattle.knn_query.specs.declared.kept.Kept.{Kept}
use Rattle.knn_query.proofs.Candidates.{Bounds, pass_all, ranked-shuffled}
use Rattle.knn_query.proofs.Passing.{far_rows}

abbrev IsAt : List Placed → Placed → Type 0
IsAt places m = place_of places m.id ≡ Some m.at

module _ (p : Point) where
  pub keeps_permuted : (k : ℕ) (places xs ys : List Placed) (kept : Kept) → AreOf places xs → IsPermutation xs ys → Keeps p k places xs kept → Keeps p k places ys kept
  keeps_permuted k places xs ys kept are perm pass = record {
    are_of = pass.are_of;
    nearest =
        let list : List Placed = held kept in
        pass_all p k list ys
        ∙ ap (take k) (ranked-shuffled p places (list ++ xs) (list ++ ys) (All-append (IsAt places) list xs pass.are_of are) (IsPermutation-append_right list xs ys perm))
        ∙ sym (pass_all p k list xs) ∙ pass.nearest;
  }

  pub searches_permuted : (k : ℕ) (places xs ys : List Placed) (kept : Kept) → IsPermutation xs ys → Searches p k places xs kept → Searches p k places ys kept
  searches_permuted k places xs ys kept perm s = record {
    are_of = All-permutation (IsAt places) xs ys perm s.are_of;
    keeps = keeps_permuted k places xs ys kept s.are_of perm s.keeps;
  }

  -- counts of what is nearer
  abbrev pub one_if : Bool → ℕ
  one_if b = cond b 1 0

  abbrev pub nearer : ℕ → Placed → Bool
  nearer reach m = nat_lt (distance m.at p) reach

  pub none_nearer : (reach : ℕ) (ms : List Placed) → All (λ (m : Placed). reach ≤ distance m.at p) ms → number_nearer p reach ms ≡ 0
  none_nearer reach [] far = refl
  none_nearer reach (m ∷ ms) far =
      omega (arith, sum_by-cons (λ n. one_if (nearer reach n)) m ms, none_nearer reach ms (All-tail (λ (m : Placed). reach ≤ distance m.at p) m ms far), out m (All-head (λ (m : Placed). reach ≤ distance m.at p) m ms far))
    where
      out : (m : Placed) → reach ≤ distance m.at p → one_if (nearer reach m) ≡ 0
      out m le = grind (arith, nat_tests)

  all_nearer : (reach : ℕ) (ms : List Placed) → All (λ (m : Placed). distance m.at p < reach) ms → number_nearer p reach ms ≡ length ms
  all_nearer reach [] near = refl
  all_nearer reach (m ∷ ms) near =
      omega (arith, sum_by-cons (λ n. one_if (nearer reach n)) m ms, all_nearer reach ms (All-tail (λ (m : Placed). distance m.at p < reach) m ms near), within m (All-head (λ (m : Placed). distance m.at p < reach) m ms near))
    where
      within : (m : Placed) → distance m.at p < reach → one_if (nearer reach m) ≡ 1
      within m lt = grind (arith, nat_tests)

  pub fewer : (reach : ℕ) (ms : List Placed) → number_nearer p reach ms ≤ length ms
  fewer reach [] = omega arith
  fewer reach (m ∷ ms) = omega (arith, sum_by-cons (λ n. one_if (nearer reach n)) m ms, fewer reach ms, at_most (nearer reach m))
    where
      at_most : (b : Bool) → one_if b ≤ 1
      at_most true = omega arith
      at_most false = omega arith

  -- within a greater distance there are no fewer
  pub number-grows : (r s : ℕ) (ms : List Placed) → r ≤ s → number_nearer p r ms ≤ number_nearer p s ms
  number-grows r s [] le = omega arith
  number-grows r s (m ∷ ms) le =
      omega (arith, sum_by-cons (λ n. one_if (nearer r n)) m ms, sum_by-cons (λ n. one_if (nearer s n)) m ms, number-grows r s ms le, one (nearer r m) (nearer s m) refl refl)
    where
      one : (b c : Bool) → nearer r m ≡ b → nearer s m ≡ c → one_if b ≤ one_if c
      one false c e f = omega arith
      one true true e f = omega arith
      one true false e f = absurd (grind (arith, nat_tests))

  -- where the farthest is nearer, all are
  not_below-near : (m n : Placed) → is_before p m n ≡ false → distance n.at p ≤ distance m.at p
  not_below-near m n e = grind (arith, nat_tests)

  pub all_as_near : (reach : ℕ) (m : Placed) (ms : List Placed) → Bounds p m ms → distance m.at p < reach → number_nearer p reach ms ≡ length ms
  all_as_near reach m ms bounds lt = all_nearer reach ms (λ i d less. omega (arith, lt, not_below-near m (get_or ms i d) (bounds i d less)))

  -- and where the first isn't, it isn't among those that are
  pub first_farther : (reach : ℕ) (m : Placed) (ms : List Placed) → reach ≤ distance m.at p → number_nearer p reach (m ∷ ms) < length (m ∷ ms)
  first_farther reach m ms le = omega (arith, sum_by-cons (λ n. one_if (nearer reach n)) m ms, fewer reach ms, out)
    where
      out : one_if (nearer reach m) ≡ 0
      out = grind (arith, nat_tests)

  -- one that isn't before another is as far
  not_before-far : (m n : Placed) → is_before p m n ≡ false → distance n.at p ≤ distance m.at p
  not_before-far m n e = grind (arith, nat_tests)

  pub ranked-far : (ms : List Placed) (i j : ℕ) (d : Placed) → i ≤ j → j < length (ranked p ms) → distance (get_or (ranked p ms) i d).at p ≤ distance (get_or (ranked p ms) j d).at p
  ranked-far ms i j d le lt =
      not_before-far (get_or (ranked p ms) j d) (get_or (ranked p ms) i d) (sorted_far (is_before p) (is_before-order p) (ranked p ms) (IsSortedBy-ranked p ms) i j d le lt)

  length-ranked : (ms : List Placed) → length (ranked p ms) ≡ length ms
  length-ranked ms = length_permutation ms (ranked p ms) (IsPermutation-ranked p ms)

  pub number-ranked : (reach : ℕ) (ms : List Placed) → number_nearer p reach (ranked p ms) ≡ number_nearer p reach ms
  number-ranked reach ms = sum_by-IsPermutation (λ n. one_if (nearer reach n)) ms (ranked p ms) (IsPermutation-ranked p ms)

  -- where fewer than k of those that are kept are nearer, the k-th of all objects isn't nearer
  pub reach-within : (k reach : ℕ) (places rest : List Placed) (kept : Kept) (d : Placed) → Keeps p k places rest kept → All (λ (m : Placed). reach ≤ distance m.at p) rest
      → number_nearer p reach (held kept) < k → k ≤ length places → reach ≤ reach_of p k places d
  reach-within k reach places rest kept d pass far few many = by_test (nat_lt (reach_of p k places d) reach) refl
    where
      list : List Placed
      list = held kept

      best : List Placed
      best = take k (ranked p places)

      long : length best ≡ k
      long = omega (arith, length-take k (ranked p places), length-ranked places, many)

      near : reach_of p k places d < reach → All (λ (m : Placed). distance m.at p < reach) best
      near lt i e less =
          let here : get_or best i e ≡ get_or (ranked p places) i e = get_or-take k (ranked p places) i e (omega (arith, less, long)) in
          let there = ranked-far places i (k - 1) e (omega (arith, less, long)) (omega (arith, length-ranked places, many, less, long)) in
          subst (λ (m : Placed). distance m.at p < reach) (sym here) (omega (arith, there, lt, same_at (ranked p places) (k - 1) e d (omega (arith, length-ranked places, many, less, long))))
        where
          same_at : (ms : List Placed) (i : ℕ) (e d : Placed) → i < length ms → distance (get_or ms i e).at p ≡ distance (get_or ms i d).at p
          same_at [] i e d lt = absurd (omega (arith, lt))
          same_at (m ∷ ms) zero e d lt = refl
          same_at (m ∷ ms) (suc i) e d lt = same_at ms i e d (omega (arith, lt))

      by_test : (b : Bool) → nat_lt (reach_of p k places d) reach ≡ b → reach ≤ reach_of p k places d
      by_test false e = grind (arith, nat_tests)
      by_test true e =
          let lt : reach_of p k places d < reach = grind (arith, nat_tests) in
          let all : number_nearer p reach best ≡ length best = all_nearer reach best (near lt) in
          let same : best ≡ take k (ranked p (list ++ rest)) = sym (sym (pass_all p k list rest) ∙ pass.nearest) in
          let part : number_nearer p reach (take k (ranked p (list ++ rest))) ≤ number_nearer p reach (ranked p (list ++ rest)) = sum_by-take-le (λ n. one_if (nearer reach n)) (ranked p (list ++ rest)) k in
          let sum : number_nearer p reach (list ++ rest) ≡ number_nearer p reach list + number_nearer p reach rest = sum_by-append (λ n. one_if (nearer reach n)) list rest in
          absurd (omega (arith, all, long, ap (number_nearer p reach) same, part, number-ranked reach (list ++ rest), sum, none_nearer reach rest far, few))

-- the objects that are ahead, in parts
module _ (leaves : List Leaf) where
  abbrev below : List Bool → List Placed
  below name = objects_of (all_rows (subtree name leaves))

  pub objects-cons : (a : Ahead) (ys : List Ahead) → objects_ahead leaves (a ∷ ys) ≡ below a.name ++ objects_ahead leaves ys
  objects-cons a ys =
      ap objects_of (flat_map-append (λ (l : Leaf). l.bucket.rows) (subtree a.name leaves) (leaves_ahead leaves ys)) ∙ map-append placed_of (all_rows (subtree a.name leaves)) (all_rows (leaves_ahead leaves ys))

  -- the objects below a name are no nearer than its region
  module _ (p : Point) (under : AreAllKeysUnder leaves) where
    under_front : (name long : List Bool) (rows : List Row) → IsFront name long → AreKeysUnder long rows → AreKeysUnder name rows
    under_front name long [] front under = tt
    under_front name long (r ∷ rows) front under = ((under.0.0, under-front name long r.key front under.0.1), under_front name long rows front under.1)

    far_below : (name : List Bool) (reach : ℕ) → ((q : Point) → IsPoint q → is_in name q ≡ true → reach ≤ distance q p) → (ls : List Leaf) → AreAllKeysUnder ls
        → All (λ (m : Placed). reach ≤ distance m.at p) (objects_of (all_rows (subtree name ls)))
    far_below name reach far [] under = All-nil (λ (m : Placed). reach ≤ distance m.at p)
    far_below name reach far (l ∷ ls) under = by_test (begins name l.name) refl (far_below name reach far ls under.1)
      where
        P : Placed → Type 0
        P m = reach ≤ distance m.at p

        by_test : (b : Bool) → begins name l.name ≡ b → All P (objects_of (all_rows (subtree name ls))) → All P (objects_of (all_rows (cond b (l ∷ subtree name ls) (subtree name ls))))
        by_test false e rest = rest
        by_test true e rest =
            subst (All P) (sym (map-append placed_of l.bucket.rows (all_rows (subtree name ls))))
            (All-append P (objects_of l.bucket.rows) (objects_of (all_rows (subtree name ls)))
            (far_rows p name reach far P (λ m le. le) l.bucket.rows (under_front name l.name l.bucket.rows (front-from_test name l.name e) under.0)) rest)

    pub far_ahead : (reach : ℕ) (ahead : List Ahead) → All (IsAhead p) ahead → All (λ (a : Ahead). reach ≤ a.least.0) ahead → All (λ (m : Placed). reach ≤ distance m.at p) (objects_ahead leaves ahead)
    far_ahead reach [] are low = All-nil (λ (m : Placed). reach ≤ distance m.at p)
    far_ahead reach (a ∷ ahead) are low =
        let P : Placed → Type 0 = λ m. reach ≤ distance m.at p in
        let is = All-head (IsAhead p) a ahead are in
        let le : reach ≤ a.least.0 = All-head (λ (a : Ahead). reach ≤ a.least.0) a ahead low in
        subst (All P) (sym (objects-cons a ahead))
        (All-append P (below a.name) (objects_ahead leaves ahead)
        (far_below a.name reach (λ q is_point inside. let near : least_to p a.name ≤ distance q p = least_distance-le (region_of a.name) p q (has_point-region_of a.name is.short q is_point ∙ inside) in omega (arith, le, is.least_is, near)) leaves under)
        (far_ahead reach ahead (All-tail (IsAhead p) a ahead are) (All-tail (λ (a : Ahead). reach ≤ a.least.0) a ahead low)))
