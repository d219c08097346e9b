-- The steps of a best-first search.
use Rattle.std.proofs.Common.{◌≡◌, ℕ, zero, suc, ◌+◌, ◌-◌, ◌*◌, ◌^◌, ◌<◌, ◌≤◌, Bool, true, false, cond, List, [], ◌∷◌, ◌++◌, length, take, get_or, Some, refl, sym, ap, subst, ◌∙◌, arith, append_assoc, length-append, length-take}
use Rattle.std.specs.Prelude.{nat_lt}
use Rattle.std.specs.List.{All, filter}
use Rattle.std.proofs.Math.Nat.{pow-succ'}
use Rattle.std.proofs.lemmas.Nat.{pow_pos}
use Rattle.std.proofs.lemmas.Bool.{le-leb}
use Rattle.std.specs.List.Sorted.{IsPermutation}
use Rattle.std.proofs.lemmas.List.{append-nil, get_or-take}
use Rattle.std.proofs.lemmas.List.Elements.{All-nil, All-cons, All-head, All-tail, filter-append}
use Rattle.std.proofs.lemmas.List.Sorted.{All-permutation, IsPermutation-refl}
use Rattle.std.proofs.lemmas.List.Sums.{sum_by-cons}
use Rattle.std.proofs.lemmas.Bool.Decides.{nat_tests}
use Rattle.zorder.specs.declared.points.Point.{Point}
use Rattle.zorder.specs.declared.points.Placed.{Placed}
use Rattle.zorder.specs.Distance.{distance}
use Rattle.bucket_versions.specs.declared.row.Row.{Row}
use Rattle.bucket_versions.specs.Rows.{Rows}
use Rattle.index_layer.specs.Leaves.{Leaf, names_of, all_rows, has_name, leaf_named}
use Rattle.zorder.specs.Tile.{tiles_from}
use Rattle.index_layer.proofs.LeafChanges.{leaf_at}
use Rattle.index_layer.specs.Narrowed.{PassesBare}
use Rattle.index_layer.specs.Part.{is_inner}
use Rattle.plain_list.specs.Queries.{ranked, is_before, with_ranked}
use Rattle.plain_list.specs.Places.{place_of}
use Rattle.plain_list.specs.AtPlaces.{AreOf}
use Rattle.plain_list.proofs.Ranking.{found_in}
use Rattle.knn_query.specs.Passes.{IsPass, with_more}
use Rattle.knn_query.proofs.Cuts.{take-with_more}
use Rattle.table_share.specs.Objects.{objects_of}
use Rattle.table_share.specs.Subtree.{subtree, leaves_of}
use Rattle.table_share.specs.Standing.{OfPlaces}
use Rattle.table_share.proofs.TableRows.{table_of}
use Rattle.table_share.proofs.RowObjects.{objects-permutation}
use Rattle.table_share.proofs.LeafRows.{leaves_under}
use Rattle.table_share.proofs.Narrowings.{narrowed-rows, narrowed-fewer}
use Rattle.table_share.proofs.Subtrees.{subtree-whole, subtree-leaf, subtree-halves, inner-room}
use Rattle.knn_query.specs.Ahead.{least_to, reach_of, number_nearer, IsAhead, leaves_ahead, objects_ahead, weight_of}
use Rattle.knn_query.specs.Search.{State, Counts, CountsNear, every, within}
use Rattle.knn_query.specs.Passes.{held, IsEmpty, Keeps, Passes}
use Rattle.knn_query.specs.declared.ahead.Ahead.{Ahead}
use Rattle.knn_query.specs.declared.kept.Kept.{Kept}
use Rattle.knn_query.proofs.Shuffles.{objects-shuffled, number-shuffled, leaves-shuffled}
use Rattle.knn_query.proofs.Passing.{passes_on, front_of, back_of, before_all, filter-all}
use Rattle.knn_query.proofs.Searching.{objects-cons, far_ahead, reach-within, searches_permuted, ranked-far, number-ranked, none_nearer, fewer, one_if, nearer}

-- where k are nearer than all that is to come, nothing of it is wanted
module _ (p : Point) (reach : ℕ) where
  front_count : (ms : List Placed) (i : ℕ) → ((j : ℕ) (d : Placed) → i ≤ j → j < length ms → reach ≤ distance (get_or ms j d).at p) → number_nearer p reach ms ≤ i
  front_count [] i far = omega arith
  front_count (m ∷ ms) zero far = omega (arith, none_nearer p reach (m ∷ ms) (λ j d lt. far j d (omega arith) lt))
  front_count (m ∷ ms) (suc i) far =
      omega (arith, sum_by-cons (λ n. one_if p (nearer p reach n)) m ms, front_count ms i (λ j d le lt. far (suc j) d (omega (arith, le)) (omega (arith, lt))), at_most (nearer p reach m))
    where
      at_most : (b : Bool) → one_if p b ≤ 1
      at_most true = omega arith
      at_most false = omega arith

  left_out : (m : Placed) (ns : List Placed) → All (λ (n : Placed). distance n.at p < reach) ns → reach ≤ distance m.at p → take (length ns) (with_ranked p m ns) ≡ ns
  left_out m [] near far = refl
  left_out m (n ∷ ns) near far =
      by_test (is_before p m n) (behind n (All-head (λ (n : Placed). distance n.at p < reach) n ns near)) (left_out m ns (All-tail (λ (n : Placed). distance n.at p < reach) n ns near) far)
    where
      behind : (n : Placed) → distance n.at p < reach → is_before p m n ≡ false
      behind n lt = grind (arith, nat_tests)

      by_test : (b : Bool) → b ≡ false → take (length ns) (with_ranked p m ns) ≡ ns → take (suc (length ns)) (cond b (m ∷ n ∷ ns) (n ∷ with_ranked p m ns)) ≡ n ∷ ns
      by_test true e rest = cc e
      by_test false e rest = ap (λ (l : List Placed). n ∷ l) rest

  module _ (k : ℕ) (best : List Placed) (long : length best ≡ k) (near : All (λ (n : Placed). distance n.at p < reach) best) where
    front_out : (front rest : List Placed) → All (λ (m : Placed). reach ≤ distance m.at p) front → take k (with_more p best (front ++ rest)) ≡ take k (with_more p best rest)
    front_out [] rest far = refl
    front_out (m ∷ front) rest far =
        let out : take k (with_ranked p m best) ≡ best = subst (λ j. take j (with_ranked p m best) ≡ best) long (left_out m best near (All-head (λ (m : Placed). reach ≤ distance m.at p) m front far)) in
        sym (take-with_more p k (front ++ rest) (with_ranked p m best)) ∙ ap (λ l. take k (with_more p l (front ++ rest))) out ∙ front_out front rest (All-tail (λ (m : Placed). reach ≤ distance m.at p) m front far)

  -- where k are nearer than some of what is to come, those need not come
  pub keeps-out : (k : ℕ) (places front rest : List Placed) (kept : Kept) → Keeps p k places (front ++ rest) kept → All (λ (m : Placed). reach ≤ distance m.at p) front → k ≤ number_nearer p reach (held kept)
      → Keeps p k places rest kept
  keeps-out k places front rest kept pass far many =
      let list : List Placed = held kept in
      let best : List Placed = take k (ranked p list) in
      let counted : k ≤ number_nearer p reach (ranked p list) = omega (arith, many, number-ranked p reach list) in
      let long : length best ≡ k = omega (arith, length-take k (ranked p list), fewer p reach (ranked p list), counted) in
      let near : All (λ (n : Placed). distance n.at p < reach) best = λ i d lt.
      by_test i d lt (nat_lt (distance (get_or (ranked p list) i d).at p) reach) refl in
      record {
        are_of = pass.are_of;
        nearest = sym (front_out k best long near front rest far) ∙ pass.nearest;
      }
    where
      by_test : (i : ℕ) (d : Placed) → i < length (take k (ranked p (held kept))) → (b : Bool) → nat_lt (distance (get_or (ranked p (held kept)) i d).at p) reach ≡ b
          → distance (get_or (take k (ranked p (held kept))) i d).at p < reach
      by_test i d lt b e = within b e
        where
          list : List Placed
          list = ranked p (held kept)

          less : i < k
          less = omega (arith, lt, length-take k list)

          inside : i < length list
          inside = omega (arith, lt, length-take k list)

          here : get_or (take k list) i d ≡ get_or list i d
          here = get_or-take k list i d less

          within : (b : Bool) → nat_lt (distance (get_or list i d).at p) reach ≡ b → distance (get_or (take k list) i d).at p < reach
          within true e = subst (λ (m : Placed). distance m.at p < reach) (sym here) (grind (arith, nat_tests))
          within false e =
              let from : reach ≤ distance (get_or list i d).at p = grind (arith, nat_tests) in
              let few : number_nearer p reach list ≤ i =
              front_count list i (λ j f le lt_j. omega (arith, from, ranked-far p (held kept) i j d le lt_j, same_at list j d f lt_j)) in
              absurd (omega (arith, few, less, many, number-ranked p reach (held kept)))
            where
              same_at : (ms : List Placed) (i : ℕ) (e d : Placed) → i < length ms → distance (get_or ms i e).at p ≡ distance (get_or ms i d).at p
              same_at [] i e d lt = absurd (omega (arith, lt))
              same_at (m ∷ ms) zero e d lt = refl
              same_at (m ∷ ms) (suc i) e d lt = same_at ms i e d (omega (arith, lt))

module _ (p : Point) (k : ℕ) (leaves : List Leaf) (before : ℕ) where
  number-append : (passes : List Bool → Bool) (xs ys : List Leaf) → length (leaves_of passes (xs ++ ys)) ≡ length (leaves_of passes xs) + length (leaves_of passes ys)
  number-append passes xs ys = ap length (filter-append (λ (l : Leaf). passes l.name) xs ys) ∙ length-append (leaves_of passes xs) (leaves_of passes ys)

  -- where the leaves that are ahead are the same, in another order
  state-same : (now : ℕ) (xs ys : List Ahead) (kept : Kept) → IsPermutation (leaves_ahead leaves xs) (leaves_ahead leaves ys) → All (IsAhead p) ys → State p k leaves before now xs kept → State p k leaves before now ys kept
  state-same now xs ys kept perm are s =
      let count : (passes : List Bool → Bool) → Counts leaves before passes now (leaves_ahead leaves xs) → Counts leaves before passes now (leaves_ahead leaves ys) =
      λ passes counts. omega (arith, counts, number-shuffled passes (leaves_ahead leaves xs) (leaves_ahead leaves ys) perm) in
      record {
        from = s.from;
        k_is = s.k_is;
        is_held = s.is_held;
        are = are;
        searches = λ places names are_places stands.
            searches_permuted p k places (objects_ahead leaves xs) (objects_ahead leaves ys) kept (objects-shuffled (leaves_ahead leaves xs) (leaves_ahead leaves ys) perm) (s.searches places names are_places stands);
        opened = count every s.opened;
        near = λ places names are_places stands d many. count (within p (reach_of p k places d)) (s.near places names are_places stands d many);
        some = s.some;
      }

  pub state-shuffled : (now : ℕ) (xs ys : List Ahead) (kept : Kept) → IsPermutation xs ys → State p k leaves before now xs kept → State p k leaves before now ys kept
  state-shuffled now xs ys kept perm s = state-same now xs ys kept (leaves-shuffled leaves xs ys perm) (All-permutation (IsAhead p) xs ys perm s.are) s

  -- without some that are ahead, of which nothing need come
  state-less : (now : ℕ) (b : Ahead) (left : List Ahead) (kept : Kept) → OfPlaces leaves (λ places. Keeps p k places (objects_ahead leaves left) kept) → State p k leaves before now (b ∷ left) kept → State p k leaves before now left kept
  state-less now b left kept keeps s =
      let count : (passes : List Bool → Bool) → Counts leaves before passes now (leaves_ahead leaves (b ∷ left)) → Counts leaves before passes now (leaves_ahead leaves left) =
      λ passes counts. omega (arith, counts, number-append passes (subtree b.name leaves) (leaves_ahead leaves left)) in
      record {
        from = s.from;
        k_is = s.k_is;
        is_held = s.is_held;
        are = All-tail (IsAhead p) b left s.are;
        searches = λ places names are_places stands. record {
          are_of = back_of places (objects_of (all_rows (subtree b.name leaves))) (objects_ahead leaves left) (subst (AreOf places) (objects-cons leaves b left) (s.searches places names are_places stands).are_of);
          keeps = keeps places names are_places stands;
        };
        opened = count every s.opened;
        near = λ places names are_places stands d many. count (within p (reach_of p k places d)) (s.near places names are_places stands d many);
        some = s.some;
      }

  far_below : (b : Ahead) → IsAhead p b → OfPlaces leaves (λ places. All (λ (m : Placed). b.least.0 ≤ distance m.at p) (objects_of (all_rows (subtree b.name leaves))))
  far_below b is places names are_places stands =
      let P : Placed → Type 0 = λ m. b.least.0 ≤ distance m.at p in
      subst (λ (ls : List Leaf). All P (objects_of (all_rows ls))) (append-nil (subtree b.name leaves))
      (far_ahead leaves p (leaves_under places leaves stands.rows) b.least.0 (b ∷ []) (All-cons (IsAhead p) b [] is (All-nil (IsAhead p)))
      (All-cons (λ (c : Ahead). b.least.0 ≤ c.least.0) b [] (omega arith) (All-nil (λ (c : Ahead). b.least.0 ≤ c.least.0))))

  -- a subtree is left out where k of those that are kept are nearer
  pub state-out : (now : ℕ) (b : Ahead) (left : List Ahead) (kept : Kept) → k ≤ number_nearer p b.least.0 (held kept) → State p k leaves before now (b ∷ left) kept → State p k leaves before now left kept
  state-out now b left kept many s =
      state-less now b left kept
      (λ places names are_places stands.
      keeps-out p b.least.0 k places (objects_of (all_rows (subtree b.name leaves))) (objects_ahead leaves left) kept
      (subst (λ (ms : List Placed). Keeps p k places ms kept) (objects-cons leaves b left) (s.searches places names are_places stands).keeps)
      (far_below b (All-head (IsAhead p) b left s.are) places names are_places stands) many) s

  -- and where nothing is below it
  pub state-bare : (now : ℕ) (b : Ahead) (left : List Ahead) (kept : Kept) → all_rows (subtree b.name leaves) ≡ [] → State p k leaves before now (b ∷ left) kept → State p k leaves before now left kept
  state-bare now b left kept bare s =
      state-less now b left kept
      (λ places names are_places stands.
      subst (λ (ms : List Placed). Keeps p k places ms kept) (objects-cons leaves b left ∙ ap (λ (rs : List Row). objects_of rs ++ objects_ahead leaves left) bare) (s.searches places names are_places stands).keeps) s

  -- no more than these were opened
  pub ends : (passes : List Bool → Bool) (now : ℕ) (left : List Leaf) → Counts leaves before passes now left → now ≤ before + length (leaves_of passes leaves)
  ends passes now left counts = omega (arith, counts)

  pub ends-every : (now : ℕ) (left : List Leaf) → Counts leaves before every now left → now ≤ before + length leaves
  ends-every now left counts = omega (arith, counts, ap length (filter-all leaves))

  -- the objects of what is ahead are no nearer than the nearest of them
  all_far : (now : ℕ) (a : Ahead) (left : List Ahead) (kept : Kept) → State p k leaves before now (a ∷ left) kept → All (λ (b : Ahead). a.least.0 ≤ b.least.0) (a ∷ left)
      → OfPlaces leaves (λ places. All (λ (m : Placed). a.least.0 ≤ distance m.at p) (objects_ahead leaves (a ∷ left)))
  all_far now a left kept s low places names are_places stands = far_ahead leaves p (leaves_under places leaves stands.rows) a.least.0 (a ∷ left) s.are low

  -- where k are nearer than the nearest, the search ends
  pub closed : (now : ℕ) (a : Ahead) (left : List Ahead) (kept : Kept) → State p k leaves before now (a ∷ left) kept → All (λ (b : Ahead). a.least.0 ≤ b.least.0) (a ∷ left) → k ≤ number_nearer p a.least.0 (held kept)
      → OfPlaces leaves (λ places. Keeps p k places [] kept)
  closed now a left kept s low many places names are_places stands =
      keeps-out p a.least.0 k places (objects_ahead leaves (a ∷ left)) [] kept
      (subst (λ (ms : List Placed). Keeps p k places ms kept) (sym (append-nil (objects_ahead leaves (a ∷ left)))) (s.searches places names are_places stands).keeps) (all_far now a left kept s low places names are_places stands) many

  -- a subtree of two halves
  pub state-halves : tiles_from 0 (names_of leaves) ≡ true → (now : ℕ) (a fore hind : Ahead) (left : List Ahead) (kept : Kept) → is_inner a.name leaves ≡ true → has_name a.name leaves ≡ false → fore.name ≡ a.name ++ false ∷ []
      → hind.name ≡ a.name ++ true ∷ [] → IsAhead p fore → IsAhead p hind → State p k leaves before now (a ∷ left) kept → State p k leaves before now (fore ∷ hind ∷ left) kept
  state-halves tile now a fore hind left kept inner none is_fore is_hind fore_is hind_is s =
      let both : subtree a.name leaves ≡ subtree fore.name leaves ++ subtree hind.name leaves =
      subtree-halves a.name (omega (arith, inner-room a.name leaves tile inner)) 0 leaves tile none ∙ (λ i. subtree (sym is_fore i) leaves ++ subtree (sym is_hind i) leaves) in
      let same : leaves_ahead leaves (a ∷ left) ≡ leaves_ahead leaves (fore ∷ hind ∷ left) =
      ap (λ (ls : List Leaf). ls ++ leaves_ahead leaves left) both ∙ append_assoc (subtree fore.name leaves) (subtree hind.name leaves) (leaves_ahead leaves left) in
      state-same now (a ∷ left) (fore ∷ hind ∷ left) kept (subst (IsPermutation (leaves_ahead leaves (a ∷ left))) same (IsPermutation-refl (leaves_ahead leaves (a ∷ left))))
      (All-cons (IsAhead p) fore (hind ∷ left) fore_is (All-cons (IsAhead p) hind left hind_is (All-tail (IsAhead p) a left s.are))) s

  -- at a leaf
  module _ (tile : tiles_from 0 (names_of leaves) ≡ true) (now : ℕ) (a : Ahead) (left : List Ahead) (kept : Kept) (s : State p k leaves before now (a ∷ left) kept)
      (b : Rows) (found : leaf_named a.name leaves ≡ Some (record { name = a.name; bucket = b })) (low : All (λ (c : Ahead). a.least.0 ≤ c.least.0) (a ∷ left)) (few : number_nearer p a.least.0 (held kept) < k) where
    one : subtree a.name leaves ≡ leaf_at a.name b ∷ []
    one = subtree-leaf a.name 0 leaves (leaf_at a.name b) tile found

    leaf-count : (passes : List Bool → Bool) → passes a.name ≡ true → Counts leaves before passes now (leaves_ahead leaves (a ∷ left)) → Counts leaves before passes (now + 1) (leaves_ahead leaves left)
    leaf-count passes passing counts =
        omega (
          arith,
          counts,
          ap (λ (ls : List Leaf). length (leaves_of passes (ls ++ leaves_ahead leaves left))) one,
          ap (λ c. length (cond c (leaf_at a.name b ∷ leaves_of passes (leaves_ahead leaves left)) (leaves_of passes (leaves_ahead leaves left)))) passing,
        )

    pub opened-leaf : Counts leaves before every (now + 1) (leaves_ahead leaves left)
    opened-leaf = leaf-count every refl s.opened

    pub near-leaf : CountsNear p k leaves before (now + 1) (leaves_ahead leaves left)
    near-leaf places names are_places stands d many =
        let reach = reach-within p k a.least.0 places (objects_ahead leaves (a ∷ left)) kept d (s.searches places names are_places stands).keeps (all_far now a left kept s low places names are_places stands) few many in
        let is : IsAhead p a = All-head (IsAhead p) a left s.are in
        leaf-count (within p (reach_of p k places d)) (le-leb (least_to p a.name) (reach_of p k places d) (omega (arith, reach, is.least_is))) (s.near places names are_places stands d many)

    pub leaf-state : (new : Kept) (then : ℕ) → then ≡ now + 1 → before ≤ now → Passes (objects_of b.rows) kept new → State p k leaves before then left new
    leaf-state new then next le passes = record {
      from = passes.from ∙ s.from;
      k_is = passes.k_is ∙ s.k_is;
      is_held = passes.is_held;
      are = All-tail (IsAhead p) a left s.are;
      searches = λ places names are_places stands.
          let t = s.searches places names are_places stands in
          let here : objects_ahead leaves (a ∷ left) ≡ objects_of b.rows ++ objects_ahead leaves left =
          objects-cons leaves a left ∙ ap (λ (ls : List Leaf). objects_of (all_rows ls) ++ objects_ahead leaves left) one ∙ ap (λ (rs : List Row). objects_of rs ++ objects_ahead leaves left) (append-nil b.rows) in
          let are : AreOf places (objects_of b.rows ++ objects_ahead leaves left) = subst (AreOf places) here t.are_of in
          record {
            are_of = back_of places (objects_of b.rows) (objects_ahead leaves left) are;
            keeps = passes_on p k places (objects_of b.rows) (objects_ahead leaves left) kept new s.from s.k_is passes (front_of places (objects_of b.rows) (objects_ahead leaves left) are)
                (subst (λ (ms : List Placed). Keeps p k places ms kept) here t.keeps);
          };
      opened = subst (λ n. Counts leaves before every n (leaves_ahead leaves left)) (sym next) opened-leaf;
      near = λ places names are_places stands d many. subst (λ n. Counts leaves before (within p (reach_of p k places d)) n (leaves_ahead leaves left)) (sym next) (near-leaf places names are_places stands d many);
      some = λ same. absurd (omega (arith, same, next, le));
    }

  -- at a name below which are all rows
  pub begins-state : (a : Ahead) (kept : Kept) → IsEmpty p k kept → PassesBare [] a.name leaves → IsAhead p a → State p k leaves before before (a ∷ []) kept
  begins-state a kept empty passed is =
      let all : leaves_ahead leaves (a ∷ []) ≡ subtree a.name leaves = append-nil (subtree a.name leaves) in
      let rows : all_rows (leaves_ahead leaves (a ∷ [])) ≡ all_rows leaves = ap all_rows all ∙ narrowed-rows [] a.name leaves passed ∙ ap all_rows (subtree-whole leaves) in
      let fewer : (passes : List Bool → Bool) → length (leaves_of passes (leaves_ahead leaves (a ∷ []))) ≤ length (leaves_of passes leaves) =
      λ passes.
      omega (
        arith,
        ap (λ (ls : List Leaf). length (leaves_of passes ls)) all,
        narrowed-fewer passes [] a.name leaves passed,
        ap (λ (ls : List Leaf). length (leaves_of passes ls)) (subtree-whole leaves),
      ) in
      record {
        from = empty.from;
        k_is = empty.k_is;
        is_held = empty.is_held;
        are = All-cons (IsAhead p) a [] is (All-nil (IsAhead p));
        searches = λ places names are_places stands.
            let table = table_of leaves places names stands in
            let objects : IsPermutation places (objects_of (all_rows leaves)) =
            subst (λ (l : List Placed). IsPermutation l (objects_of (all_rows leaves))) (filter-all places)
            (subst (λ (l : List Placed). IsPermutation (filter (λ (m : Placed). true) places) l) (filter-all (objects_of (all_rows leaves)))
            (objects-permutation (λ (m : Placed). true) places (all_rows leaves) are_places.rising are_places.points table.ordered table.has)) in
            let rest : IsPermutation places (objects_ahead leaves (a ∷ [])) = subst (λ (rs : List Row). IsPermutation places (objects_of rs)) (sym rows) objects in
            record {
              are_of = All-permutation (λ (m : Placed). place_of places m.id ≡ Some m.at) places (objects_ahead leaves (a ∷ [])) rest (found_in places are_places.rising);
              keeps = subst (λ l. IsPass p k places (objects_ahead leaves (a ∷ [])) l) (sym empty.none) (before_all p k places (objects_ahead leaves (a ∷ [])) are_places.rising rest);
            };
        opened = omega (arith, fewer every);
        near = λ places names are_places stands d many. omega (arith, fewer (within p (reach_of p k places d)));
        some = λ same. empty.none;
      }

-- the work that is left: a subtree's halves have less than it
weight-halves : (name : List Bool) (a b : Bool) → length name < 64 → (2 ^ (65 - length (name ++ a ∷ [])) - 1) + (2 ^ (65 - length (name ++ b ∷ [])) - 1) < 2 ^ (65 - length name) - 1
weight-halves name a b room =
    let first : 65 - length (name ++ a ∷ []) ≡ 64 - length name = omega (arith, length-append name (a ∷ [])) in
    let second : 65 - length (name ++ b ∷ []) ≡ 64 - length name = omega (arith, length-append name (b ∷ [])) in
    let more : 65 - length name ≡ suc (64 - length name) = omega (arith, room) in
    let double : 2 ^ suc (64 - length name) ≡ 2 * 2 ^ (64 - length name) = pow-succ' 2 (64 - length name) in
    omega (arith, ap (λ n. 2 ^ n) first, ap (λ n. 2 ^ n) second, ap (λ n. 2 ^ n) more, double, pow_pos (64 - length name))

pub weight-some : (a : Ahead) → length a.name ≤ 64 → 0 < weight_of a
weight-some a short =
    let more : 65 - length a.name ≡ suc (64 - length a.name) = omega (arith, short) in
    let double : 2 ^ suc (64 - length a.name) ≡ 2 * 2 ^ (64 - length a.name) = pow-succ' 2 (64 - length a.name) in
    omega (arith, ap (λ n. 2 ^ n) more, double, pow_pos (64 - length a.name))

pub weight-two : (a fore hind : Ahead) → length a.name < 64 → fore.name ≡ a.name ++ false ∷ [] → hind.name ≡ a.name ++ true ∷ [] → weight_of fore + weight_of hind < weight_of a
weight-two a fore hind room is_fore is_hind =
    omega (arith, ap (λ (n : List Bool). 2 ^ (65 - length n) - 1) is_fore, ap (λ (n : List Bool). 2 ^ (65 - length n) - 1) is_hind, weight-halves a.name false true room)

-- where something was found, something was opened
pub opens-some : (before now n : ℕ) → before ≤ now → (now ≡ before → n ≡ 0) → 0 < n → before < now
opens-some before now n le none some = by_test (nat_lt before now) refl
  where
    by_test : (b : Bool) → nat_lt before now ≡ b → before < now
    by_test true e = grind (arith, nat_tests)
    by_test false e =
        let same : now ≤ before = grind (arith, nat_tests) in
        absurd (omega (arith, some, none (omega (arith, same, le))))
