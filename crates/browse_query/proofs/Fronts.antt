-- How a browse goes on.
use Rattle.std.proofs.Common.{◌≡◌, ℕ, ◌+◌, ◌<◌, ◌≤◌, Bool, true, false, cond, List, [], ◌∷◌, ◌++◌, length, map, get_or, Option, Some, None, inl, inr, refl, sym, ap, subst, ◌∙◌, arith, append_assoc, append-nil, length-append}
use Rattle.std.specs.Prelude.{nat_lt, IfSome, Result, Ok, Err, IsErr}
use mathlib.Core.Bool.{true≢false}
use Rattle.std.specs.BinaryHeap.{heap_items, IsHeap, IsUpperBound}
use Rattle.std.specs.List.{All, AllByRecursion, sum_by}
use Rattle.std.specs.List.Sorted.{IsPermutation}
use Rattle.std.specs.Ordering.{nat_cmp, ordering_then, is_lt}
use Rattle.std.specs.declared.cmp.Reverse.{Reverse}
use Rattle.std.proofs.lemmas.Bool.{le-leb}
use Rattle.std.proofs.lemmas.Bool.Decides.{nat_tests}
use Rattle.std.proofs.lemmas.Grind.{common_steps}
use Rattle.std.proofs.lemmas.List.{length-map}
use Rattle.std.proofs.lemmas.List.Elements.{All-nil, All-cons, All-head, All-tail, All-append, All-map}
use Rattle.std.proofs.lemmas.List.Sorted.{All-permutation, IsPermutation-refl, IsPermutation-trans, IsPermutation-cons, IsPermutation-map, IsPermutation-append_left, IsPermutation-append_right, IsPermutation-append_comm, length_permutation, sum_by-IsPermutation}
use Rattle.std.proofs.lemmas.List.Sums.{sum_by-cons}
use denote.Ref.{Bor}
use Rattle.zorder.specs.declared.points.Point.{Point}
use Rattle.zorder.specs.declared.points.Placed.{Placed}
use Rattle.zorder.specs.Tile.{tiles_from}
use Rattle.bucket_versions.specs.declared.row.Row.{Row}
use Rattle.index_layer.specs.Leaves.{Leaf, AreUnder, all_rows, has_name, names_of}
use Rattle.index_layer.specs.Part.{is_inner}
use Rattle.table_share.specs.Subtree.{subtree, leaves_of}
use Rattle.table_share.proofs.Subtrees.{inner-room, subtree-halves}
use Rattle.knn_query.specs.Ahead.{least_to, IsAhead, leaves_ahead, weight_of}
use Rattle.knn_query.specs.Search.{within, AreHalves}
use Rattle.knn_query.specs.Waiting.{ahead_of, waiting_at, waiting_cmp, AreAt}
use Rattle.knn_query.specs.declared.ahead.Ahead.{Ahead}
use Rattle.knn_query.specs.declared.ahead.Waiting.{Waiting}
use Rattle.knn_query.proofs.Shuffles.{leaves-shuffled, number-shuffled, IsPermutation-flat_map}
use Rattle.knn_query.proofs.Steps.{weight-some, weight-two}
use Rattle.browse_query.specs.Coming.{FirstWithin, IsNext, OpensOnce, OpensNearFirst}
use Rattle.browse_query.specs.Found.{found_of, object_of, comes_before, in_order, IsMeasured}
use Rattle.browse_query.specs.Front.{founds, last_cmp, with_nearest, unopened, subtrees, leaves_left, to_come, work, coming, AreFarther, GoesOn, HasFirst, IsFirst, IsFront, IsTaken}
use Rattle.browse_query.specs.declared.found.Found.{Found}
use Rattle.browse_query.specs.declared.front.Front.{Front}
use Rattle.browse_query.proofs.Orders.{in_order-first, in_order-once, in_order-permutation}
use Rattle.browse_query.proofs.Rows.{founds_of, founds_ahead, founds-cons, founds-shuffled, far-ahead, number-append}

measured-rows : (p : Point) (rows : List Row) → All (IsMeasured p) (founds_of p rows)
measured-rows p rows = All-map (IsMeasured p) (found_of p) rows (λ i d lt. refl)

two-first : (a b : Ahead) (xs : List Ahead) → IsPermutation (a ∷ b ∷ xs) (b ∷ a ∷ xs)
two-first a b xs = IsPermutation-append_left xs (a ∷ b ∷ []) (b ∷ a ∷ []) (IsPermutation-append_comm (a ∷ []) (b ∷ []))

pub bare-added : (p : Point) (rows : List Row) (cs : List Found) → rows ≡ [] → IsPermutation (cs ++ founds_of p rows) cs
bare-added p rows cs none =
    subst (λ (l : List Found). IsPermutation l cs) (sym (ap (λ rs. cs ++ founds_of p rs) none ∙ append-nil cs)) (IsPermutation-refl cs)

-- the nearest subtree is `w`
module _ {P : Type 0} (leaves : List Leaf) (is_at : P → List Bool → Type 0) (old new : Front P) (w : Waiting (Bor P)) (is : old.nearest ≡ Some w) (f : IsFront is_at old) (from : new.from ≡ old.from) where
  abbrev p : Point
  p = old.from

  abbrev others : List (Waiting (Bor P))
  others = heap_items old.waiting

  abbrev a : Ahead
  a = w.ahead

  abbrev left : List Ahead
  left = ahead_of others

  abbrev here : List Found
  here = founds_of p (all_rows (subtree a.name leaves))

  all : unopened old ≡ w ∷ others
  all = ap (λ (n : Option (Waiting (Bor P))). with_nearest n others) is

  ahead-all : subtrees old ≡ a ∷ left
  ahead-all = ap ahead_of all

  pub are : All (IsAhead p) (a ∷ left)
  are = subst (All (IsAhead p)) ahead-all f.are

  pub at : AreAt is_at (w ∷ others)
  at = subst (AreAt is_at) all f.at

  pub low : All (λ (v : Waiting (Bor P)). a.least.0 ≤ v.ahead.least.0) others
  low = subst (λ (n : Option (Waiting (Bor P))). AreFarther n others) is f.farther

  come-old : to_come leaves old ≡ founds (heap_items old.found) ++ (here ++ founds_ahead p leaves left)
  come-old = ap (λ xs. founds (heap_items old.found) ++ founds_ahead p leaves xs) ahead-all ∙ ap (λ cs. founds (heap_items old.found) ++ cs) (founds-cons p leaves a left)

  come-new : to_come leaves new ≡ founds (heap_items new.found) ++ founds_ahead p leaves (subtrees new)
  come-new = ap (λ q. founds (heap_items new.found) ++ founds_ahead q leaves (subtrees new)) from

  nearest-so : (passes : List Bool → Bool) → IfSome old.nearest (λ v. passes v.ahead.name ≡ true) → passes a.name ≡ true
  nearest-so passes h = subst (λ (n : Option (Waiting (Bor P))). IfSome n (λ v. passes v.ahead.name ≡ true)) is h

  work-old : work old ≡ weight_of a + sum_by weight_of left
  work-old = ap (sum_by weight_of) ahead-all ∙ sum_by-cons weight_of a left

  -- at a leaf with some rows
  pub some-come : 0 < length (all_rows (subtree a.name leaves)) → 0 < length (to_come leaves old)
  some-come some =
      let rows : List Row = all_rows (subtree a.name leaves) in
      omega (
        arith,
        some,
        ap length come-old,
        length-append (founds (heap_items old.found)) (here ++ founds_ahead p leaves left),
        length-append here (founds_ahead p leaves left),
        length-map rows (found_of p),
      )

  pub counted-leaf : (l : Leaf) → subtree a.name leaves ≡ l ∷ [] → l.name ≡ a.name → 0 < length (all_rows (subtree a.name leaves)) → (before now : ℕ) → now ≡ before + 1 → (passes : List Bool → Bool)
      → (0 < length (to_come leaves old) → passes a.name ≡ true) → now ≤ before + length (leaves_of passes (subtree a.name leaves))
  counted-leaf l one named some before now next passes passing =
      let passed : passes l.name ≡ true = ap passes named ∙ passing (some-come some) in
      omega (arith, next, ap (λ (ls : List Leaf). length (leaves_of passes ls)) one, ap (λ b. length (cond b (l ∷ []) [])) passed)

  -- its objects were found, and the others wait
  module _ (before now : ℕ) (perm : IsPermutation others (unopened new)) (farther : AreFarther new.nearest (heap_items new.waiting)) (ordered : IsHeap waiting_cmp (heap_items new.waiting))
      (found_order : IsHeap last_cmp (heap_items new.found)) (added : IsPermutation (founds (heap_items old.found) ++ here) (founds (heap_items new.found)))
      (counted : (passes : List Bool → Bool) → (0 < length (to_come leaves old) → passes a.name ≡ true) → now ≤ before + length (leaves_of passes (subtree a.name leaves))) where
    ahead-perm : IsPermutation left (subtrees new)
    ahead-perm = IsPermutation-map (λ (v : Waiting (Bor P)). v.ahead) others (unopened new) perm

    measured : All (IsMeasured p) (founds (heap_items new.found))
    measured =
        All-permutation (IsMeasured p) (founds (heap_items old.found) ++ here) (founds (heap_items new.found)) added
        (All-append (IsMeasured p) (founds (heap_items old.found)) here f.measured (measured-rows p (all_rows (subtree a.name leaves))))

    same : IsPermutation (founds (heap_items old.found) ++ (here ++ founds_ahead p leaves left)) (founds (heap_items new.found) ++ founds_ahead p leaves (subtrees new))
    same =
        IsPermutation-trans (founds (heap_items old.found) ++ (here ++ founds_ahead p leaves left)) (founds (heap_items new.found) ++ founds_ahead p leaves left) (founds (heap_items new.found) ++ founds_ahead p leaves (subtrees new))
        (subst (λ cs. IsPermutation cs (founds (heap_items new.found) ++ founds_ahead p leaves left)) (append_assoc (founds (heap_items old.found)) here (founds_ahead p leaves left))
        (IsPermutation-append_left (founds_ahead p leaves left) (founds (heap_items old.found) ++ here) (founds (heap_items new.found)) added))
        (IsPermutation-append_right (founds (heap_items new.found)) (founds_ahead p leaves left) (founds_ahead p leaves (subtrees new)) (founds-shuffled p leaves left (subtrees new) ahead-perm))

    pub gone-on : GoesOn leaves is_at before now old new
    gone-on = record {
      from = from;
      is = record {
        found_order = found_order;
        waiting_order = ordered;
        measured = subst (λ q. All (IsMeasured q) (founds (heap_items new.found))) (sym from) measured;
        are = subst (λ q. All (IsAhead q) (subtrees new)) (sym from) (All-permutation (IsAhead p) left (subtrees new) ahead-perm (All-tail (IsAhead p) a left are));
        at = All-permutation (λ (v : Waiting (Bor P)). is_at v.place.now v.ahead.name) others (unopened new) perm (All-tail (λ (v : Waiting (Bor P)). is_at v.place.now v.ahead.name) w others at);
        farther = farther;
      };
      same = subst (λ cs. IsPermutation cs (to_come leaves new)) (sym come-old) (subst (IsPermutation (founds (heap_items old.found) ++ (here ++ founds_ahead p leaves left))) (sym come-new) same);
      opened = λ passes passing.
          omega (
            arith,
            counted passes (λ some. nearest-so passes (passing some)),
            number-append passes (subtree a.name leaves) (leaves_ahead leaves left),
            ap (λ xs. length (leaves_of passes (leaves_ahead leaves xs))) ahead-all,
            number-shuffled passes (leaves_ahead leaves left) (leaves_left leaves new) (leaves-shuffled leaves left (subtrees new) ahead-perm),
          );
    }

    pub less-on : work new < work old
    less-on = omega (arith, work-old, sum_by-IsPermutation weight_of left (subtrees new) ahead-perm, weight-some a (All-head (IsAhead p) a left are).short)

  -- its nearer half is the nearest, and the other one waits
  module _ (before : ℕ) (tile : tiles_from 0 (names_of leaves) ≡ true) (inner : is_inner a.name leaves ≡ true) (none : has_name a.name leaves ≡ false) (zero one : Bor P) (near far : Waiting (Bor P))
      (h : AreHalves p a zero one near far) (at_zero : is_at zero.now (a.name ++ false ∷ [])) (at_one : is_at one.now (a.name ++ true ∷ [])) (near_is : new.nearest ≡ Some near)
      (put : IsPermutation (far ∷ others) (heap_items new.waiting)) (ordered : IsHeap waiting_cmp (heap_items new.waiting)) (found_is : heap_items new.found ≡ heap_items old.found) where
    abbrev IsAt : Waiting (Bor P) → Type 0
    IsAt v = is_at v.place.now v.ahead.name

    abbrev Low : Waiting (Bor P) → Type 0
    Low v = near.ahead.least.0 ≤ v.ahead.least.0

    room : length a.name < 64
    room = inner-room a.name leaves tile inner

    both : IsPermutation (h.fore ∷ h.hind ∷ left) (near.ahead ∷ far.ahead ∷ left)
    both =
        elim h.order.either [
          | inl e ↦ subst (λ (v : Waiting (Bor P)). IsPermutation (h.fore ∷ h.hind ∷ left) (v.ahead ∷ far.ahead ∷ left)) (sym e.0)
              (subst (λ (v : Waiting (Bor P)). IsPermutation (h.fore ∷ h.hind ∷ left) (h.fore ∷ v.ahead ∷ left)) (sym e.1) (IsPermutation-refl (h.fore ∷ h.hind ∷ left)))
          | inr e ↦ subst (λ (v : Waiting (Bor P)). IsPermutation (h.fore ∷ h.hind ∷ left) (v.ahead ∷ far.ahead ∷ left)) (sym e.0)
              (subst (λ (v : Waiting (Bor P)). IsPermutation (h.fore ∷ h.hind ∷ left) (h.hind ∷ v.ahead ∷ left)) (sym e.1) (two-first h.fore h.hind left))
        ]

    all-new : unopened new ≡ near ∷ heap_items new.waiting
    all-new = ap (λ (n : Option (Waiting (Bor P))). with_nearest n (heap_items new.waiting)) near_is

    put-all : IsPermutation (near ∷ far ∷ others) (unopened new)
    put-all = subst (IsPermutation (near ∷ far ∷ others)) (sym all-new) (IsPermutation-cons near (far ∷ others) (heap_items new.waiting) put)

    put-ahead : IsPermutation (near.ahead ∷ far.ahead ∷ left) (subtrees new)
    put-ahead = IsPermutation-map (λ (v : Waiting (Bor P)). v.ahead) (near ∷ far ∷ others) (unopened new) put-all

    ahead-halves : IsPermutation (h.fore ∷ h.hind ∷ left) (subtrees new)
    ahead-halves = IsPermutation-trans (h.fore ∷ h.hind ∷ left) (near.ahead ∷ far.ahead ∷ left) (subtrees new) both put-ahead

    in-halves : leaves_ahead leaves (a ∷ left) ≡ leaves_ahead leaves (h.fore ∷ h.hind ∷ left)
    in-halves =
        let two : subtree a.name leaves ≡ subtree h.fore.name leaves ++ subtree h.hind.name leaves =
        subtree-halves a.name (omega (arith, room)) 0 leaves tile none ∙ (λ i. subtree (sym h.fore_name i) leaves ++ subtree (sym h.hind_name i) leaves) in
        ap (λ (ls : List Leaf). ls ++ leaves_ahead leaves left) two ∙ append_assoc (subtree h.fore.name leaves) (subtree h.hind.name leaves) (leaves_ahead leaves left)

    leaves-perm : IsPermutation (leaves_left leaves old) (leaves_left leaves new)
    leaves-perm =
        subst (λ ls. IsPermutation ls (leaves_left leaves new)) (sym (ap (leaves_ahead leaves) ahead-all ∙ in-halves)) (leaves-shuffled leaves (h.fore ∷ h.hind ∷ left) (subtrees new) ahead-halves)

    come-perm : IsPermutation (founds_ahead p leaves (subtrees old)) (founds_ahead p leaves (subtrees new))
    come-perm =
        IsPermutation-map (found_of p) (all_rows (leaves_left leaves old)) (all_rows (leaves_left leaves new)) (IsPermutation-flat_map (λ (l : Leaf). l.bucket.rows) (leaves_left leaves old) (leaves_left leaves new) leaves-perm)

    halves-at : IsAt near × IsAt far
    halves-at =
        elim h.order.either [
          | inl e ↦ (subst IsAt (sym e.0) fore, subst IsAt (sym e.1) hind)
          | inr e ↦ (subst IsAt (sym e.0) hind, subst IsAt (sym e.1) fore)
        ]
      where
        fore : IsAt (waiting_at h.fore zero)
        fore = subst (is_at zero.now) (sym h.fore_name) at_zero

        hind : IsAt (waiting_at h.hind one)
        hind = subst (is_at one.now) (sym h.hind_name) at_one

    weights : weight_of near.ahead + weight_of far.ahead < weight_of a
    weights =
        let two = weight-two a h.fore h.hind room h.fore_name h.hind_name in
        elim h.order.either [
          | inl e ↦ omega (arith, two, ap (λ (v : Waiting (Bor P)). weight_of v.ahead) e.0, ap (λ (v : Waiting (Bor P)). weight_of v.ahead) e.1)
          | inr e ↦ omega (arith, two, ap (λ (v : Waiting (Bor P)). weight_of v.ahead) e.0, ap (λ (v : Waiting (Bor P)). weight_of v.ahead) e.1)
        ]

    pub halved : GoesOn leaves is_at before before old new
    halved = record {
      from = from;
      is = record {
        found_order = subst (IsHeap last_cmp) (sym found_is) f.found_order;
        waiting_order = ordered;
        measured = subst (λ q. All (IsMeasured q) (founds (heap_items new.found))) (sym from) (subst (λ items. All (IsMeasured p) (founds items)) (sym found_is) f.measured);
        are = subst (λ q. All (IsAhead q) (subtrees new)) (sym from)
            (All-permutation (IsAhead p) (h.fore ∷ h.hind ∷ left) (subtrees new) ahead-halves (All-cons (IsAhead p) h.fore (h.hind ∷ left) h.fore_is (All-cons (IsAhead p) h.hind left h.hind_is (All-tail (IsAhead p) a left are))));
        at = All-permutation IsAt (near ∷ far ∷ others) (unopened new) put-all (All-cons IsAt near (far ∷ others) halves-at.0 (All-cons IsAt far others halves-at.1 (All-tail IsAt w others at)));
        farther = subst (λ (n : Option (Waiting (Bor P))). AreFarther n (heap_items new.waiting)) (sym near_is)
            (All-permutation Low (far ∷ others) (heap_items new.waiting) put (All-cons Low far others h.order.low (λ i d lt. omega (arith, h.as_near, low i d lt))));
      };
      same = subst (IsPermutation (to_come leaves old)) (sym (come-new ∙ ap (λ items. founds items ++ founds_ahead p leaves (subtrees new)) found_is))
          (IsPermutation-append_right (founds (heap_items old.found)) (founds_ahead p leaves (subtrees old)) (founds_ahead p leaves (subtrees new)) come-perm);
      opened = λ passes passing. omega (arith, number-shuffled passes (leaves_left leaves old) (leaves_left leaves new) leaves-perm);
    }

    pub less-halved : work new < work old
    less-halved =
        omega (
          arith,
          work-old,
          weights,
          sum_by-IsPermutation weight_of (near.ahead ∷ far.ahead ∷ left) (subtrees new) put-ahead,
          sum_by-cons weight_of near.ahead (far.ahead ∷ left),
          sum_by-cons weight_of far.ahead left,
        )

-- an object that doesn't come before another one is no nearer
no-nearer : (d e i j k l : ℕ) → is_lt (ordering_then (nat_cmp d e) (ordering_then (nat_cmp i j) (nat_cmp k l))) ≡ false → e ≤ d
no-nearer d e i j k l h = grind (arith, nat_tests, common_steps)

later : (d e i j k l : ℕ) → e < d → is_lt (ordering_then (nat_cmp d e) (ordering_then (nat_cmp i j) (nat_cmp k l))) ≡ false
later d e i j k l h = grind (arith, nat_tests, common_steps)

far-bound : (items : List (Reverse Found)) (first : Reverse Found) (reach : ℕ) → IsUpperBound last_cmp first items → reach ≤ first.0.distance → All (λ (c : Found). reach ≤ c.distance) (founds items)
far-bound [] first reach bound le = All-nil (λ (c : Found). reach ≤ c.distance)
far-bound (c ∷ items) first reach bound le =
    All-cons (λ (c : Found). reach ≤ c.distance) c.0 (founds items) (omega (arith, le, no-nearer c.0.distance first.0.distance c.0.id first.0.id c.0.key first.0.key bound.0)) (far-bound items first reach bound.1 le)

pub head-is : (items : List (Reverse Found)) (x d : Reverse Found) → 0 < length items → x ≡ get_or items 0 x → get_or items 0 d ≡ x
head-is [] x d some is = absurd (omega (arith, some))
head-is (y ∷ items) x d some is = sym is

pub none-far : (items : List (Reverse Found)) (reach : ℕ) → (0 < length items → ⊥) → All (λ (c : Found). reach ≤ c.distance) (founds items)
none-far [] reach none = All-nil (λ (c : Found). reach ≤ c.distance)
none-far (c ∷ items) reach none = absurd (none (omega arith))

module _ {P : Type 0} where
  -- whether the first of the found objects is nearer than the nearest subtree
  pub first-test : (front : Front P) (w : Waiting (Bor P)) → front.nearest ≡ Some w → (first : Reverse Found) → first ≡ get_or (heap_items front.found) 0 first → 0 < length (heap_items front.found)
      → IsUpperBound last_cmp first (heap_items front.found) → (b : Bool) → nat_lt first.0.distance w.ahead.least.0 ≡ b → HasFirst front b
  first-test front w is first at some bound true e =
      let lt : first.0.distance < w.ahead.least.0 = grind (arith, nat_tests) in
      subst (λ (n : Option (Waiting (Bor P))). IfSome n (λ v. (0 < length (heap_items front.found)) × ((d : Reverse Found) → (get_or (heap_items front.found) 0 d).0.distance < v.ahead.least.0))) (sym is)
      (some, λ d. subst (λ (c : Reverse Found). c.0.distance < w.ahead.least.0) (sym (head-is (heap_items front.found) first d some at)) lt)
  first-test front w is first at some bound false e =
      let le : w.ahead.least.0 ≤ first.0.distance = grind (arith, nat_tests) in (w, is, far-bound (heap_items front.found) first w.ahead.least.0 bound le)

  -- where it is, the first of the found objects is the first of all
  module _ (leaves : List Leaf) (under : AllByRecursion (λ (l : Leaf). AreUnder l.name l.bucket.rows) leaves) (is_at : P → List Bool → Type 0) (front : Front P) (f : IsFront is_at front) where
    abbrev ahead : List Found
    ahead = founds_ahead front.from leaves (subtrees front)

    far-from : (w : Waiting (Bor P)) → front.nearest ≡ Some w → All (λ (c : Found). w.ahead.least.0 ≤ c.distance) ahead
    far-from w is =
        let all : subtrees front ≡ w.ahead ∷ ahead_of (heap_items front.waiting) = ap (λ (n : Option (Waiting (Bor P))). ahead_of (with_nearest n (heap_items front.waiting))) is in
        let low : All (λ (v : Waiting (Bor P)). w.ahead.least.0 ≤ v.ahead.least.0) (heap_items front.waiting) = subst (λ (n : Option (Waiting (Bor P))). AreFarther n (heap_items front.waiting)) is f.farther in
        let Low : Ahead → Type 0 = λ b. w.ahead.least.0 ≤ b.least.0 in
        far-ahead front.from leaves under w.ahead.least.0 (subtrees front) f.are
        (subst (All Low) (sym all)
        (All-cons Low w.ahead (ahead_of (heap_items front.waiting)) (omega arith) (All-map Low (λ (v : Waiting (Bor P)). v.ahead) (heap_items front.waiting) low)))

    none-ahead : front.nearest ≡ None → ahead ≡ []
    none-ahead none =
        let no_others : heap_items front.waiting ≡ [] = subst (λ (n : Option (Waiting (Bor P))). AreFarther n (heap_items front.waiting)) none f.farther in
        let all : subtrees front ≡ [] = (λ i. ahead_of (with_nearest (none i) (no_others i))) in
        ap (founds_ahead front.from leaves) all

    later-ahead : (first : Reverse Found) → first ≡ get_or (heap_items front.found) 0 first → HasFirst front true → All (λ (c : Found). comes_before c first.0 ≡ false) ahead
    later-ahead first top has = by_nearest front.nearest refl
      where
        by_nearest : (n : Option (Waiting (Bor P))) → front.nearest ≡ n → All (λ (c : Found). comes_before c first.0 ≡ false) ahead
        by_nearest None is = subst (All (λ (c : Found). comes_before c first.0 ≡ false)) (sym (none-ahead is)) (All-nil (λ (c : Found). comes_before c first.0 ≡ false))
        by_nearest (Some w) is =
            let nearer = subst (λ (n : Option (Waiting (Bor P))). IfSome n (λ v. (0 < length (heap_items front.found)) × ((d : Reverse Found) → (get_or (heap_items front.found) 0 d).0.distance < v.ahead.least.0))) is has in
            let lt : first.0.distance < w.ahead.least.0 = subst (λ (c : Reverse Found). c.0.distance < w.ahead.least.0) (sym top) (nearer.1 first) in
            λ i d less.
            let c : Found = get_or ahead i d in
            later c.distance first.0.distance c.id first.0.id c.key first.0.key (omega (arith, lt, far-from w is i d less))

    -- it was taken
    module _ (m : Placed) (new : Front P) (from : new.from ≡ front.from) (nearest : new.nearest ≡ front.nearest) (waiting : heap_items new.waiting ≡ heap_items front.waiting) (taken : IsFirst m (heap_items front.found) (heap_items new.found))
        (has : HasFirst front true) where
      abbrev first : Found
      first = taken.first.0

      taken-founds : IsPermutation (founds (heap_items front.found)) (first ∷ founds (heap_items new.found))
      taken-founds = IsPermutation-map (λ (c : Reverse Found). c.0) (heap_items front.found) (taken.first ∷ heap_items new.found) taken.taken

      same-ahead : unopened new ≡ unopened front
      same-ahead = λ i. with_nearest (nearest i) (waiting i)

      come-left : to_come leaves new ≡ founds (heap_items new.found) ++ ahead
      come-left = λ i. founds (heap_items new.found) ++ founds_ahead (from i) leaves (ahead_of (same-ahead i))

      low-all : All (λ (c : Found). comes_before c first ≡ false) (founds (heap_items new.found) ++ ahead)
      low-all =
          All-append (λ (c : Found). comes_before c first ≡ false) (founds (heap_items new.found)) ahead (All-map (λ (c : Found). comes_before c first ≡ false) (λ (c : Reverse Found). c.0) (heap_items new.found) taken.low)
          (later-ahead taken.first taken.top has)

      pub taken-object : (coming leaves front).objects ≡ m ∷ (coming leaves new).objects
      taken-object =
          let perm : IsPermutation (to_come leaves front) (first ∷ (founds (heap_items new.found) ++ ahead)) =
          IsPermutation-append_left ahead (founds (heap_items front.found)) (first ∷ founds (heap_items new.found)) taken-founds in
          let sorted : in_order (to_come leaves front) ≡ first ∷ in_order (to_come leaves new) =
          in_order-once (to_come leaves front) (first ∷ (founds (heap_items new.found) ++ ahead)) perm ∙ in_order-first first (founds (heap_items new.found) ++ ahead) low-all ∙ ap (λ cs. first ∷ in_order cs) (sym come-left) in
          ap (map object_of) sorted ∙ ap (λ (n : Placed). n ∷ (coming leaves new).objects) (sym taken.object)

      pub taken-front : IsFront is_at new
      taken-front = record {
        found_order = taken.ordered;
        waiting_order = subst (IsHeap waiting_cmp) (sym waiting) f.waiting_order;
        measured = subst (λ q. All (IsMeasured q) (founds (heap_items new.found))) (sym from)
            (All-tail (IsMeasured front.from) first (founds (heap_items new.found)) (All-permutation (IsMeasured front.from) (founds (heap_items front.found)) (first ∷ founds (heap_items new.found)) taken-founds f.measured));
        are = subst (λ q. All (IsAhead q) (subtrees new)) (sym from) (subst (λ ws. All (IsAhead front.from) (ahead_of ws)) (sym same-ahead) f.are);
        at = subst (AreAt is_at) (sym same-ahead) f.at;
        farther = subst (λ ws. AreFarther new.nearest ws) (sym waiting) (subst (λ (n : Option (Waiting (Bor P))). AreFarther n (heap_items front.waiting)) (sym nearest) f.farther);
      }

      pub taken-leaves : leaves_left leaves new ≡ leaves_left leaves front
      taken-leaves = ap (λ ws. leaves_ahead leaves (ahead_of ws)) same-ahead

    -- there is none
    pub none-left : HasFirst front true → heap_items front.found ≡ [] → to_come leaves front ≡ []
    none-left has none = by_nearest front.nearest refl
      where
        by_nearest : (n : Option (Waiting (Bor P))) → front.nearest ≡ n → to_come leaves front ≡ []
        by_nearest None is = λ i. founds (none i) ++ none-ahead is i
        by_nearest (Some w) is =
            let nearer = subst (λ (n : Option (Waiting (Bor P))). IfSome n (λ v. (0 < length (heap_items front.found)) × ((d : Reverse Found) → (get_or (heap_items front.found) 0 d).0.distance < v.ahead.least.0))) is has in
            absurd (omega (arith, nearer.0, ap length none))

    -- what is left, where the first was taken or there was none
    module _ (new : Front P) (from : new.from ≡ front.from) (nearest : new.nearest ≡ front.nearest) (waiting : heap_items new.waiting ≡ heap_items front.waiting) where
      same-left : heap_items new.found ≡ heap_items front.found → to_come leaves new ≡ to_come leaves front
      same-left found = λ i. founds (found i) ++ founds_ahead (from i) leaves (ahead_of (with_nearest (nearest i) (waiting i)))

      pub end-front : HasFirst front true → (r : Option Placed) → IsTaken r (heap_items front.found) (heap_items new.found) → IsFront is_at new
      end-front has (Some m) taken = taken-front m new from nearest waiting taken has
      end-front has None (old_none, new_none) =
          let found : heap_items new.found ≡ heap_items front.found = new_none ∙ sym old_none in
          let ws : unopened new ≡ unopened front = λ i. with_nearest (nearest i) (waiting i) in
          record {
            found_order = subst (IsHeap last_cmp) (sym found) f.found_order;
            waiting_order = subst (IsHeap waiting_cmp) (sym waiting) f.waiting_order;
            measured = subst (λ q. All (IsMeasured q) (founds (heap_items new.found))) (sym from) (subst (λ items. All (IsMeasured front.from) (founds items)) (sym found) f.measured);
            are = subst (λ q. All (IsAhead q) (subtrees new)) (sym from) (subst (λ ws. All (IsAhead front.from) (ahead_of ws)) (sym ws) f.are);
            at = subst (AreAt is_at) (sym ws) f.at;
            farther = subst (λ ws. AreFarther new.nearest ws) (sym waiting) (subst (λ (n : Option (Waiting (Bor P))). AreFarther n (heap_items front.waiting)) (sym nearest) f.farther);
          }

      pub end-next : (E : Type 0) → HasFirst front true → (r : Option Placed) → IsTaken r (heap_items front.found) (heap_items new.found) → IsNext {E = E} (Ok r) (coming leaves front).objects (coming leaves new).objects
      end-next E has (Some m) taken = taken-object m new from nearest waiting taken has
      end-next E has None (old_none, new_none) =
          let none : to_come leaves front ≡ [] = none-left has old_none in
          let gone : (coming leaves front).objects ≡ [] = ap (λ cs. map object_of (in_order cs)) none in
          (gone, ap (λ cs. map object_of (in_order cs)) (same-left (new_none ∙ sym old_none)) ∙ gone)

    measured-come : All (IsMeasured front.from) (to_come leaves front)
    measured-come = All-append (IsMeasured front.from) (founds (heap_items front.found)) ahead f.measured (measured-rows front.from (all_rows (leaves_left leaves front)))

    -- no object that is to come is nearer than the nearest subtree, where no found one is
    far-come : (w : Waiting (Bor P)) → front.nearest ≡ Some w → All (λ (c : Found). w.ahead.least.0 ≤ c.distance) (founds (heap_items front.found)) → All (λ (c : Found). w.ahead.least.0 ≤ c.distance) (to_come leaves front)
    far-come w is far = All-append (λ (c : Found). w.ahead.least.0 ≤ c.distance) (founds (heap_items front.found)) ahead far (far-from w is)

    first-reach : (cs : List Found) (least reach : ℕ) → 0 < length cs → All (λ (c : Found). least ≤ c.distance) cs → All (IsMeasured front.from) cs → FirstWithin front.from reach (map object_of cs) → least ≤ reach
    first-reach [] least reach some far at within = absurd (omega (arith, some))
    first-reach (c ∷ cs) least reach some far at within = omega (arith, All-head (λ (c : Found). least ≤ c.distance) c cs far, All-head (IsMeasured front.from) c cs at, within)

    -- so it is as near as the first object
    pub nearest-within : HasFirst front false → (reach : ℕ) → FirstWithin front.from reach (coming leaves front).objects → 0 < length (to_come leaves front) → IfSome front.nearest (λ w. within front.from reach w.ahead.name ≡ true)
    nearest-within (w, is, far) reach first some =
        let cs : List Found = in_order (to_come leaves front) in
        let perm : IsPermutation (to_come leaves front) cs = in_order-permutation (to_come leaves front) in
        let least : w.ahead.least.0 ≤ reach =
        first-reach cs w.ahead.least.0 reach (omega (arith, some, length_permutation (to_come leaves front) cs perm)) (All-permutation (λ (c : Found). w.ahead.least.0 ≤ c.distance) (to_come leaves front) cs perm (far-come w is far))
        (All-permutation (IsMeasured front.from) (to_come leaves front) cs perm measured-come) first in
        let all : subtrees front ≡ w.ahead ∷ ahead_of (heap_items front.waiting) = ap (λ (n : Option (Waiting (Bor P))). ahead_of (with_nearest n (heap_items front.waiting))) is in
        let ahead_is : IsAhead front.from w.ahead = All-head (IsAhead front.from) w.ahead (ahead_of (heap_items front.waiting)) (subst (All (IsAhead front.from)) all f.are) in
        subst (λ (n : Option (Waiting (Bor P))). IfSome n (λ v. within front.from reach v.ahead.name ≡ true)) (sym is) (le-leb (least_to front.from w.ahead.name) reach (omega (arith, least, ahead_is.least_is)))

pub next-err : {E : Type 0} (r : Result (Option Placed) E) (old new : List Placed) → IsErr r → new ≡ old → IsNext r old new
next-err (Ok m) old new err kept = absurd (true≢false (sym err))
next-err (Err e) old new err kept = kept

-- how far a browse has gone on
pub record Gone {P : Type 0} (leaves : List Leaf) (is_at : P → List Bool → Type 0) (before now : ℕ) (old new : Front P) : Type 0 where
  pub from : new.from ≡ old.from
  pub is : IsFront is_at new
  pub same : IsPermutation (to_come leaves old) (to_come leaves new)
  pub opened : OpensOnce (leaves_left leaves old) (leaves_left leaves new) before now
  pub near : OpensNearFirst (coming leaves old) (coming leaves new) before now

all-leaves : (ls : List Leaf) → leaves_of (λ name. true) ls ≡ ls
all-leaves [] = refl
all-leaves (l ∷ ls) = ap (λ (rest : List Leaf). l ∷ rest) (all-leaves ls)

module _ {P : Type 0} (leaves : List Leaf) (is_at : P → List Bool → Type 0) where
  pub nowhere : (now : ℕ) (front : Front P) → IsFront is_at front → Gone leaves is_at now now front front
  nowhere now front f = record {
    from = refl;
    is = f;
    same = IsPermutation-refl (to_come leaves front);
    opened = omega arith;
    near = λ reach first. omega arith;
  }

  pub same-objects : (before now : ℕ) (old new : Front P) → Gone leaves is_at before now old new → (coming leaves old).objects ≡ (coming leaves new).objects
  same-objects before now old new gone = ap (map object_of) (in_order-once (to_come leaves old) (to_come leaves new) gone.same)

  module _ (under : AllByRecursion (λ (l : Leaf). AreUnder l.name l.bucket.rows) leaves) (before mid now : ℕ) (old cur new : Front P) (gone : Gone leaves is_at before mid old cur) (has : HasFirst cur false) (on : GoesOn leaves is_at mid now cur new) where
    some-nearest : (passes : List Bool → Bool) → ((name : List Bool) → passes name ≡ true) → IfSome cur.nearest (λ w. passes w.ahead.name ≡ true)
    some-nearest passes any = subst (λ (n : Option (Waiting (Bor P))). IfSome n (λ w. passes w.ahead.name ≡ true)) (sym has.1) (any has.0.ahead.name)

    pub goes-farther : Gone leaves is_at before now old new
    goes-farther = record {
      from = on.from ∙ gone.from;
      is = on.is;
      same = IsPermutation-trans (to_come leaves old) (to_come leaves cur) (to_come leaves new) gone.same on.same;
      opened = omega (
        arith,
        gone.opened,
        on.opened (λ name. true) (λ some. some-nearest (λ name. true) (λ name. refl)),
        ap length (all-leaves (leaves_left leaves cur)),
        ap length (all-leaves (leaves_left leaves new)),
      );
      near = λ reach first.
          let here : FirstWithin cur.from reach (coming leaves cur).objects =
          subst (λ ms. FirstWithin cur.from reach ms) (same-objects before mid old cur gone) (subst (λ q. FirstWithin q reach (coming leaves old).objects) (sym gone.from) first) in
          let passing : 0 < length (to_come leaves cur) → IfSome cur.nearest (λ w. within old.from reach w.ahead.name ≡ true) =
          subst (λ q. 0 < length (to_come leaves cur) → IfSome cur.nearest (λ w. within q reach w.ahead.name ≡ true)) gone.from (nearest-within leaves under is_at cur gone.is has reach here) in
          omega (arith, gone.near reach first, on.opened (within old.from reach) passing);
    }
