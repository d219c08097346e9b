-- A heap of candidates, and the ranking of their objects.
use Rattle.std.proofs.Common.{◌≡◌, ℕ, zero, suc, ◌+◌, ◌<◌, ◌≤◌, true, false, List, [], ◌∷◌, ◌++◌, length, take, map, get_or, Some, refl, sym, ap, subst, ◌∙◌, arith, append_assoc}
use Rattle.std.specs.List.{All, fold}
use Rattle.std.specs.List.Sorted.{IsPermutation, IsSortedBy}
use Rattle.std.specs.Ordering.{is_lt}
use Rattle.std.specs.BinaryHeap.{IsUpperBound}
use Rattle.std.proofs.lemmas.List.{get_or-map, length-map}
use Rattle.std.proofs.lemmas.List.Elements.{All-nil, All-cons, All-head, All-tail}
use Rattle.std.proofs.lemmas.List.Sorted.{All-permutation, IsPermutation-sym, IsPermutation-trans, IsPermutation-map, IsPermutation-to_front, IsPermutation-cons, IsPermutation-middle, IsPermutation-refl, length_permutation}
use Rattle.zorder.specs.declared.points.Point.{Point}
use Rattle.zorder.specs.declared.points.Placed.{Placed}
use Rattle.zorder.specs.Distance.{distance}
use Rattle.plain_list.specs.Places.{place_of}
use Rattle.plain_list.specs.Queries.{is_before, with_ranked, ranked}
use Rattle.plain_list.specs.AtPlaces.{AreOf}
use Rattle.plain_list.proofs.Ranking.{is_before-cmp, is_before-order, chain, ranked_once, IsPermutation-ranked, IsSortedBy-ranked}
use Rattle.knn_query.specs.Passes.{IsPass, with_more}
use Rattle.knn_query.proofs.Cuts.{take-with_more, pass_skips, pass_adds}
use Rattle.knn_query.specs.Candidates.{object_of, candidate_cmp, IsMeasured, IsInPlace}
use Rattle.knn_query.specs.declared.candidate.Candidate.{Candidate}

abbrev IsAt : List Placed → Placed → Type 0
IsAt places m = place_of places m.id ≡ Some m.at

fold-append : {S X : Type 0} (f : S → X → S) (s : S) (xs ys : List X) → fold f s (xs ++ ys) ≡ fold f (fold f s xs) ys
fold-append f s [] ys = refl
fold-append f s (x ∷ xs) ys = fold-append f (f s x) xs ys

pub take-all : {X : Type 0} (k : ℕ) (xs : List X) → length xs ≤ k → take k xs ≡ xs
take-all zero [] few = refl
take-all (suc k) [] few = refl
take-all zero (x ∷ xs) few = absurd (omega (arith, few))
take-all (suc k) (x ∷ xs) few = ap (λ l. x ∷ l) (take-all k xs (omega (arith, few)))

-- two candidates in their order are their ranks in theirs
pub below-cmp : (p : Point) (c d : Candidate) → IsMeasured p c → IsMeasured p d → is_before p (object_of c) (object_of d) ≡ is_lt (candidate_cmp c d)
below-cmp p c d at_c at_d =
    sym (is_before-cmp (distance c.at p) c.id (distance d.at p) d.id)
    ∙ (λ i. is_lt (candidate_cmp (record { distance = sym at_c i; id = c.id; at = c.at }) (record { distance = sym at_d i; id = d.id; at = d.at })))

-- no object of a list comes behind one that bounds it
abbrev pub Bounds : Point → Placed → List Placed → Type 0
Bounds p m ms = All (λ (n : Placed). is_before p m n ≡ false) ms

pub bounds-map : (p : Point) (c : Candidate) (cs : List Candidate) → IsMeasured p c → All (IsMeasured p) cs → IsUpperBound candidate_cmp c cs → Bounds p (object_of c) (map object_of cs)
bounds-map p c [] at_c at bound = All-nil (λ (n : Placed). is_before p (object_of c) n ≡ false)
bounds-map p c (d ∷ cs) at_c at bound =
    All-cons (λ (n : Placed). is_before p (object_of c) n ≡ false) (object_of d) (map object_of cs)
    (below-cmp p c d at_c (All-head (IsMeasured p) d cs at) ∙ bound.0)
    (bounds-map p c cs at_c (All-tail (IsMeasured p) d cs at) bound.1)

-- what comes before none of a list that one bounds, where it doesn't come before that one
candidate_chain : (a b c : Candidate) → is_lt (candidate_cmp a b) ≡ false → is_lt (candidate_cmp b c) ≡ false → is_lt (candidate_cmp a c) ≡ false
candidate_chain a b c ab bc =
    is_before-cmp a.distance a.id c.distance c.id
    ∙ chain a.distance a.id b.distance b.id c.distance c.id
    (sym (is_before-cmp a.distance a.id b.distance b.id) ∙ ab) (sym (is_before-cmp b.distance b.id c.distance c.id) ∙ bc)

pub bound-behind : (one c : Candidate) (cs : List Candidate) → is_lt (candidate_cmp one c) ≡ false → IsUpperBound candidate_cmp c cs → IsUpperBound candidate_cmp one cs
bound-behind one c [] behind bound = tt
bound-behind one c (d ∷ cs) behind bound = (candidate_chain one c d behind bound.0, bound-behind one c cs behind bound.1)

-- candidates in order are their objects in the order of the ranking
pub sorted-map : (p : Point) (cs : List Candidate) → All (IsMeasured p) cs → IsSortedBy (λ c d. is_lt (candidate_cmp c d)) cs → IsSortedBy (is_before p) (map object_of cs)
sorted-map p cs at sorted k d low less =
    let far : k + 1 < length cs = omega (arith, less, length-map cs object_of) in
    let near : k < length cs = omega (arith, far) in
    by_element cs refl near far
  where
    by_element : (ds : List Candidate) → ds ≡ cs → k < length cs → k + 1 < length cs → is_before p (get_or (map object_of cs) (k + 1) d) (get_or (map object_of cs) k d) ≡ false
    by_element [] same near far = absurd (omega (arith, near, ap length same))
    by_element (e ∷ es) same near far =
        (λ i. is_before p (get_or-map object_of cs (k + 1) e d far i) (get_or-map object_of cs k e d near i))
        ∙ below-cmp p (get_or cs (k + 1) e) (get_or cs k e) (at (k + 1) e far) (at k e near)
        ∙ sorted k e low far

module _ (p : Point) where
  ranked-more : (list ms : List Placed) → with_more p (ranked p list) ms ≡ ranked p (list ++ ms)
  ranked-more list ms = sym (fold-append (λ (l : List Placed) m. with_ranked p m l) [] list ms)

  -- what a pass says of the objects that it keeps and of those to come
  pub pass_all : (k : ℕ) (list ms : List Placed) → take k (with_more p (take k (ranked p list)) ms) ≡ take k (ranked p (list ++ ms))
  pass_all k list ms = take-with_more p k ms (ranked p list) ∙ ap (take k) (ranked-more list ms)

  pub ranked-shuffled : (places xs ys : List Placed) → AreOf places xs → IsPermutation xs ys → ranked p ys ≡ ranked p xs
  ranked-shuffled places xs ys are perm = ranked_once p places xs (ranked p ys) are (IsPermutation-trans xs ys (ranked p ys) perm (IsPermutation-ranked p ys)) (IsSortedBy-ranked p ys)

module _ (p : Point) (k : ℕ) (places rest : List Placed) where
  -- in another order
  pub pass_shuffled : (xs ys : List Placed) → IsPermutation xs ys → IsPass p k places rest xs → IsPass p k places rest ys
  pass_shuffled xs ys perm pass = record {
    are_of = All-permutation (IsAt places) xs ys perm pass.are_of;
    nearest = ap (λ l. take k (with_more p (take k l) rest)) (ranked-shuffled p places xs ys pass.are_of perm) ∙ pass.nearest;
  }

  -- one is added
  pub pass_adds_one : (m : Placed) (list new : List Placed) → IsAt places m → IsPermutation (m ∷ list) new → IsPass p k places (m ∷ rest) list → IsPass p k places rest new
  pass_adds_one m list new found perm pass =
      pass_shuffled (list ++ m ∷ []) new (IsPermutation-trans (list ++ m ∷ []) (m ∷ list) new (IsPermutation-to_front list m) perm) (pass_adds p k places m rest list pass found)

  -- one is left out that isn't among the nearest
  pub pass_leaves : (m : Placed) (list new : List Placed) → k ≤ length new → Bounds p m new → IsPermutation list (m ∷ new) → IsPass p k places rest list → IsPass p k places rest new
  pass_leaves m list new long bounds perm pass =
      let ordered : IsPermutation list (new ++ m ∷ []) = IsPermutation-trans list (m ∷ new) (new ++ m ∷ []) perm (IsPermutation-sym (new ++ m ∷ []) (m ∷ new) (IsPermutation-to_front new m)) in
      let moved : IsPass p k places rest (new ++ m ∷ []) = pass_shuffled list (new ++ m ∷ []) ordered pass in
      let were : AreOf places (m ∷ new) = All-permutation (IsAt places) list (m ∷ new) perm pass.are_of in
      pass_skips p k places m rest new (record {
        are_of = All-tail (IsAt places) m new were;
        nearest = pass_later new m ∙ moved.nearest;
      }) long bounds
    where
      pass_later : (new : List Placed) (m : Placed) → take k (with_more p (take k (ranked p new)) (m ∷ rest)) ≡ take k (with_more p (take k (ranked p (new ++ m ∷ []))) rest)
      pass_later new m = pass_all p k new (m ∷ rest) ∙ ap (λ l. take k (ranked p l)) (sym (append_assoc new (m ∷ []) rest)) ∙ sym (pass_all p k (new ++ m ∷ []) rest)

  module _ (m : Placed) (found : IsAt places m) where
    -- the last of k makes room for one that comes before it
    pub pass_replaces : (one : Candidate) (old new : List Candidate) → object_of one ≡ m → IsMeasured p one → All (IsMeasured p) old → k ≤ length old → IsInPlace one old new
        → IsPass p k places (m ∷ rest) (map object_of old) → IsPass p k places rest (map object_of new)
    pass_replaces one old new is_m at_one at_old long r pass =
        let gone = object_of r.gone in
        let left = map object_of r.left in
        let ms = map object_of old in
        let ns = map object_of new in
        let split : IsPermutation ms (gone ∷ left) = IsPermutation-map object_of old (r.gone ∷ r.left) r.was in
        let made : IsPermutation (m ∷ left) ns = subst (λ (n : Placed). IsPermutation (n ∷ left) ns) is_m (IsPermutation-map object_of (one ∷ r.left) new r.is) in
        let at : All (IsMeasured p) (r.gone ∷ r.left) = All-permutation (IsMeasured p) old (r.gone ∷ r.left) r.was at_old in
        let at_gone = All-head (IsMeasured p) r.gone r.left at in
        let first : is_before p (object_of one) gone ≡ true = below-cmp p one r.gone at_one at_gone ∙ r.before in
        let P : Placed → Type 0 = λ n. is_before p gone n ≡ false in
        let bounds : Bounds p gone (m ∷ left) =
        All-cons P m left (subst P is_m ((is_before-order p).one_way (object_of one) gone first)) (bounds-map p r.gone r.left at_gone (All-tail (IsMeasured p) r.gone r.left at) r.bound) in
        let all : IsPermutation (m ∷ ms) (gone ∷ (m ∷ left)) =
        IsPermutation-trans (m ∷ ms) (m ∷ (gone ∷ left)) (gone ∷ (m ∷ left)) (IsPermutation-cons m ms (gone ∷ left) split) (swapped m gone left) in
        let more : IsPass p k places rest (m ∷ ms) = pass_adds_one m ms (m ∷ ms) found (IsPermutation-refl (m ∷ ms)) pass in
        let enough : k ≤ length (m ∷ left) = omega (arith, long, length_permutation old (r.gone ∷ r.left) r.was, length-map r.left object_of) in
        pass_shuffled (m ∷ left) ns made (pass_leaves gone (m ∷ ms) (m ∷ left) enough bounds all more)
      where
        swapped : (a b : Placed) (xs : List Placed) → IsPermutation (a ∷ (b ∷ xs)) (b ∷ (a ∷ xs))
        swapped a b xs = IsPermutation-middle (a ∷ []) b xs
