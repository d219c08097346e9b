-- What a candidate more makes of what is kept.
use Rattle.std.proofs.Common.{◌≡◌, ◌==◌, ◌&&◌, ◌||◌, ℕ, ◌*◌, ◌^◌, ◌<◌, ◌≤◌, Bool, true, false, List, [], ◌∷◌, length, map, get_or, refl, sym, ap, subst, ◌∙◌, arith, lit<}
use Rattle.std.specs.Prelude.{nat_le, nat_lt, Option, Some, None, IfSome}
use Rattle.std.specs.List.{All}
use Rattle.std.specs.Ordering.{is_lt}
use Rattle.std.specs.BinaryHeap.{heap_items, IsHeap, IsUpperBound}
use Rattle.std.proofs.lemmas.Bool.Decides.{nat_tests}
use Rattle.std.proofs.lemmas.List.{length-map}
use Rattle.std.proofs.lemmas.List.Elements.{All-nil, All-cons, All-head, All-tail}
use Rattle.std.proofs.lemmas.List.Sorted.{All-permutation, length_permutation}
use Rattle.zorder.specs.declared.points.Point.{Point}
use Rattle.zorder.specs.declared.points.Placed.{Placed}
use Rattle.zorder.specs.declared.points.Region.{Region}
use Rattle.zorder.specs.Distance.{distance, gap}
use Rattle.zorder.specs.Key.{point_of, IsPoint}
use Rattle.zorder.specs.Region.{has_point}
use Rattle.prefix_names.specs.Regions.{box_of}
use Rattle.prefix_names.specs.declared.key_boxes.KeyBox.{KeyBox}
use Rattle.knn_query.specs.Passes.{IsPass}
use Rattle.plain_list.proofs.Ranking.{is_before-cmp}
use Rattle.knn_query.specs.Ahead.{number_nearer}
use Rattle.knn_query.specs.Candidates.{object_of, candidate_cmp, IsBehind, IsInPlace, IsMeasured}
use Rattle.knn_query.specs.Passes.{held, IsBeyond, IsHeld, IsOut, IsOutOf, LeavesOut, HasReach, Passes}
use Rattle.knn_query.specs.declared.candidate.Candidate.{Candidate}
use Rattle.knn_query.specs.declared.kept.Kept.{Kept}
use Rattle.knn_query.specs.declared.reach.Reach.{Reach}
use Rattle.knn_query.proofs.Cuts.{pass_skips}
use Rattle.knn_query.proofs.Candidates.{Bounds, bounds-map, pass_replaces}
use Rattle.knn_query.proofs.Searching.{all_as_near, first_farther}

-- k candidates are nearer exactly where the farthest is
pub farthest-tells : (p : Point) (k least : ℕ) (c : Candidate) (cs : List Candidate) → All (IsMeasured p) cs → IsUpperBound candidate_cmp c cs → c ≡ get_or cs 0 c → length cs ≤ k → k ≤ length cs → 1 ≤ k
    → nat_lt c.distance least ≡ nat_le k (number_nearer p least (map object_of cs))
farthest-tells p k least c [] at bound is few many some = absurd (omega (arith, many, some))
farthest-tells p k least c (t ∷ cs) at bound is few many some = by_test (nat_lt c.distance least) refl
  where
    at_t : IsMeasured p t
    at_t = All-head (IsMeasured p) t cs at

    at_c : IsMeasured p c
    at_c = subst (IsMeasured p) (sym is) at_t

    number : ℕ
    number = number_nearer p least (map object_of (t ∷ cs))

    long : length (map object_of (t ∷ cs)) ≡ length (t ∷ cs)
    long = length-map (t ∷ cs) object_of

    all : k ≤ number → true ≡ nat_le k number
    all le = grind (arith, nat_tests)

    few_of : number < k → false ≡ nat_le k number
    few_of lt = grind (arith, nat_tests)

    by_test : (b : Bool) → nat_lt c.distance least ≡ b → nat_lt c.distance least ≡ nat_le k number
    by_test true e =
        let less : c.distance < least = grind (arith, nat_tests) in
        let near : distance c.at p < least = omega (arith, less, at_c) in
        let same : number ≡ length (map object_of (t ∷ cs)) = all_as_near p least (object_of c) (map object_of (t ∷ cs)) (bounds-map p c (t ∷ cs) at_c at bound) near in
        e ∙ all (omega (arith, same, long, many))
    by_test false e =
        let from : least ≤ c.distance = grind (arith, nat_tests) in
        let far : least ≤ distance t.at p = omega (arith, from, at_t, ap (λ (d : Candidate). d.distance) is) in
        let less : number < length (map object_of (t ∷ cs)) = first_farther p least (object_of t) (map object_of cs) far in
        e ∙ few_of (omega (arith, less, long, few))

-- of two candidates in order the first is as near as the second, or nearer
first_near : (a b : Candidate) → is_lt (candidate_cmp a b) ≡ true → a.distance ≤ b.distance
first_near a b e = in_order a.distance a.id b.distance b.id (sym (is_before-cmp a.distance a.id b.distance b.id) ∙ e)
  where
    in_order : (d i e j : ℕ) → (nat_lt d e || ((d == e) && nat_lt i j)) ≡ true → d ≤ e
    in_order d i e j h = grind (arith, nat_tests)

bound_near : (a b : Candidate) → is_lt (candidate_cmp a b) ≡ false → b.distance ≤ a.distance
bound_near a b e = in_order a.distance a.id b.distance b.id (sym (is_before-cmp a.distance a.id b.distance b.id) ∙ e)
  where
    in_order : (d i e j : ℕ) → (nat_lt d e || ((d == e) && nat_lt i j)) ≡ false → e ≤ d
    in_order d i e j h = grind (arith, nat_tests)

far_behind : (a b : Candidate) → b.distance < a.distance → is_lt (candidate_cmp a b) ≡ false
far_behind a b far = is_before-cmp a.distance a.id b.distance b.id ∙ in_order a.distance a.id b.distance b.id far
  where
    in_order : (d i e j : ℕ) → e < d → (nat_lt d e || ((d == e) && nat_lt i j)) ≡ false
    in_order d i e j h = grind (arith, nat_tests)

-- candidates that are nearer than a distance
abbrev pub AreNearer : ℕ → List Candidate → Type 0
AreNearer reach cs = All (λ (c : Candidate). c.distance < reach) cs

-- a bound that is nearer has all the others nearer
pub bound-nearer : (reach : ℕ) (a : Candidate) (cs : List Candidate) → IsUpperBound candidate_cmp a cs → a.distance < reach → AreNearer reach cs
bound-nearer reach a [] bound near = All-nil (λ (c : Candidate). c.distance < reach)
bound-nearer reach a (c ∷ cs) bound near =
    All-cons (λ (c : Candidate). c.distance < reach) c cs (omega (arith, bound_near a c bound.0, near)) (bound-nearer reach a cs bound.1 near)

nearer-bound : (one : Candidate) (cs : List Candidate) → AreNearer one.distance cs → IsUpperBound candidate_cmp one cs
nearer-bound one [] near = tt
nearer-bound one (c ∷ cs) near =
    (far_behind one c (All-head (λ (c : Candidate). c.distance < one.distance) c cs near), nearer-bound one cs (All-tail (λ (c : Candidate). c.distance < one.distance) c cs near))

-- one that takes another's place is as near
nearer-replaced : (reach : ℕ) (one : Candidate) (old new : List Candidate) → IsInPlace one old new → AreNearer reach old → AreNearer reach new
nearer-replaced reach one old new r near =
    let P : Candidate → Type 0 = λ c. c.distance < reach in
    let both : All P (r.gone ∷ r.left) = All-permutation P old (r.gone ∷ r.left) r.was near in
    let gone : r.gone.distance < reach = All-head P r.gone r.left both in
    All-permutation P (one ∷ r.left) new r.is (All-cons P one r.left (omega (arith, first_near one r.gone r.before, gone)) (All-tail P r.gone r.left both))

-- one that comes before none of k is passed over
pub beyond-passes : (m : Placed) (kept : Kept) → IsHeld kept → IsBeyond kept m → Passes (m ∷ []) kept kept
beyond-passes m kept h beyond =
    record {
      from = refl;
      k_is = refl;
      is_held = h;
      out = λ n out. out;
      keeps = λ places rest are pass. pass_skips kept.from kept.k places m rest (held kept) pass (omega (arith, beyond.full, length-map (heap_items kept.heap) object_of)) beyond.behind;
    }

pub out-beyond : (m : Placed) (kept : Kept) → IsHeld kept → IsOut kept m → IsBeyond kept m
out-beyond m kept h out =
    let one : Candidate = record { distance = distance m.at kept.from; id = m.id; at = m.at } in
    record { full = out.full; behind = bounds-map kept.from one (heap_items kept.heap) refl h.measured (nearer-bound one (heap_items kept.heap) out.near) }

module _ (m : Placed) (one : Candidate) (old new : Kept) (is_m : object_of one ≡ m) (at_one : IsMeasured old.from one) (h : IsHeld old) (many : old.k ≤ length (heap_items old.heap)) (from_is : new.from ≡ old.from) (k_is : new.k ≡ old.k) where
  -- one that comes before none of k, which stay
  module _ (r : IsBehind one (heap_items old.heap) (heap_items new.heap)) where
    behind-held : IsHeld new
    behind-held = record {
      ordered = subst (IsHeap candidate_cmp) (sym r.same) h.ordered;
      measured = subst (λ q. All (IsMeasured q) (heap_items new.heap)) (sym from_is) (subst (All (IsMeasured old.from)) (sym r.same) h.measured);
      few = omega (arith, h.few, ap length r.same, k_is);
    }

    pub behind-beyond : IsBeyond new m
    behind-beyond = record {
      full = omega (arith, many, ap length r.same, k_is);
      behind = subst (λ q. Bounds q m (held new)) (sym from_is)
          (subst (λ ds. Bounds old.from m (map object_of ds)) (sym r.same) (subst (λ (n : Placed). Bounds old.from n (held old)) is_m (bounds-map old.from one (heap_items old.heap) at_one h.measured r.bound)));
    }

    pub behind-passes : Passes (m ∷ []) old new
    behind-passes =
        let passes = beyond-passes m new behind-held behind-beyond in
        record {
          from = from_is;
          k_is = k_is;
          is_held = behind-held;
          out = λ n out. record {
            full = omega (arith, out.full, ap length r.same, k_is);
            near = subst (λ q. All (λ (c : Candidate). c.distance < distance n.at q) (heap_items new.heap)) (sym from_is) (subst (AreNearer (distance n.at old.from)) (sym r.same) out.near);
          };
          keeps = λ places rest are pass.
              subst (λ q. IsPass q old.k places rest (held new)) from_is (subst (λ j. IsPass new.from j places rest (held new)) k_is
              (passes.keeps places rest are
              (subst (λ q. IsPass q new.k places (m ∷ rest) (held new)) (sym from_is) (subst (λ j. IsPass old.from j places (m ∷ rest) (held new)) (sym k_is) (subst (λ ds. IsPass old.from old.k places (m ∷ rest) (map object_of ds)) (sym r.same) pass)))));
        }

  -- one that takes the place of the farthest
  pub replaced-passes : IsInPlace one (heap_items old.heap) (heap_items new.heap) → Passes (m ∷ []) old new
  replaced-passes r =
      let p = old.from in
      let cs : List Candidate = heap_items old.heap in
      let ds : List Candidate = heap_items new.heap in
      let left : All (IsMeasured p) r.left = All-tail (IsMeasured p) r.gone r.left (All-permutation (IsMeasured p) cs (r.gone ∷ r.left) r.was h.measured) in
      record {
        from = from_is;
        k_is = k_is;
        is_held = record {
          ordered = r.ordered;
          measured = subst (λ q. All (IsMeasured q) ds) (sym from_is) (All-permutation (IsMeasured p) (one ∷ r.left) ds r.is (All-cons (IsMeasured p) one r.left at_one left));
          few = omega (arith, h.few, length_permutation cs (r.gone ∷ r.left) r.was, length_permutation (one ∷ r.left) ds r.is, k_is);
        };
        out = λ n out. record {
          full = omega (arith, out.full, length_permutation cs (r.gone ∷ r.left) r.was, length_permutation (one ∷ r.left) ds r.is, k_is);
          near = subst (λ q. All (λ (c : Candidate). c.distance < distance n.at q) ds) (sym from_is) (nearer-replaced (distance n.at p) one cs ds r out.near);
        };
        keeps = λ places rest are pass. pass_replaces p old.k places rest m (are 0 m (lit< tt)) one cs ds is_m at_one h.measured many r pass;
      }

-- the reach of what is kept has what passes keep in it
pub outside-kept : (box : Option KeyBox) (ms : List Placed) (old new : Kept) → Passes ms old new → IfSome box (IsOutOf old) → IfSome box (IsOutOf new)
outside-kept None ms old new passes outside = tt
outside-kept (Some corners) ms old new passes outside = λ m at out. passes.out m (outside m at out)

pub reach-kept : (reach : Reach) (ms : List Placed) (old new : Kept) → Passes ms old new → HasReach reach old → HasReach reach new
reach-kept reach ms old new passes has = record {
  outside = outside-kept reach.corners ms old new passes has.outside;
  farther = λ m at far. passes.out m (has.farther m at (subst (λ q. reach.farthest < distance m.at q) passes.from far));
}

-- where a box is that region
pub boxed : (kept : Kept) (box : Option KeyBox) (region : Region) → IfSome box (λ corners. box_of corners ≡ region) → ((m : Placed) → IsPoint m.at → has_point region m.at ≡ false → IsOut kept m) → IfSome box (IsOutOf kept)
boxed kept None region is outside = tt
boxed kept (Some corners) region is outside = λ m at out. outside m at (ap (λ r. has_point r m.at) (sym is) ∙ out)

-- an object that a box leaves out
pub left-out : (reach : Reach) (key : ℕ) (m : Placed) (kept : Kept) → HasReach reach kept → LeavesOut reach key → IsPoint m.at → m.at ≡ point_of key → IsOut kept m
left-out reach key m kept has leaves at is =
    let outside : IsOutOf kept leaves.corners = subst (λ b. IfSome b (IsOutOf kept)) leaves.is has.outside in
    outside m at (ap (has_point (box_of leaves.corners)) is ∙ leaves.out)

-- no distance is as great as a number of 128 bits may be
square-fits : (a : ℕ) → a < 2 ^ 32 → a * a < 2 ^ 64
square-fits a h = omega (arith, square-less a (2 ^ 32) h)
  where
    square-less : (a b : ℕ) → a < b → a * a < b * b
    square-less a b h = grind arith

pub distance-fits : (p q : Point) → IsPoint p → IsPoint q → distance p q < 2 ^ 65
distance-fits p q at_p at_q =
    omega (arith, square-fits (gap p.x q.x) (omega (arith, at_p.x, at_q.x)), square-fits (gap p.y q.y) (omega (arith, at_p.y, at_q.y)))
