use Rattle.std.proofs.Common.{◌≡◌, ◌<◌, ◌∙◌, ◌∷◌, true, false, List, [], length, get_or, refl, sym, ap, arith, rules}
use Rattle.std.specs.BinaryHeap.{heap_items, IsUpperBound}
use Rattle.std.specs.Ordering.{is_lt}
use Rattle.std.specs.List.Sorted.{IsPermutation}
use Rattle.std.proofs.lemmas.List.Elements.{All-tail, All-from_recursion, recursion_from_All}
use Rattle.std.proofs.lemmas.List.Sorted.{All-permutation}
use Rattle.knn_query.specs.Candidates.{candidate_cmp}
use Rattle.knn_query.specs.declared.candidate.Candidate.{Candidate}
use Rattle.knn_query.proofs.Candidates.{bound-behind}
use Rattle.knn_query.proofs.kept.replace_farthest.Goals as goal

-- two that are both the first
both_first : (xs : List Candidate) (a b : Candidate) → 0 < length xs → a ≡ get_or xs 0 a → b ≡ get_or xs 0 b → a ≡ b
both_first [] a b some is_a is_b = absurd (omega (arith, some))
both_first (x ∷ xs) a b some is_a is_b = is_a ∙ sym is_b

bound-left : (gone : Candidate) (old left : List Candidate) → IsPermutation old (gone ∷ left) → IsUpperBound candidate_cmp gone old → IsUpperBound candidate_cmp gone left
bound-left gone old left was bound =
    let P : Candidate → Type 0 = λ c. is_lt (candidate_cmp gone c) ≡ false in
    recursion_from_All P left (All-tail P gone left (All-permutation P old (gone ∷ left) was (All-from_recursion P old bound)))

pub returns-then-not-is_lt : goal.returns-then-not-is_lt
returns-then-not-is_lt c =
    record {
      same = refl;
      bound = bound-behind c.args.one c.in-Some.farthest.now (heap_items c.args.heap.now) (ap is_lt (sym c.cmp.ensures) ∙ sym c.is_lt.ensures ∙ c.if-not-is_lt.true) (c.in-Some.ensures.greatest c.requires);
    }

pub returns : goal.returns
returns c =
    let old = heap_items c.args.heap.now in
    let p = c.in-Some-peek_mut.farthest in
    let top : Candidate = p.top in
    let some : 0 < length old = omega (arith, c.in-Some.ensures.variant.0 refl, c.args.heap.now.data.ok.0) in
    let same : c.in-Some.farthest.now ≡ top = both_first old c.in-Some.farthest.now top some c.in-Some.ensures.lookup c.in-Some-peek_mut.ensures.top in
    let perm = c.drop-farthest.ensures.permutation (search rules) in
    let ordered = c.drop-farthest.ensures.heap_order (search rules) (c.in-Some-peek_mut.ensures.heap_order c.requires) in
    let before : is_lt (candidate_cmp c.args.one top) ≡ true = ap (λ d. is_lt (candidate_cmp c.args.one d)) (sym same) ∙ ap is_lt (sym c.cmp.ensures) ∙ sym c.is_lt.ensures ∙ c.if-not-is_lt.false in
    let bound = bound-left top old p.heap.now.data.items c.in-Some-peek_mut.ensures.permutation (c.in-Some-peek_mut.ensures.greatest c.requires) in
    record {
      gone = top;
      left = p.heap.now.data.items;
      was = c.in-Some-peek_mut.ensures.permutation;
      is = search rules;
      ordered = search rules;
      before = before;
      bound = bound;
    }
