use Rattle.std.proofs.Common.{◌≡◌, ◌∙◌, ◌≤◌, List, length, map, sym, ap, subst, arith}
use Rattle.std.specs.BinaryHeap.{heap_items}
use Rattle.std.specs.List.Sorted.{IsPermutation}
use Rattle.std.proofs.lemmas.List.{length-map}
use Rattle.std.proofs.lemmas.List.Sorted.{All-permutation, IsPermutation-trans, IsPermutation-map, length_permutation}
use Rattle.plain_list.specs.Queries.{ranked}
use Rattle.plain_list.proofs.Ranking.{ranked_once, IsPermutation-ranked}
use Rattle.knn_query.specs.Candidates.{object_of, IsMeasured}
use Rattle.knn_query.specs.declared.candidate.Candidate.{Candidate}
use Rattle.knn_query.proofs.Candidates.{sorted-map, take-all}
use Rattle.knn_query.proofs.kept.Kept.into_list.Goals as goal

pub returns : goal.returns
returns c places are =
    let p = c.args.self.from in
    let k = c.args.self.k in
    let cs = heap_items c.args.self.heap in
    let half = c.sort_unstable_by_key.new.self.items in
    let ds = c.sort_unstable.new.self.items in
    let begun : IsPermutation cs half = subst (λ (list : List Candidate). IsPermutation list half) (ap (λ v. v.items) c.into_vec-sorted.ensures.value) c.sort_unstable_by_key.ensures.permutation in
    let perm : IsPermutation cs ds = IsPermutation-trans cs half ds begun c.sort_unstable.ensures.permutation in
    let same : map object_of ds ≡ ranked p (map object_of cs) =
    ranked_once p places (map object_of cs) (map object_of ds) are (IsPermutation-map object_of cs ds perm)
    (sorted-map p ds (All-permutation (IsMeasured p) cs ds perm c.requires.measured) c.sort_unstable.ensures.sorted) in
    let few : length (ranked p (map object_of cs)) ≤ k =
    omega (arith, length_permutation (map object_of cs) (ranked p (map object_of cs)) (IsPermutation-ranked p (map object_of cs)), length-map cs object_of, c.requires.few) in
    c.from_vec.ensures ∙ c.in_ok-objects.ensures ∙ ap (map object_of) c.deref.ensures.value ∙ same ∙ sym (take-all k (ranked p (map object_of cs)) few)
