use Rattle.std.proofs.Common.{◌∷◌, map, refl, subst, arith, lit<}
use Rattle.std.specs.List.Sorted.{IsPermutation}
use Rattle.std.specs.BinaryHeap.{heap_items}
use Rattle.std.proofs.lemmas.List.Elements.{All-cons}
use Rattle.std.proofs.lemmas.List.Sorted.{All-permutation, IsPermutation-map, length_permutation}
use Rattle.knn_query.specs.Candidates.{object_of, IsMeasured, Replaces}
use Rattle.knn_query.proofs.Candidates.{pass_adds_one}
use Rattle.knn_query.proofs.Keeping.{replaced-passes, behind-passes, behind-beyond}
use Rattle.knn_query.proofs.kept.Kept.add.Goals as goal

pub returns-then-len-self-clause-passes : goal.returns-then-len-self-clause-passes
returns-then-len-self-clause-passes c =
    let p = c.args.self.now.from in
    let k = c.args.self.now.k in
    let one = c.args.one in
    let cs = heap_items c.args.self.now.heap in
    let ds = heap_items c.push.new.self in
    let perm = c.in_ok-push.ensures.permutation in
    let made : IsPermutation (object_of one ∷ map object_of cs) (map object_of ds) = IsPermutation-map object_of (one ∷ cs) ds perm in
    record {
      from = refl;
      k_is = refl;
      is_held = record {
        ordered = c.in_ok-push.ensures.heap_order c.requires.held.ordered;
        measured = All-permutation (IsMeasured p) (one ∷ cs) ds perm (All-cons (IsMeasured p) one cs c.requires.measured c.requires.held.measured);
        few = omega (arith, length_permutation (one ∷ cs) ds perm, c.if-len-self.true, c.len.ensures, c.args.self.now.heap.data.ok.0);
      };
      out = λ m out. absurd (omega (arith, out.full, c.if-len-self.true, c.len.ensures, c.args.self.now.heap.data.ok.0));
      keeps = λ places rest are pass. pass_adds_one p k places rest (object_of one) (map object_of cs) (map object_of ds) (are 0 (object_of one) (lit< tt)) made pass;
    }

pub returns-then-replace_farthest-clause-passes : goal.returns-then-replace_farthest-clause-passes
returns-then-replace_farthest-clause-passes c =
    replaced-passes (object_of c.args.one) c.args.one c.args.self.now (record { from = c.args.self.now.from; k = c.args.self.now.k; heap = c.replace_farthest.new.heap }) refl c.requires.measured c.requires.held
    (omega (arith, c.if-len-self.false, c.len.ensures, c.args.self.now.heap.data.ok.0)) refl refl
    (subst (Replaces c.args.one (heap_items c.args.self.now.heap) (heap_items c.replace_farthest.new.heap)) c.if-replace_farthest.true c.replace_farthest.ensures)

pub returns-else-replace_farthest-clause-passes : goal.returns-else-replace_farthest-clause-passes
returns-else-replace_farthest-clause-passes c =
    behind-passes (object_of c.args.one) c.args.one c.args.self.now (record { from = c.args.self.now.from; k = c.args.self.now.k; heap = c.replace_farthest.new.heap }) refl c.requires.measured c.requires.held
    (omega (arith, c.if-len-self.false, c.len.ensures, c.args.self.now.heap.data.ok.0)) refl refl
    (subst (Replaces c.args.one (heap_items c.args.self.now.heap) (heap_items c.replace_farthest.new.heap)) c.if-replace_farthest.false c.replace_farthest.ensures)

pub returns-else-replace_farthest-clause-came : goal.returns-else-replace_farthest-clause-came
returns-else-replace_farthest-clause-came c =
    behind-beyond (object_of c.args.one) c.args.one c.args.self.now (record { from = c.args.self.now.from; k = c.args.self.now.k; heap = c.replace_farthest.new.heap }) refl c.requires.measured c.requires.held
    (omega (arith, c.if-len-self.false, c.len.ensures, c.args.self.now.heap.data.ok.0)) refl refl
    (subst (Replaces c.args.one (heap_items c.args.self.now.heap) (heap_items c.replace_farthest.new.heap)) c.if-replace_farthest.false c.replace_farthest.ensures)
