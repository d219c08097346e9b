use Rattle.std.proofs.Common.{ℕ}
use Rattle.std.proofs.lemmas.List.Sorted.{IsNonDecreasingBy-from_sort}
use Rattle.fence_watch.proofs.SlabLemmas.{pushed-more}
use Rattle.fence_watch.proofs.slabs.edges_of.Goals as goal

pub loop-span-preserved : goal.loop-span-preserved
loop-span-preserved c = pushed-more c.args.spans.now c.loop-span.span-index _ _ _ c.loop-span-test.true c.loop-span.invariant c.in_ok-push_edges.ensures

pub returns-clause-sorted : goal.returns-clause-sorted
returns-clause-sorted c = IsNonDecreasingBy-from_sort (λ (x : ℕ). x) c.sort_unstable.new.self.items c.sort_unstable.ensures.sorted
