use Rattle.std.proofs.Common.{◌≤◌, ◌∷◌, ℕ, List, get_or, length, sym, subst}
use Rattle.std.specs.List.Sorted.{IsPermutation}
use Rattle.fence_watch.specs.declared.slabs.Span.{Span}
use Rattle.fence_watch.specs.Slabs.{edges_of}
use Rattle.fence_watch.proofs.SlabLemmas.{some-edge, first-edge}
use Rattle.fence_watch.proofs.slabs.Slabs.new.Goals as goal

pub new-requires-clause-some : goal.new-requires-clause-some
new-requires-clause-some c =
    subst (λ (l : List ℕ). 1 ≤ length l) (sym c.deref-2.ensures.value) (some-edge c.args.spans.items c.in_ok-edges.edges.items (subst (λ (l : List Span). IsPermutation (0 ∷ edges_of l) c.in_ok-edges.edges.items) c.deref.ensures.value c.in_ok-edges.ensures.all))

pub new-requires-clause-first : goal.new-requires-clause-first
new-requires-clause-first c =
    subst (λ (l : List ℕ). get_or l 0 0 ≤ 0) (sym c.deref-2.ensures.value)
    (first-edge c.args.spans.items c.in_ok-edges.edges.items 0 c.in_ok-edges.ensures.sorted (subst (λ (l : List Span). IsPermutation (0 ∷ edges_of l) c.in_ok-edges.edges.items) c.deref.ensures.value c.in_ok-edges.ensures.all))
