use Rattle.std.proofs.Common.{◌∙◌, ◌≤◌, ℕ, List, get_or, length, ap, sym, subst}
use Rattle.std.specs.List.Sorted.{IsNonDecreasing}
use Rattle.fence_watch.specs.declared.slabs.Span.{Span}
use Rattle.fence_watch.specs.Marks.{marks_of, all_marks}
use Rattle.fence_watch.specs.Slabs.{row_at, IsSlabOf}
use Rattle.fence_watch.proofs.SlabLemmas.{some-edge, first-edge, row-of}
use Rattle.fence_watch.proofs.slabs.Slabs.row.Goals as goal

pub slab-slab-requires-clause-rise : goal.slab-slab-requires-clause-rise
slab-slab-requires-clause-rise c = subst IsNonDecreasing (sym c.deref.ensures.value) c.self.invariant.sorted

pub slab-slab-requires-clause-some : goal.slab-slab-requires-clause-some
slab-slab-requires-clause-some c =
    subst (λ (l : List ℕ). 1 ≤ length l) (sym c.deref.ensures.value) (some-edge c.self.inside.spans.items c.self.inside.edges.items c.self.invariant.all)

pub slab-slab-requires-clause-first : goal.slab-slab-requires-clause-first
slab-slab-requires-clause-first c =
    subst (λ (l : List ℕ). get_or l 0 0 ≤ c.args.at) (sym c.deref.ensures.value)
    (first-edge c.self.inside.spans.items c.self.inside.edges.items c.args.at c.self.invariant.sorted c.self.invariant.all)

pub returns : goal.returns
returns c =
    let slab = subst (λ (l : List ℕ). IsSlabOf l c.args.at c.slab-slab.result) c.deref.ensures.value c.slab-slab.ensures in
    ap marks_of c.index.ensures
    ∙ row-of c.self.inside.spans.items c.self.inside.edges.items c.self.inside.rows.items c.args.at c.slab-slab.result c.index.result.now c.self.invariant c.ranges.at.fits slab
    ∙ ap (λ (l : List Span). all_marks (row_at c.args.at l)) c.self.view_is
