use Rattle.std.proofs.Common.{◌∙◌, ◌≤◌, ℕ, List, get_or, length, ap, sym, subst}
use Rattle.std.specs.List.Sorted.{IsNonDecreasing}
use Rattle.fence_watch.specs.declared.slabs.Span.{Span}
use Rattle.fence_watch.specs.Marks.{marks_of, all_marks}
use Rattle.fence_watch.specs.Slabs.{row_at, IsSlabOf}
use Rattle.fence_watch.proofs.SlabLemmas.{some-edge, first-edge, row-of}
use Rattle.fence_watch.proofs.slabs.Slabs.rows.Goals as goal

pub slab-slab-requires-clause-rise : goal.slab-slab-requires-clause-rise
slab-slab-requires-clause-rise c = subst IsNonDecreasing (sym c.deref.ensures.value) c.self.invariant.sorted

pub slab-slab-requires-clause-some : goal.slab-slab-requires-clause-some
slab-slab-requires-clause-some c =
    subst (λ (l : List ℕ). 1 ≤ length l) (sym c.deref.ensures.value) (some-edge c.self.inside.spans.items c.self.inside.edges.items c.self.invariant.all)

pub slab-slab-requires-clause-first : goal.slab-slab-requires-clause-first
slab-slab-requires-clause-first c =
    subst (λ (l : List ℕ). get_or l 0 0 ≤ c.args.one) (sym c.deref.ensures.value)
    (first-edge c.self.inside.spans.items c.self.inside.edges.items c.args.one c.self.invariant.sorted c.self.invariant.all)

pub returns-then-has-clause-one : goal.returns-then-has-clause-one
returns-then-has-clause-one c =
    let slab = subst (λ (l : List ℕ). IsSlabOf l c.args.one c.slab-slab.result) c.deref.ensures.value c.slab-slab.ensures in
    ap marks_of c.index-row.ensures
    ∙ row-of c.self.inside.spans.items c.self.inside.edges.items c.self.inside.rows.items c.args.one c.slab-slab.result c.index-row.result.now c.self.invariant c.ranges.one.fits slab
    ∙ ap (λ (l : List Span). all_marks (row_at c.args.one l)) c.self.view_is

pub returns-then-has-clause-other : goal.returns-then-has-clause-other
returns-then-has-clause-other c =
    let slab = subst (λ (l : List ℕ). IsSlabOf l c.args.other c.slab-slab.result) c.deref-2.ensures.value (c.has.ensures c.if-has.true) in
    ap marks_of c.index-row.ensures
    ∙ row-of c.self.inside.spans.items c.self.inside.edges.items c.self.inside.rows.items c.args.other c.slab-slab.result c.index-row.result.now c.self.invariant c.ranges.other.fits slab
    ∙ ap (λ (l : List Span). all_marks (row_at c.args.other l)) c.self.view_is

pub returns-else-has-clause-one : goal.returns-else-has-clause-one
returns-else-has-clause-one c =
    let slab = subst (λ (l : List ℕ). IsSlabOf l c.args.one c.slab-slab.result) c.deref.ensures.value c.slab-slab.ensures in
    ap marks_of c.index-row.ensures
    ∙ row-of c.self.inside.spans.items c.self.inside.edges.items c.self.inside.rows.items c.args.one c.slab-slab.result c.index-row.result.now c.self.invariant c.ranges.one.fits slab
    ∙ ap (λ (l : List Span). all_marks (row_at c.args.one l)) c.self.view_is
