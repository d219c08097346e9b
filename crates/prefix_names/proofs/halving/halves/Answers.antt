use Rattle.std.proofs.Common.{◌<◌, ◌+◌, ◌-◌, ◌/◌, ◌∙◌, sym, ap, subst, arith}
use Rattle.zorder.specs.declared.points.Region.{Region}
use Rattle.prefix_names.proofs.Middles.{x-wide, y-wide, zero-x, one-x, zero-y, one-y}
use Rattle.prefix_names.proofs.halving.halves.Goals as goal

pub cut-end-requires : goal.cut-end-requires
cut-end-requires c =
    subst (λ (r : Region). r.lo.x < r.hi.x) (sym c.requires.whole) (x-wide c.args.name.now c.requires.room (omega (arith, c.if-len-eq0.true, c.len.ensures.len)))

pub cut-end-requires-else-len-eq0 : goal.cut-end-requires-else-len-eq0
cut-end-requires-else-len-eq0 c =
    subst (λ (r : Region). r.lo.y < r.hi.y) (sym c.requires.whole) (y-wide c.args.name.now c.requires.room (omega (arith, c.if-len-eq0.false, c.len.ensures.len)))

pub returns-then-len-eq0-clause-zero : goal.returns-then-len-eq0-clause-zero
returns-then-len-eq0-clause-zero c =
    c.between.ensures.zero
    ∙ (λ i. record { lo = (c.requires.whole i).lo; hi = record { x = c.cut-end.result.0; y = (c.requires.whole i).hi.y } })
    ∙ zero-x c.args.name.now c.requires.room c.cut-end.result.0 (omega (arith, c.if-len-eq0.true, c.len.ensures.len))
    (c.cut-end.ensures.end ∙ ap (λ (r : Region). r.lo.x + (r.hi.x - r.lo.x) / 2) c.requires.whole)

pub returns-then-len-eq0-clause-one : goal.returns-then-len-eq0-clause-one
returns-then-len-eq0-clause-one c =
    c.between.ensures.one
    ∙ (λ i. record { lo = record { x = c.cut-end.result.1; y = (c.requires.whole i).lo.y }; hi = (c.requires.whole i).hi })
    ∙ one-x c.args.name.now c.requires.room c.cut-end.result.1 (omega (arith, c.if-len-eq0.true, c.len.ensures.len))
    (c.cut-end.ensures.begin ∙ ap (λ (r : Region). r.lo.x + (r.hi.x - r.lo.x) / 2 + 1) c.requires.whole)

pub returns-else-len-eq0-clause-zero : goal.returns-else-len-eq0-clause-zero
returns-else-len-eq0-clause-zero c =
    c.between-else-len-eq0.ensures.zero
    ∙ (λ i. record { lo = (c.requires.whole i).lo; hi = record { x = (c.requires.whole i).hi.x; y = c.cut-end-else-len-eq0.result.0 } })
    ∙ zero-y c.args.name.now c.requires.room c.cut-end-else-len-eq0.result.0 (omega (arith, c.if-len-eq0.false, c.len.ensures.len))
    (c.cut-end-else-len-eq0.ensures.end ∙ ap (λ (r : Region). r.lo.y + (r.hi.y - r.lo.y) / 2) c.requires.whole)

pub returns-else-len-eq0-clause-one : goal.returns-else-len-eq0-clause-one
returns-else-len-eq0-clause-one c =
    c.between-else-len-eq0.ensures.one
    ∙ (λ i. record { lo = record { x = (c.requires.whole i).lo.x; y = c.cut-end-else-len-eq0.result.1 }; hi = (c.requires.whole i).hi })
    ∙ one-y c.args.name.now c.requires.room c.cut-end-else-len-eq0.result.1 (omega (arith, c.if-len-eq0.false, c.len.ensures.len))
    (c.cut-end-else-len-eq0.ensures.begin ∙ ap (λ (r : Region). r.lo.y + (r.hi.y - r.lo.y) / 2 + 1) c.requires.whole)
