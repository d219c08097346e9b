use Rattle.std.proofs.Common.{◌∷◌, [], ap, arith, length, length-append}
use Rattle.fence_watch.specs.Tallies.{TallyView}
use Rattle.fence_watch.proofs.Alonging.{on-way-first, reads-ok, reads-err, led-end, led-fault, led-cell, way-next}
use Rattle.fence_watch.proofs.tally.Tally.along.Goals as goal

pub cells-init : goal.cells-init
cells-init g c = on-way-first _ _ _ c.events-events.ensures.few

pub cells-smaller : goal.cells-smaller
cells-smaller g c =
    let told = rw c.in-Ok-Some.field-0-is at c.in-Ok-Some.ensures in
    let first = c.requires.3 in
    let all = c.cells.invariant.walks c.requires.0 c.requires.1 c.requires.2 first in
    let tells = told.tells c.requires.0 c.requires.1 all.0 all.1 in
    omega (arith, tells.0.read.count, all.1.read.count, tells.0.few, first.most_is, length-append all.0 (c.in-Ok-Some.walked.cell ∷ []))

pub cells-preserved : goal.cells-preserved
cells-preserved g c =
    let told = rw c.in-Ok-Some.field-0-is at c.in-Ok-Some.ensures in
    way-next _ _ _ _ _ _ _ _ c.cells.invariant c.in-Ok-Some.walked c.step.new.self told.reads c.in_default.ensures.ok (λ past. c.in_default.not-Err _ (c.step.ensures.too_many.1 past)) told.tells

pub returns-in-Err-step : goal.returns-in-Err-step
returns-in-Err-step g c =
    let told = rw c.in-Ok-Some.field-0-is at c.in-Ok-Some.ensures in
    let way = c.cells.invariant in
    let same = c.in-Err-step.ensures.err in
    record {
      along = λ w most front cells taken fences came tallies.
          let are = way.goes w most front cells taken fences came tallies in
          led-cell _ _ _ way.reads w most front cells taken fences _ _ _ are c.in-Ok-Some.walked (record { tells = told.tells; exact = told.exact; whole = told.whole }) c.in-Err-step.fault _ same c.in-Err-step.ensures.too_many;
      few = omega (arith, way.few, ap (λ (v : TallyView). length v.events) same);
      reads = reads-ok _ _ _ way.reads _ told.reads;
    }

pub returns-in-Ok-None : goal.returns-in-Ok-None
returns-in-Ok-None g c =
    let told = rw c.in-Ok-None.field-0-is at c.in-Ok-None.ensures in
    let way = c.cells.invariant in
    record {
      along = λ w most front cells taken fences came tallies.
          let are = way.goes w most front cells taken fences came tallies in
          led-end _ _ _ way.reads w most front cells taken fences _ _ _ are (record { tells = told.tells; exact = told.exact; whole = told.whole });
      few = way.few;
      reads = reads-ok _ _ _ way.reads _ told.reads;
    }

pub returns-in-Err : goal.returns-in-Err
returns-in-Err g c =
    let way = c.cells.invariant in
    record {
      along = λ w most front cells taken fences came tallies.
          let are = way.goes w most front cells taken fences came tallies in
          led-fault _ _ _ way.reads w most front cells taken fences _ _ _ are c.in-Err.fault (record { tells = c.in-Err.ensures.tells; exact = c.in-Err.ensures.exact; whole = c.in-Err.ensures.whole });
      few = way.few;
      reads = reads-err _ _ _ way.reads c.in-Err.fault c.in-Err.ensures.reads;
    }
