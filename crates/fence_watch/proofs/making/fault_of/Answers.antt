use Rattle.std.proofs.Common.{refl, sym}
use Rattle.fence_watch.proofs.FaultFacts.{looked-first, looked-next, looked-fault, looked-none, looked-all, too-many}
use Rattle.fence_watch.proofs.making.fault_of.Goals as goal

pub loop-number-init : goal.loop-number-init
loop-number-init c = looked-first c.args.fences.now

pub loop-number-preserved : goal.loop-number-preserved
loop-number-preserved c =
    let none = sym c.in_default.ensures.fault in
    looked-next c.loop-number.number c.args.fences.now _ c.loop-number-test.true c.if-fences-gt-MOST_FENCES.false c.loop-number.invariant none (c.in_default.ensures.fence refl)

pub returns-then-fences-gt-MOST_FENCES : goal.returns-then-fences-gt-MOST_FENCES
returns-then-fences-gt-MOST_FENCES c = record { fault = sym (too-many c.args.fences.now c.if-fences-gt-MOST_FENCES.true); rules = λ e. absurd (cc e) }

pub returns-in-Some : goal.returns-in-Some
returns-in-Some c = record {
  fault = sym (looked-fault c.loop-number.number c.args.fences.now _ c.loop-number-test.true c.if-fences-gt-MOST_FENCES.false c.loop-number.invariant c.in-Some.fault (sym c.in-Some.ensures.fault));
  rules = λ e. absurd (cc e);
}

pub returns : goal.returns
returns c = record {
  fault = sym (looked-none c.loop-number.number c.args.fences.now c.loop-number-test.false c.if-fences-gt-MOST_FENCES.false c.loop-number.invariant);
  rules = λ e. looked-all c.loop-number.number c.args.fences.now c.loop-number-test.false c.if-fences-gt-MOST_FENCES.false c.loop-number.invariant;
}
