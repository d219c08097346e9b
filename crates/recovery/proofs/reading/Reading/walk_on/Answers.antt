use Rattle.std.proofs.Common.{◌-◌, arith, length-take, List, ℕ, drop, take, refl, ap, subst, sym}
use Rattle.std.proofs.lemmas.List.{drop-drop}
use Rattle.recovery.specs.Pieces.{FailsAt, PassesCell}
use Rattle.recovery.specs.Reading.{ReadingView}
use Rattle.recovery.specs.Replay.{ReplayView}
use Rattle.recovery.proofs.ReadingLemmas.{rest_is, walks_err}
use Rattle.recovery.proofs.reading.Reading.walk_on.Goals as goal

pub returns-in_err-walked : goal.returns-in_err-walked
returns-in_err-walked c =
    let w = c.self.inside in
    let is = c.in_err-walked.ensures in
    let rest = rest_is w.at w.filled w.buffer.items c.deref.result.now c.self.invariant.from c.deref.ensures.value in
    let like : ReplayView → ReadingView = λ r. record { replay = r; number = w.number; most = w.most; len = w.len; rest = drop w.at (take w.filled w.buffer.items) } in
    rw (← c.self.view_is)
    (walks_err (like w.replay) (like c.walk_front.new.replay) c.in_err-walked.field-0.0 c.from_residual.result c.from_residual.ensures.1
    (ap like is.0, subst (λ (l : List ℕ). FailsAt w.replay.version w.replay.width w.most w.number w.replay.state l c.in_err-walked.field-0.0) rest is.1))

pub returns : goal.returns
returns c =
    let w = c.self.inside in
    let on = rw c.in-Some.is at c.in_ok-walked.ensures in
    let rest = rest_is w.at w.filled w.buffer.items c.deref.result.now c.self.invariant.from c.deref.ensures.value in
    rw (← c.self.view_is)
    (record {
      few = on.0;
      passes = subst (λ (l : List ℕ). PassesCell w.number w.replay c.walk_front.new.replay l c.in-Some.walked) rest on.1;
      same = record { version = on.1.version; width = on.1.width; most = refl; len = refl };
      number = refl;
      room = omega (arith, on.1.long, length-take (w.filled - w.at) (drop w.at c.deref.result.now), c.self.invariant.fits, c.self.invariant.from);
      rest = sym (drop-drop 32 w.at (take w.filled w.buffer.items));
    })
