use Rattle.std.proofs.Common.{◌≡◌}
use Rattle.play_run.specs.inside.Dealt.{HasDealt, AreLeft}
use Rattle.play_run.proofs.lanes.deal.Given as goal

abbrev pub invariant-loop-i : goal.invariant-loop-i
invariant-loop-i g l = HasDealt {I = g.row.I.Denot} {D = g.row.D.Denot} {O = g.row.O.Denot} {P = g.row.I-Place.Denot} l.store l.rows l.i l.lanes.items l.pass × (l.pass.origin ≡ l.initial.pass.origin)
    × AreLeft (λ v. v.items) l.rows l.i l.own.items
