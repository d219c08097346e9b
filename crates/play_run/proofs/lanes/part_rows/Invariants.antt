use Rattle.play_run.specs.inside.Dealt.{AreParted}
use Rattle.play_run.proofs.lanes.part_rows.Given as goal

abbrev pub invariant-loop-i : goal.invariant-loop-i
invariant-loop-i l = AreParted (λ v. v.items) l.rows l.i l.own.items
