use Rattle.std.proofs.Common.{◌≡◌, [], map, replicate}
use Rattle.play_run.proofs.lanes.no_rows.Given as goal

abbrev pub invariant-loop : goal.invariant-loop
invariant-loop l = map (λ v. v.items) l.own.items ≡ replicate l.counter []
