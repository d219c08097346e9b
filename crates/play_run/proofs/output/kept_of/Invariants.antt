use Rattle.std.proofs.Common.{◌≡◌, drop}
use Rattle.play_run.specs.inside.Answered.{kept_of}
use Rattle.play_run.proofs.output.kept_of.Given as goal

abbrev pub invariant-loop-end : goal.invariant-loop-end
invariant-loop-end l = kept_of l.session (drop l.end-index l.ends) ≡ kept_of l.session l.ends
