use Rattle.soak.specs.Whole.{IsWhole}
use Rattle.soak.proofs.turns.turn_over_files.Given as goal

abbrev pub invariant-loop-turn : goal.invariant-loop-turn
invariant-loop-turn g l = IsWhole l.store l.pass
