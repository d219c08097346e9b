use Rattle.std.specs.Prelude.{◌≡◌, IfSome, vec_len}
use Rattle.soak.specs.Whole.{IsWhole}
use Rattle.soak.proofs.soak.play_over_files.Given as goal

abbrev pub invariant-loop-turn : goal.invariant-loop-turn
invariant-loop-turn g l = IsWhole l.store l.pass × IfSome l.crew (λ all. vec_len all ≡ 4)
