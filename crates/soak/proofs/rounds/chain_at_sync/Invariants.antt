use Rattle.std.specs.Prelude.{◌≡◌, IfSome, vec_len}
use Rattle.soak.specs.Whole.{IsWhole}
use Rattle.soak.proofs.rounds.chain_at_sync.Given as goal

abbrev pub invariant-loop : goal.invariant-loop
invariant-loop g l = IsWhole l.store l.pass × IfSome l.crew (λ all. vec_len all ≡ 4)
