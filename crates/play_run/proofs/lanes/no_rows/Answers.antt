use Rattle.std.proofs.Common.{◌≡◌, ℕ, [], map, replicate, subst, arith}
use Rattle.play_run.proofs.Parting.{parted-none}
use Rattle.play_run.proofs.lanes.no_rows.Goals as goal

pub returns : goal.returns
returns c = λ rows.
    let all : c.loop.counter ≡ 16 = omega (arith, c.loop-test.false, c.loop.auto.counter-end) in
    parted-none (λ v. v.items) rows c.loop.own.items (subst (λ (k : ℕ). map (λ v. v.items) c.loop.own.items ≡ replicate k []) all c.loop.invariant)
