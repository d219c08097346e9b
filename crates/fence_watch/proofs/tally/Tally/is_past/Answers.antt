use Rattle.std.proofs.Common.{◌≡◌, ℕ, ◌<◌, ◌+◌, length, true, sym, subst, arith}
use Rattle.std.specs.Prelude.{nat_lt}
use Rattle.std.proofs.lemmas.Bool.{lt-ltb}
use Rattle.std.proofs.lemmas.Bool.Decides.{nat_tests}
use Rattle.fence_watch.specs.Tallies.{TallyView, Shows}
use Rattle.fence_watch.specs.Watches.{most_events}
use Rattle.fence_watch.proofs.Tallying.{Said, said, IsPastIn, is-past}
use Rattle.fence_watch.proofs.tally.Tally.is_past.Goals as goal

is_less : (a b : ℕ) → nat_lt a b ≡ true → a < b
is_less a b e = grind (arith, nat_tests)

pub returns : goal.returns
returns c =
    let w = c.args.went.now in
    let p = c.args.passage.now in
    let v : TallyView = record { counts = c.self.inside.counts.items; events = c.self.inside.events.items } in
    let k : Said w v.counts p = said w v p c.self.invariant.few (subst (λ (x : TallyView). Shows w x p) (sym c.self.view_is) c.requires) in (
      (λ e.
          let past : most_events < length v.events + c.crossed.result = omega (arith, is_less 4194304 (c.len.result + c.crossed.result) e, c.len.ensures, c.self.inside.events.ok.0) in
          subst (λ (x : TallyView). IsPastIn w x) c.self.view_is (is-past w c.crossed.result v p k c.crossed.ensures.count past)),
      (λ past.
          let here : IsPastIn w v = subst (λ (x : TallyView). IsPastIn w x) (sym c.self.view_is) past in
          lt-ltb 4194304 (c.len.result + c.crossed.result) (omega (arith, here, k.count, c.crossed.ensures.count, c.len.ensures, c.self.inside.events.ok.0))),
    )
