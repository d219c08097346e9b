use Rattle.std.proofs.Common.{◌∙◌, ◌≤◌, ◌<◌, ◌+◌, ◌++◌, List, length, length-append, take, drop, refl, sym, ap, subst, arith}
use Rattle.fence_watch.specs.declared.fences.Event.{Event}
use Rattle.fence_watch.specs.declared.counts.FenceCount.{FenceCount}
use Rattle.fence_watch.specs.Counts.{count_by, fences_counted}
use Rattle.fence_watch.specs.Kept.{KeepsTally}
use Rattle.fence_watch.specs.Passages.{along, turns_of, events_along}
use Rattle.fence_watch.specs.Tallies.{TallyView, Shows}
use Rattle.fence_watch.specs.Watches.{most_events}
use Rattle.fence_watch.proofs.Tallying.{Said, said, Goes, IsPastIn, stays, not-past, is-past, keeps-tallied, rewritten}
use Rattle.fence_watch.proofs.tally.Tally.pass.Goals as goal

pub returns-then-crossed-eq0-clause-ok : goal.returns-then-crossed-eq0-clause-ok
returns-then-crossed-eq0-clause-ok c =
    let w = c.args.went.now in
    let p = c.args.passage.now in
    let v : TallyView = record { counts = c.self.inside.counts.items; events = c.self.inside.events.items } in
    let k : Said w v.counts p = said w v p c.self.invariant.few (subst (λ (x : TallyView). Shows w x p) (sym c.self.view_is) c.requires) in
    subst (λ (x : TallyView). Goes w x x) c.self.view_is (stays w v p k (sym c.crossed-crossed.ensures.count ∙ c.if-crossed-eq0.true))

pub returns-then-crossed-eq0-clause-too_many : goal.returns-then-crossed-eq0-clause-too_many
returns-then-crossed-eq0-clause-too_many c =
    let w = c.args.went.now in
    let p = c.args.passage.now in
    let v : TallyView = record { counts = c.self.inside.counts.items; events = c.self.inside.events.items } in
    let k : Said w v.counts p = said w v p c.self.invariant.few (subst (λ (x : TallyView). Shows w x p) (sym c.self.view_is) c.requires) in
    let few : length v.events + c.crossed-crossed.result ≤ most_events = omega (arith, c.self.invariant.events, c.if-crossed-eq0.true) in
    ((λ e. absurd (cc e)), (λ over. absurd (not-past w c.crossed-crossed.result v p k c.crossed-crossed.ensures.count few (subst (λ (x : TallyView). IsPastIn w x) (sym c.self.view_is) over))))

pub returns-then-told-crossed-gt-MOST_FENCE_EVENTS-clause-too_many : goal.returns-then-told-crossed-gt-MOST_FENCE_EVENTS-clause-too_many
returns-then-told-crossed-gt-MOST_FENCE_EVENTS-clause-too_many c =
    let w = c.args.went.now in
    let p = c.args.passage.now in
    let v : TallyView = record { counts = c.self.inside.counts.items; events = c.self.inside.events.items } in
    let k : Said w v.counts p = said w v p c.self.invariant.few (subst (λ (x : TallyView). Shows w x p) (sym c.self.view_is) c.requires) in
    let past : most_events < length v.events + c.crossed-crossed.result = omega (arith, c.len-told.ensures, c.if-told-crossed-gt-MOST_FENCE_EVENTS.true, c.self.inside.events.ok.0) in
    ((λ e. subst (λ (x : TallyView). IsPastIn w x) c.self.view_is (is-past w c.crossed-crossed.result v p k c.crossed-crossed.ensures.count past)), (λ over. refl))

pub pass_counted-requires : goal.pass_counted-requires
pass_counted-requires c =
    let w = c.args.went.now in
    let p = c.args.passage.now in
    let v : TallyView = record { counts = c.self.inside.counts.items; events = c.self.inside.events.items } in
    let k : Said w v.counts p = said w v p c.self.invariant.few (subst (λ (x : TallyView). Shows w x p) (sym c.self.view_is) c.requires) in
    c.crossed-crossed.ensures.count ∙ k.count ∙ ap length (sym k.told)
    ∙ ap (λ (l : List FenceCount). length (events_along w.at w.id (fences_counted l) (turns_of p))) (sym c.deref_mut.ensures.value)

pub returns-in_default-clause-too_many : goal.returns-in_default-clause-too_many
returns-in_default-clause-too_many c =
    let w = c.args.went.now in
    let p = c.args.passage.now in
    let v : TallyView = record { counts = c.self.inside.counts.items; events = c.self.inside.events.items } in
    let k : Said w v.counts p = said w v p c.self.invariant.few (subst (λ (x : TallyView). Shows w x p) (sym c.self.view_is) c.requires) in
    let fits : length v.events + c.crossed-crossed.result ≤ most_events = omega (arith, c.len-told.ensures, c.if-told-crossed-gt-MOST_FENCE_EVENTS.false, c.self.inside.events.ok.0) in
    ((λ e. absurd (cc e)), (λ over. absurd (not-past w c.crossed-crossed.result v p k c.crossed-crossed.ensures.count fits (subst (λ (x : TallyView). IsPastIn w x) (sym c.self.view_is) over))))

pub invariant_of-self-2 : goal.invariant_of-self-2
invariant_of-self-2 c =
    let w = c.args.went.now in
    let p = c.args.passage.now in
    let v : TallyView = record { counts = c.self.inside.counts.items; events = c.self.inside.events.items } in
    let k : Said w v.counts p = said w v p c.self.invariant.few (subst (λ (x : TallyView). Shows w x p) (sym c.self.view_is) c.requires) in
    let kept = rewritten c.self.inside.counts.len c.pass_counted.new.counts c.self.inside.counts.items (c.pass_counted.auto.counts ∙ c.deref_mut.ensures.len) in
    let tallies : Goes w v (record { counts = c.pass_counted.new.counts; events = c.pass_counted.new.events.items }) = record {
      events = c.in-Ok.ensures.events ∙ ap (λ (l : List Event). v.events ++ l) (ap (λ (l : List FenceCount). events_along w.at w.id (fences_counted l) (turns_of p)) c.deref_mut.ensures.value ∙ k.told);
      counts = c.in-Ok.ensures.counts ∙ ap (λ (l : List FenceCount). along count_by l (turns_of p)) c.deref_mut.ensures.value ∙ k.behind;
    } in
    let fits : length c.pass_counted.new.events.items ≤ most_events =
    omega (arith, ap length tallies.events, length-append {A = Event}, k.count, c.crossed-crossed.ensures.count, c.len-told.ensures, c.if-told-crossed-gt-MOST_FENCE_EVENTS.false, c.self.inside.events.ok.0) in
    subst (λ (l : List FenceCount). KeepsTally l c.self.inside.chart c.pass_counted.new.events.items) (sym kept)
    (keeps-tallied w v (record { counts = c.pass_counted.new.counts; events = c.pass_counted.new.events.items }) c.self.inside.chart tallies c.self.invariant fits)

pub returns-clause-ok : goal.returns-clause-ok
returns-clause-ok c =
    let w = c.args.went.now in
    let p = c.args.passage.now in
    let v : TallyView = record { counts = c.self.inside.counts.items; events = c.self.inside.events.items } in
    let k : Said w v.counts p = said w v p c.self.invariant.few (subst (λ (x : TallyView). Shows w x p) (sym c.self.view_is) c.requires) in
    let kept = rewritten c.self.inside.counts.len c.pass_counted.new.counts c.self.inside.counts.items (c.pass_counted.auto.counts ∙ c.deref_mut.ensures.len) in
    let tallies : Goes w v (record { counts = c.pass_counted.new.counts; events = c.pass_counted.new.events.items }) = record {
      events = c.in-Ok.ensures.events ∙ ap (λ (l : List Event). v.events ++ l) (ap (λ (l : List FenceCount). events_along w.at w.id (fences_counted l) (turns_of p)) c.deref_mut.ensures.value ∙ k.told);
      counts = c.in-Ok.ensures.counts ∙ ap (λ (l : List FenceCount). along count_by l (turns_of p)) c.deref_mut.ensures.value ∙ k.behind;
    } in
    subst (λ (x : TallyView). Goes w x (record { counts = take c.self.inside.counts.len (c.pass_counted.new.counts ++ drop (length c.pass_counted.new.counts) c.self.inside.counts.items); events = c.pass_counted.new.events.items })) c.self.view_is
    (record { events = tallies.events; counts = kept ∙ tallies.counts })

pub returns-clause-too_many : goal.returns-clause-too_many
returns-clause-too_many c =
    let w = c.args.went.now in
    let p = c.args.passage.now in
    let v : TallyView = record { counts = c.self.inside.counts.items; events = c.self.inside.events.items } in
    let k : Said w v.counts p = said w v p c.self.invariant.few (subst (λ (x : TallyView). Shows w x p) (sym c.self.view_is) c.requires) in
    let fits : length v.events + c.crossed-crossed.result ≤ most_events = omega (arith, c.len-told.ensures, c.if-told-crossed-gt-MOST_FENCE_EVENTS.false, c.self.inside.events.ok.0) in
    ((λ e. absurd (cc e)), (λ over. absurd (not-past w c.crossed-crossed.result v p k c.crossed-crossed.ensures.count fits (subst (λ (x : TallyView). IsPastIn w x) (sym c.self.view_is) over))))
