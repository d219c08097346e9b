-- What a step says of a tally, in terms of the guards over it.
use Rattle.std.proofs.Common.{◌≡◌, ℕ, ◌≤◌, ◌<◌, ◌+◌, List, ◌++◌, length, map, Option, Result, Ok, Err, OnOk, OnErr, sym, ◌∙◌, ap, subst}
use Rattle.zorder.specs.declared.points.Point.{Point}
use Rattle.fence_watch.specs.declared.fences.Fence.{Fence}
use Rattle.fence_watch.specs.Fences.{most_fences}
use Rattle.fence_watch.specs.Crossings.{crossings_by}
use Rattle.fence_watch.specs.Counts.{fences_counted}
use Rattle.fence_watch.specs.Guards.{AllRising}
use Rattle.fence_watch.specs.Kept.{Keeps}
use Rattle.fence_watch.specs.Tallies.{TallyView, TalliesBy, IsPastBy}
use Rattle.fence_watch.specs.Watches.{Guard, fences_of, guard_behind, HoldsBefore, StepsBy, IsOverBy, most_events}
use Rattle.fence_watch.proofs.Passing.{fences-behind, rising-behind}
use Rattle.fence_watch.proofs.Tallying.{fences-behind as counted-behind}

-- Guards over a tally of the same fences.
module _ (at : ℕ) (o : Option ℕ) (before after : Option Point) (guards : List Guard) (t : TallyView) (same : fences_of guards ≡ fences_counted t.counts) where
  abbrev Passes : List Fence → Type 0
  Passes fences = most_events < length t.events + length (crossings_by at o before after fences)

  pub past-over : IsOverBy at o before after (record { guards = guards; events = t.events }) → IsPastBy at o before after t
  past-over over = subst Passes same over

  pub over-past : IsPastBy at o before after t → IsOverBy at o before after (record { guards = guards; events = t.events })
  over-past past = subst Passes (sym same) past

  pub steps-over : (new : List Guard) (u : TallyView) → new ≡ map (guard_behind o before after) guards → TalliesBy at o before after t u
      → StepsBy at o before after (record { guards = guards; events = t.events }) (record { guards = new; events = u.events })
  steps-over new u is tallies = record {
    events = tallies.events ∙ ap (λ (fences : List Fence). t.events ++ crossings_by at o before after fences) (sym same);
    guards = is;
  }

pub keeps-behind : (at : ℕ) (o : Option ℕ) (before after : Option Point) (guards new : List Guard) (t u : TallyView) → Keeps guards t → HoldsBefore o before guards
    → new ≡ map (guard_behind o before after) guards → TalliesBy at o before after t u → Keeps new u
keeps-behind at o before after guards new t u keeps holds is tallies =
    let same : fences_of new ≡ fences_of guards = ap fences_of is ∙ fences-behind o before after guards in
    record {
      fences = same ∙ keeps.fences ∙ sym (ap fences_counted tallies.counts ∙ counted-behind o before after t.counts);
      rising = subst AllRising (sym is) (rising-behind o before after guards holds keeps.rising);
      few = subst (λ (l : List Fence). length l ≤ most_fences) (sym same) keeps.few;
    }

-- Either result.
pub keeps-either : {E : Type 0} (r : Result (Unit {0}) E) (at : ℕ) (o : Option ℕ) (before after : Option Point) (guards new : List Guard) (t u : TallyView) → Keeps guards t → HoldsBefore o before guards
    → OnOk r (new ≡ map (guard_behind o before after) guards) → OnOk r (TalliesBy at o before after t u) → OnErr r (new ≡ guards) → OnErr r (u ≡ t) → Keeps new u
keeps-either (Ok x) at o before after guards new t u keeps holds is tallies same stays = keeps-behind at o before after guards new t u keeps holds is tallies
keeps-either (Err e) at o before after guards new t u keeps holds is tallies same stays = subst (λ (l : List Guard). Keeps l u) (sym same) (subst (λ (v : TallyView). Keeps guards v) (sym stays) keeps)

pub on-ok : {E : Type 0} {A B : Type 0} (r : Result (Unit {0}) E) → OnOk r A → (A → B) → OnOk r B
on-ok (Ok x) a f = f a
on-ok (Err e) a f = tt

pub on-both : {E : Type 0} {A B C : Type 0} (r : Result (Unit {0}) E) → OnOk r A → OnOk r B → (A → B → C) → OnOk r C
on-both (Ok x) a b f = f a b
on-both (Err e) a b f = tt

pub on-err : {E : Type 0} {A B : Type 0} (r : Result (Unit {0}) E) → OnErr r A → (A → B) → OnErr r B
on-err (Ok x) a f = tt
on-err (Err e) a f = f a

pub on-neither : {E : Type 0} {A B C : Type 0} (r : Result (Unit {0}) E) → OnErr r A → OnErr r B → (A → B → C) → OnErr r C
on-neither (Ok x) a b f = tt
on-neither (Err e) a b f = f a b
