use Rattle.std.proofs.Common.{◌≡◌, ◌∙◌, List, [], ◌∷◌, length, map, refl, sym, ap, arith}
use Rattle.fence_watch.specs.declared.fences.Fence.{Fence}
use Rattle.fence_watch.specs.Guards.{guards_of}
use Rattle.fence_watch.specs.Counts.{fences_counted}
use Rattle.fence_watch.specs.Watches.{Guard, fences_of}
use Rattle.fence_watch.proofs.Tallying.{counted-in}
use Rattle.fence_watch.proofs.watch.Watch.new.Goals as goal

abbrev unguarded_by : Fence → Guard
unguarded_by f = record { fence = f; inside = [] }

unguarded : (fences : List Fence) → fences_of (map unguarded_by fences) ≡ fences
unguarded [] = refl
unguarded (f ∷ fences) = ap (λ (l : List Fence). f ∷ l) (unguarded fences)

pub invariant_of-result : goal.invariant_of-result
invariant_of-result c =
    let same : fences_of (guards_of c.in_ok-guard.field-0.items) ≡ c.args.fences =
    ap fences_of c.in_ok-guard.ensures.guards ∙ unguarded c.as_slice.result.now ∙ c.as_slice.ensures.fences in
    record {
      fences = same ∙ sym (counted-in [] c.args.fences) ∙ ap fences_counted (sym c.in_ok-new.ensures.follows.counts);
      rising = c.in_ok-guard.ensures.rising;
      few = omega (arith, ap length same, c.as_slice.ensures.rules.most);
    }

pub returns : goal.returns
returns c = record {
  rising = tt;
  events = c.in_ok-new.ensures.follows.events;
  guards = c.in_ok-guard.ensures.guards ∙ ap (λ (l : List Fence). map unguarded_by l) c.as_slice.ensures.fences;
}
