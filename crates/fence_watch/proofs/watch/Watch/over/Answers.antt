use Rattle.std.proofs.Common.{◌≡◌, ◌∙◌, List, [], ◌∷◌, map, length, sym, ap, subst, arith}
use Rattle.plain_list.specs.Places.{IsRising}
use Rattle.plain_list.specs.World.{World, places_of}
use Rattle.fence_watch.specs.declared.fences.Fence.{Fence}
use Rattle.fence_watch.specs.Guards.{AllRising, guards_of}
use Rattle.fence_watch.specs.Counts.{fences_counted}
use Rattle.fence_watch.specs.Watches.{fences_of, guard_in}
use Rattle.fence_watch.proofs.Following.{fences-in}
use Rattle.fence_watch.proofs.Tallying.{counted-in, inside-rising}
use Rattle.fence_watch.proofs.watch.Watch.over.Goals as goal

all-rising : (world : World) (fences : List Fence) → IsRising (places_of world) → AllRising (map (guard_in world) fences)
all-rising world [] rising = tt
all-rising world (f ∷ fences) rising = (inside-rising f world rising, all-rising world fences rising)

pub invariant_of-result : goal.invariant_of-result
invariant_of-result c =
    let world : World = c.args.world.now in
    let guards : guards_of c.in_ok-guard_over.field-0.items ≡ map (guard_in world) c.args.fences =
    c.in_ok-guard_over.ensures ∙ (λ i. map (guard_in (c.as_slice-2.ensures.members i)) (c.as_slice.ensures.fences i)) in
    let same : fences_of (guards_of c.in_ok-guard_over.field-0.items) ≡ c.args.fences = ap fences_of guards ∙ fences-in world c.args.fences in
    record {
      fences = same ∙ sym (counted-in world c.args.fences) ∙ ap fences_counted (sym c.in_ok-over.ensures.world.counts);
      rising = subst AllRising (sym guards) (all-rising world c.args.fences c.as_slice-2.ensures.world.rising);
      few = omega (arith, ap length same, c.as_slice.ensures.rules.most);
    }

pub returns : goal.returns
returns c =
    let world : World = c.args.world.now in
    let guards : guards_of c.in_ok-guard_over.field-0.items ≡ map (guard_in world) c.args.fences =
    c.in_ok-guard_over.ensures ∙ (λ i. map (guard_in (c.as_slice-2.ensures.members i)) (c.as_slice.ensures.fences i)) in
    record {
      from = λ at. record { rising = c.as_slice-2.ensures.world.rising; events = (c.in_ok-over.ensures.from at).events; guards = guards };
      world = record { rising = c.as_slice-2.ensures.world.rising; guards = guards };
    }
