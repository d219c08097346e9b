use Rattle.std.proofs.Common.{◌≡◌, ◌∙◌, ◌≤◌, List, map, length, sym, ap, subst, arith}
use Rattle.std.proofs.lemmas.List.{length-map}
use Rattle.plain_list.specs.World.{World, most_members, placed_of}
use Rattle.fence_watch.specs.declared.fences.Fence.{Fence}
use Rattle.fence_watch.specs.Passages.{Charts}
use Rattle.fence_watch.specs.Counts.{fences_counted}
use Rattle.fence_watch.specs.Tallies.{count_in}
use Rattle.fence_watch.proofs.Tallying.{counted-in}
use Rattle.fence_watch.proofs.tally.Tally.over.Goals as goal

pub invariant_of-result : goal.invariant_of-result
invariant_of-result c =
    let same : fences_counted c.in_ok-counted.field-0.items ≡ c.as_slice-3.result.now =
    ap fences_counted c.in_ok-counted.ensures ∙ counted-in _ c.as_slice.result.now ∙ c.as_slice.ensures.fences ∙ sym c.as_slice-3.ensures.fences in
    record {
      charts = subst (λ (l : List Fence). Charts l c.in_ok-new.field-0) (sym same) c.in_ok-new.ensures;
      few = omega (arith, ap length same, ap length c.as_slice-3.ensures.fences, c.as_slice-3.ensures.rules.most);
      events = omega (arith, ap length c.new-2.ensures.items);
    }

pub returns : goal.returns
returns c =
    let world : World = c.args.world.now in
    let counts : c.in_ok-counted.field-0.items ≡ map (count_in world) c.args.fences.now =
    c.in_ok-counted.ensures ∙ (λ i. map (count_in (c.as_slice-2.ensures.members i)) (c.as_slice.ensures.fences i)) in
    let is = c.as_slice-2.ensures.world in
    let few : length world ≤ most_members = omega (arith, is.size, length-map world placed_of) in
    record {
      from = λ at. record { rising = is.rising; few = few; events = c.new-2.ensures.items; counts = counts };
      world = record { rising = is.rising; few = few; counts = counts };
      changes = record { rising = is.rising; few = few; events = c.new-2.ensures.items; counts = counts };
    }
