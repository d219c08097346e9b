use Rattle.std.proofs.Common.{◌≡◌, ◌∙◌, List, [], ◌∷◌, length, map, refl, sym, ap, subst, arith}
use Rattle.fence_watch.specs.declared.fences.Fence.{Fence}
use Rattle.fence_watch.specs.Passages.{Charts}
use Rattle.fence_watch.specs.Counts.{fences_counted, uncounted}
use Rattle.fence_watch.proofs.tally.Tally.new.Goals as goal

none-counted : (fences : List Fence) → fences_counted (map uncounted fences) ≡ fences
none-counted [] = refl
none-counted (f ∷ fences) = ap (λ (l : List Fence). f ∷ l) (none-counted fences)

pub invariant_of-result : goal.invariant_of-result
invariant_of-result c =
    let same : fences_counted c.in_ok-uncounted.field-0.items ≡ c.as_slice-2.result.now =
    ap fences_counted c.in_ok-uncounted.ensures ∙ none-counted c.as_slice.result.now ∙ c.as_slice.ensures.fences ∙ sym c.as_slice-2.ensures.fences in
    record {
      charts = subst (λ (l : List Fence). Charts l c.in_ok-new.field-0) (sym same) c.in_ok-new.ensures;
      few = omega (arith, ap length same, ap length c.as_slice-2.ensures.fences, c.as_slice-2.ensures.rules.most);
      events = omega (arith, ap length c.new-2.ensures.items);
    }

pub returns : goal.returns
returns c =
    let counts = c.in_ok-uncounted.ensures ∙ ap (λ (l : List Fence). map uncounted l) c.as_slice.ensures.fences in
    record {
      follows = record { rising = tt; few = omega arith; events = c.new-2.ensures.items; counts = counts };
      changes = record { rising = tt; few = omega arith; events = c.new-2.ensures.items; counts = counts };
    }
