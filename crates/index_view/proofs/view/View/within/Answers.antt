use Rattle.std.proofs.Common.{◌≡◌, ◌++◌, ◌∙◌, List, ap, subst, rules}
use Rattle.std.specs.List.Sorted.{IsPermutation}
use Rattle.std.proofs.lemmas.Fn.{always_returns_same}
use Rattle.std.proofs.lemmas.List.Sorted.{IsPermutation-trans}
use Rattle.zorder.specs.declared.points.Placed.{Placed}
use Rattle.plain_list.specs.Queries.{members_in}
use Rattle.range_query.proofs.InOrder.{same_as_rising, IsRising-members_in}
use Rattle.index_view.proofs.Gatherings.{all_gathered}
use Rattle.index_view.proofs.view.View.within.Goals as goal

pub returns : goal.returns
returns g c places names are_places stands =
    let region = c.args.region.now in
    let ys : List Placed = c.sort_unstable_by_key.new.self.items in
    let all = c.for_each_in.ensures places names are_places stands in
    let met = all_gathered c.in_ok-gathered.gathered all.objects c.for_each_in.new.visitor all.visits c.if-gathered.false in
    let found : c.for_each_in.new.visitor.objects.items ≡ all.objects = met.1 ∙ ap (λ (ms : List Placed). ms ++ all.objects) c.in_ok-gathered.ensures in
    let moved : IsPermutation all.objects ys = subst (λ (ms : List Placed). IsPermutation ms ys) found c.sort_unstable_by_key.ensures.permutation in
    let perm : IsPermutation (members_in region places) ys = IsPermutation-trans (members_in region places) all.objects ys all.each moved in
    let sorted = c.sort_unstable_by_key.ensures.sorted (λ m. m.id) (always_returns_same _ _ _ (λ a r q k. search rules)) in
    c.from_vec.ensures ∙ same_as_rising (members_in region places) ys (IsRising-members_in region places are_places.rising) perm sorted
