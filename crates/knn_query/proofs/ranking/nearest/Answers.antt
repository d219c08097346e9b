use Rattle.std.proofs.Common.{◌≡◌, ◌∙◌, [], List, length, take, sym, ap, subst, arith}
use Rattle.std.proofs.lemmas.List.{take-take}
use Rattle.zorder.specs.declared.points.Point.{Point}
use Rattle.index_layer.specs.Leaves.{Leaf}
use Rattle.plain_list.specs.Queries.{ranked}
use Rattle.plain_list.specs.AtPlaces.{AreOf}
use Rattle.knn_query.specs.Ahead.{OpensNear}
use Rattle.knn_query.specs.Passes.{held}
use Rattle.knn_query.proofs.Passing.{take-none}
use Rattle.knn_query.proofs.Steps.{opens-some}
use Rattle.knn_query.proofs.ranking.nearest.Goals as goal

pub returns-clause-objects : goal.returns-clause-objects
returns-clause-objects g c places names are_places stands =
    let p = c.args.from in
    let k = c.args.k in
    let kept = c.in_ok-kept.kept in
    let keeps = c.in_ok-kept.ensures.keeps places names are_places stands in
    let from_is : kept.from ≡ p = c.in_ok-kept.ensures.kept.0 ∙ c.in_ok-none.ensures.from in
    let k_is : kept.k ≡ k = c.in_ok-kept.ensures.kept.1 ∙ c.in_ok-none.ensures.k_is in
    let items = held kept in
    let nearest : take k (take k (ranked p items)) ≡ take k (ranked p places) =
    subst (λ (q : Point). take k (take k (ranked q items)) ≡ take k (ranked q places)) c.in_ok-none.ensures.from
    (subst (λ j. take j (take j (ranked c.in_ok-none.none.from items)) ≡ take j (ranked c.in_ok-none.none.from places)) c.in_ok-none.ensures.k_is keeps.nearest) in
    c.in_ok-into_list.ensures places keeps.are_of ∙ (λ i. take (k_is i) (ranked (from_is i) items)) ∙ sym (take-take k k (ranked p items) (omega arith)) ∙ nearest

pub returns-in_err-kept-clause-near : goal.returns-in_err-kept-clause-near
returns-in_err-kept-clause-near g c places names are_places stands =
    let leaves : List Leaf = g.I.Index.leaves c.args.index.now in
    subst (λ q. OpensNear q c.args.k leaves c.args.steps.now c.keep_nearest.new.steps places) c.in_ok-none.ensures.from
    (subst (λ j. OpensNear c.in_ok-none.none.from j leaves c.args.steps.now c.keep_nearest.new.steps places) c.in_ok-none.ensures.k_is (c.keep_nearest.ensures.near places names are_places stands))

pub returns-clause-near : goal.returns-clause-near
returns-clause-near g c places names are_places stands =
    let leaves : List Leaf = g.I.Index.leaves c.args.index.now in
    subst (λ q. OpensNear q c.args.k leaves c.args.steps.now c.keep_nearest.new.steps places) c.in_ok-none.ensures.from
    (subst (λ j. OpensNear c.in_ok-none.none.from j leaves c.args.steps.now c.keep_nearest.new.steps places) c.in_ok-none.ensures.k_is (c.keep_nearest.ensures.near places names are_places stands))

pub returns-in_err-into_list-clause-near : goal.returns-in_err-into_list-clause-near
returns-in_err-into_list-clause-near g c places names are_places stands =
    let leaves : List Leaf = g.I.Index.leaves c.args.index.now in
    subst (λ q. OpensNear q c.args.k leaves c.args.steps.now c.keep_nearest.new.steps places) c.in_ok-none.ensures.from
    (subst (λ j. OpensNear c.in_ok-none.none.from j leaves c.args.steps.now c.keep_nearest.new.steps places) c.in_ok-none.ensures.k_is (c.keep_nearest.ensures.near places names are_places stands))

pub returns-clause-some : goal.returns-clause-some
returns-clause-some g c some =
    let kept = c.in_ok-kept.kept in
    let none : c.keep_nearest.new.steps ≡ c.args.steps.now → length c.in_ok-into_list.field-0 ≡ 0 = λ same.
    let empty : held kept ≡ [] = c.in_ok-kept.ensures.some.1 same in
    let are : AreOf [] (held kept) = subst (AreOf []) (sym empty) (λ i d lt. absurd (omega (arith, lt))) in
    let list : c.in_ok-into_list.field-0 ≡ take kept.k (ranked kept.from []) = c.in_ok-into_list.ensures [] are ∙ ap (λ ms. take kept.k (ranked kept.from ms)) empty in
    ap length (list ∙ take-none kept.k) in
    opens-some c.args.steps.now c.keep_nearest.new.steps (length c.in_ok-into_list.field-0) c.in_ok-kept.ensures.some.0 none some
