use Rattle.std.proofs.Common.{◌∷◌, [], ◌∙◌, ap, refl, arith}
use Rattle.zorder.specs.declared.points.Placed.{Placed}
use Rattle.zorder.specs.Distance.{distance}
use Rattle.zorder.proofs.Places.{IsPoint-point_of}
use Rattle.table_share.specs.Objects.{placed_of}
use Rattle.knn_query.specs.Candidates.{object_of}
use Rattle.knn_query.specs.Passes.{IsOut}
use Rattle.knn_query.proofs.Keeping.{beyond-passes, left-out, out-beyond, outside-kept, reach-kept}
use Rattle.knn_query.proofs.ranking.add_row.Goals as goal

pub returns-then-leaves_out-clause-passes : goal.returns-then-leaves_out-clause-passes
returns-then-leaves_out-clause-passes c =
    let m = placed_of c.args.row.now in
    let out : IsOut c.args.kept.now m = left-out c.args.within.now c.args.row.now.key m c.args.kept.now c.requires.reach (c.leaves_out.ensures c.if-leaves_out.true) (IsPoint-point_of c.args.row.now.key) refl in
    beyond-passes m c.args.kept.now c.requires.held (out-beyond m c.args.kept.now c.requires.held out)

pub returns-then-leaves_out-clause-beyond : goal.returns-then-leaves_out-clause-beyond
returns-then-leaves_out-clause-beyond c _ =
    let m = placed_of c.args.row.now in
    let out : IsOut c.args.kept.now m = left-out c.args.within.now c.args.row.now.key m c.args.kept.now c.requires.reach (c.leaves_out.ensures c.if-leaves_out.true) (IsPoint-point_of c.args.row.now.key) refl in
    out-beyond m c.args.kept.now c.requires.held out

pub returns-then-within-one-clause-passes : goal.returns-then-within-one-clause-passes
returns-then-within-one-clause-passes c =
    let m = placed_of c.args.row.now in
    let same = ap (λ (n : Placed). distance n.at c.args.kept.now.from) (c.new-one.ensures.object ∙ c.placed.ensures) in
    let out : IsOut c.args.kept.now m = c.requires.reach.farther m (IsPoint-point_of c.args.row.now.key) (omega (arith, c.if-within-one.true, c.new-one.ensures.measured, same)) in
    beyond-passes m c.args.kept.now c.requires.held (out-beyond m c.args.kept.now c.requires.held out)

pub returns-then-within-one-clause-beyond : goal.returns-then-within-one-clause-beyond
returns-then-within-one-clause-beyond c _ =
    let m = placed_of c.args.row.now in
    let same = ap (λ (n : Placed). distance n.at c.args.kept.now.from) (c.new-one.ensures.object ∙ c.placed.ensures) in
    let out : IsOut c.args.kept.now m = c.requires.reach.farther m (IsPoint-point_of c.args.row.now.key) (omega (arith, c.if-within-one.true, c.new-one.ensures.measured, same)) in
    out-beyond m c.args.kept.now c.requires.held out

pub returns-in-Instead-clause-reach : goal.returns-in-Instead-clause-reach
returns-in-Instead-clause-reach c = record {
  outside = outside-kept c.args.within.now.corners (object_of c.new-one.result ∷ []) c.args.kept.now c.add.new.self c.in_ok-add.ensures.passes c.requires.reach.outside;
  farther = c.farthest-within.ensures;
}

pub returns-in-Beyond-clause-reach : goal.returns-in-Beyond-clause-reach
returns-in-Beyond-clause-reach c = reach-kept c.args.within.now (object_of c.new-one.result ∷ []) c.args.kept.now c.add.new.self c.in_ok-add.ensures.passes c.requires.reach
