use Rattle.std.proofs.Common.{◌≡◌, ℕ, zero, suc, ◌+◌, ◌<◌, List, [], ◌∷◌, sym, ap, subst, ◌∙◌, drop, length, get_or, arith}
use Rattle.std.proofs.Math.Seq.{drop-cons, drop-length}
use Rattle.std.specs.List.{AllByRecursion}
use Rattle.plain_list.specs.declared.ops.Op.{Op}
use Rattle.plain_list.specs.declared.ops.Op.TheVariants.{Put}
use Rattle.point_table.specs.Plans.{plan_of}
use Rattle.point_table.specs.Splits.{splits_of}
use Rattle.point_table.specs.Updates.{IsUpdate}
use Rattle.point_table.proofs.PlanSteps.{PlansSoFar, so_far_none, so_far_next, so_far_all}
use Rattle.point_table.proofs.table.PointTable.answers.Goals as goal

-- what a read behind the end would give
abbrev beyond : Op
beyond = Put 0 (record { x = 0; y = 0 }) 0

one_more : (i : ℕ) → suc i ≡ i + 1
one_more i = omega arith

update_at : (ops : List Op) (i : ℕ) → AllByRecursion IsUpdate ops → i < length ops → IsUpdate (get_or ops i beyond)
update_at [] i all less = absurd (omega (arith, less))
update_at (op ∷ ops) zero all less = all.0
update_at (op ∷ ops) (suc i) all less = update_at ops i all.1 (omega (arith, less))

pub loop-op-preserved : goal.loop-op-preserved
loop-op-preserved g c =
    let ops = c.args.ops.now in
    let i = c.loop-op.op-index in
    let op = get_or ops i beyond in
    let old = plan_of g.I.Index.leaves c.loop-op.plan in
    let new = plan_of g.I.Index.leaves c.answer.new.plan in
    let a = c.in_ok-or_memory.field-0 in
    let w = g.I.Index.WIDTH in
    let splits = splits_of c.args.begun.now in
    let table = c.args.self.now in
    let rest_is : drop i ops ≡ op ∷ drop (i + 1) ops = drop-cons ops i beyond c.loop-op-test.true ∙ ap (λ j. op ∷ drop j ops) (one_more i) in
    let next = rw c.in_ok-or_memory.ensures at c.answer.ensures in
    subst (PlansSoFar w splits table ops (drop (i + 1) ops) new) (sym c.in_ok-push.ensures.items)
    (so_far_next w splits table ops (drop i ops) (drop (i + 1) ops) op old new c.loop-op.answers.items a c.loop-op.invariant rest_is next)

pub answer-requires-clause-update : goal.answer-requires-clause-update
answer-requires-clause-update g c = update_at c.args.ops.now c.loop-op.op-index c.requires.updates c.loop-op-test.true

pub loop-op-init : goal.loop-op-init
loop-op-init g c =
    let plan = plan_of g.I.Index.leaves c.args.plan.now in
    subst (PlansSoFar g.I.Index.WIDTH (splits_of c.args.begun.now) c.args.self.now c.args.ops.now c.args.ops.now plan) (sym c.new-answers.ensures.items)
    (so_far_none g.I.Index.WIDTH (splits_of c.args.begun.now) c.args.self.now c.args.ops.now plan c.requires.planned c.requires.fresh)

pub returns : goal.returns
returns g c =
    let ops = c.args.ops.now in
    let i = c.loop-op.op-index in
    let ended : i ≡ length ops = omega arith in
    so_far_all g.I.Index.WIDTH (splits_of c.args.begun.now) c.args.self.now ops (drop i ops) (plan_of g.I.Index.leaves c.loop-op.plan) c.loop-op.answers.items c.loop-op.invariant
    (ap (λ j. drop j ops) ended ∙ drop-length ops)
