use Rattle.std.proofs.Common.{◌≡◌, ◌∙◌, ◌+◌, ◌<◌, ◌==◌, ℕ, Bool, true, false, List, ◌∷◌, length, drop, get_or, cond, Option, Some, ap, sym}
use Rattle.std.proofs.lemmas.Bool.{eq-eqb, eqb-true}
use Rattle.std.proofs.lemmas.List.{drop_more, drop_all}
use Rattle.fence_watch.specs.declared.guards.Guarded.{Guarded}
use Rattle.fence_watch.specs.Guards.{guards_of}
use Rattle.fence_watch.specs.Watches.{WatchView, inside_at}
use Rattle.fence_watch.proofs.Answering.{some-in, none-in, some-follows, none-follows}
use Rattle.fence_watch.proofs.watch.Watch.inside.Goals as goal

abbrev from : ℕ → ℕ → List Guarded → Option (List ℕ)
from fence i guards = inside_at fence (guards_of (drop i guards))

here : (fence i : ℕ) (guards : List Guarded) (g : Guarded) → i < length guards → g ≡ get_or guards i g → g.fence.id ≡ fence → from fence i guards ≡ Some g.inside.items
here fence i guards g lt is same =
    ap (λ (l : List Guarded). inside_at fence (guards_of l)) (drop_more guards i g lt)
    ∙ ap (λ (x : Guarded). inside_at fence (guards_of (x ∷ drop (i + 1) guards))) (sym is)
    ∙ ap (λ b. cond b (Some g.inside.items) (from fence (i + 1) guards)) (eq-eqb g.fence.id fence same)

not_here : (fence i : ℕ) (guards : List Guarded) (g : Guarded) → i < length guards → g ≡ get_or guards i g → (g.fence.id ≡ fence → ⊥) → from fence i guards ≡ from fence (i + 1) guards
not_here fence i guards g lt is other =
    ap (λ (l : List Guarded). inside_at fence (guards_of l)) (drop_more guards i g lt)
    ∙ ap (λ (x : Guarded). inside_at fence (guards_of (x ∷ drop (i + 1) guards))) (sym is)
    ∙ by_test (g.fence.id == fence) (λ e. other (eqb-true g.fence.id fence e))
  where
    by_test : (b : Bool) → (b ≡ true → ⊥) → cond b (Some g.inside.items) (from fence (i + 1) guards) ≡ from fence (i + 1) guards
    by_test true never = absurd (never (λ k. true))
    by_test false never = λ k. from fence (i + 1) guards

pub loop-guard-init : goal.loop-guard-init
loop-guard-init c =
    sym (ap (λ (v : WatchView). inside_at c.args.fence v.guards) c.self.view_is) ∙ ap (λ (l : List Guarded). inside_at c.args.fence (guards_of l)) (sym c.deref-guard-items.ensures.value)

pub returns-then-guard-fence : goal.returns-then-guard-fence
returns-then-guard-fence c =
    let found = c.loop-guard.invariant ∙ here c.args.fence c.loop-guard.guard-index c.deref-guard-items.result.now c.guard-item.result c.loop-guard-test.true c.guard-item.is c.if-guard-fence.true
    ∙ ap (λ (l : List ℕ). Some l) (sym c.as_slice.ensures.value) in
    record { answer = found; follows = λ w cells fences f. some-follows w cells fences c.args.self.now c.args.fence c.as_slice.result.now found f; world = λ world fences h. some-in world fences c.args.self.now c.args.fence c.as_slice.result.now found h.guards }

pub loop-guard-preserved : goal.loop-guard-preserved
loop-guard-preserved c =
    c.loop-guard.invariant ∙ not_here c.args.fence c.loop-guard.guard-index c.deref-guard-items.result.now c.guard-item.result c.loop-guard-test.true c.guard-item.is c.if-guard-fence.false

pub returns : goal.returns
returns c =
    let none = c.loop-guard.invariant ∙ ap (λ (l : List Guarded). inside_at c.args.fence (guards_of l)) (drop_all c.loop-guard.guard-index c.deref-guard-items.result.now c.loop-guard-test.false) in
    record { answer = none; follows = λ w cells fences f. none-follows cells fences c.args.self.now c.args.fence none f; world = λ world fences h. none-in world fences c.args.self.now c.args.fence none h.guards }
