use Rattle.std.proofs.Common.{◌≡◌, ◌∙◌, ◌++◌, List, length, map, take, drop, OnOk, OnErr, ℕ, Option, Result, Ok, Err, Some, refl, sym, ap, subst}
use Rattle.zorder.specs.declared.points.Point.{Point}
use Rattle.plain_list.specs.declared.ops.Op.{Op}
use Rattle.plain_list.specs.World.{World}
use Rattle.plain_list.specs.Answer.{answer_of, after_of}
use Rattle.fence_watch.specs.declared.watch.WatchFault.{WatchFault}
use Rattle.fence_watch.specs.declared.fences.Fence.{Fence}
use Rattle.fence_watch.specs.declared.guards.Guarded.{Guarded}
use Rattle.fence_watch.specs.Guards.{AllRising, guards_of, guards_along}
use Rattle.fence_watch.specs.Kept.{Keeps}
use Rattle.fence_watch.specs.Passages.{ShowsPassage, turns_of}
use Rattle.fence_watch.specs.Tallies.{TallyView, IsStepOf}
use Rattle.fence_watch.specs.Watches.{Guard, WatchView, HoldsBefore, HoldsWorld, StepsBy, IsOverBy, guard_behind}
use Rattle.fence_watch.proofs.Guarding.{past-over, over-past, steps-over, keeps-either, on-ok, on-both, on-err, on-neither}
use Rattle.fence_watch.proofs.Passing.{guards-shown}
use Rattle.fence_watch.proofs.Tallying.{rewritten}
use Rattle.fence_watch.proofs.WorldSteps.{holds-step}
use Rattle.fence_watch.proofs.watch.Watch.moved.Goals as goal

pub pass-requires-clause-rising : goal.pass-requires-clause-rising
pass-requires-clause-rising c = subst (λ (l : List Guarded). AllRising (guards_of l)) (sym c.deref_mut.ensures.value) c.self.invariant.rising

pub invariant_of-self : goal.invariant_of-self
invariant_of-self c =
    let p = c.passage-passage.result in
    let guards : List Guard = guards_of c.self.inside.guards.items in
    let t : TallyView = c.self.inside.tally in
    let keeps : Keeps guards t = c.self.invariant in
    let r = c.pass.result in
    let new : List Guard = guards_of (take c.self.inside.guards.len (c.pass.new.guards ++ drop (length c.pass.new.guards) c.self.inside.guards.items)) in
    let kept : new ≡ guards_of c.pass.new.guards = ap guards_of (rewritten c.self.inside.guards.len c.pass.new.guards c.self.inside.guards.items (c.pass.auto.guards ∙ c.deref_mut.ensures.len)) in
    let behind : OnOk r (new ≡ map (guard_behind (Some c.args.id) c.args.before c.args.after) guards) =
    on-ok r c.pass.ensures.guards
    (λ is. kept ∙ is ∙ ap (λ (l : List Guarded). guards_along c.args.id (guards_of l) (turns_of p)) c.deref_mut.ensures.value
    ∙ guards-shown c.args.id (Some c.args.id) c.args.before c.args.after guards p refl keeps.few (subst (λ (fs : List Fence). ShowsPassage c.args.before c.args.after fs p) (sym keeps.fences) c.passage-passage.ensures)) in
    let same : OnErr r (new ≡ guards) = on-err r c.pass.ensures.same_guards (λ is. kept ∙ is ∙ ap guards_of c.deref_mut.ensures.value) in
    keeps-either r c.args.at (Some c.args.id) c.args.before c.args.after guards new t c.pass.new.tally keeps (subst (λ (x : WatchView). HoldsBefore (Some c.args.id) c.args.before x.guards) (sym c.self.view_is) c.requires) behind c.pass.ensures.tally same c.pass.ensures.same_tally

pub returns-clause-ok : goal.returns-clause-ok
returns-clause-ok c =
    let p = c.passage-passage.result in
    let guards : List Guard = guards_of c.self.inside.guards.items in
    let t : TallyView = c.self.inside.tally in
    let keeps : Keeps guards t = c.self.invariant in
    let r = c.pass.result in
    let new : List Guard = guards_of (take c.self.inside.guards.len (c.pass.new.guards ++ drop (length c.pass.new.guards) c.self.inside.guards.items)) in
    let kept : new ≡ guards_of c.pass.new.guards = ap guards_of (rewritten c.self.inside.guards.len c.pass.new.guards c.self.inside.guards.items (c.pass.auto.guards ∙ c.deref_mut.ensures.len)) in
    let behind : OnOk r (new ≡ map (guard_behind (Some c.args.id) c.args.before c.args.after) guards) =
    on-ok r c.pass.ensures.guards
    (λ is. kept ∙ is ∙ ap (λ (l : List Guarded). guards_along c.args.id (guards_of l) (turns_of p)) c.deref_mut.ensures.value
    ∙ guards-shown c.args.id (Some c.args.id) c.args.before c.args.after guards p refl keeps.few (subst (λ (fs : List Fence). ShowsPassage c.args.before c.args.after fs p) (sym keeps.fences) c.passage-passage.ensures)) in
    on-both r behind c.pass.ensures.tally
    (λ is tallies. subst (λ (x : WatchView). StepsBy c.args.at (Some c.args.id) c.args.before c.args.after x (record { guards = new; events = c.pass.new.tally.events })) c.self.view_is (steps-over c.args.at (Some c.args.id) c.args.before c.args.after guards t keeps.fences new c.pass.new.tally is tallies))

pub returns-clause-err : goal.returns-clause-err
returns-clause-err c =
    let guards : List Guard = guards_of c.self.inside.guards.items in
    let r = c.pass.result in
    let new : List Guard = guards_of (take c.self.inside.guards.len (c.pass.new.guards ++ drop (length c.pass.new.guards) c.self.inside.guards.items)) in
    let kept : new ≡ guards_of c.pass.new.guards = ap guards_of (rewritten c.self.inside.guards.len c.pass.new.guards c.self.inside.guards.items (c.pass.auto.guards ∙ c.deref_mut.ensures.len)) in
    let same : OnErr r (new ≡ guards) = on-err r c.pass.ensures.same_guards (λ is. kept ∙ is ∙ ap guards_of c.deref_mut.ensures.value) in
    on-neither r same c.pass.ensures.same_tally (λ is stays. (λ i. record { guards = is i; events = (stays i).events }) ∙ c.self.view_is)

pub returns-clause-too_many : goal.returns-clause-too_many
returns-clause-too_many c =
    let guards : List Guard = guards_of c.self.inside.guards.items in
    let t : TallyView = c.self.inside.tally in
    let keeps : Keeps guards t = c.self.invariant in (
      (λ e. subst (λ (x : WatchView). IsOverBy c.args.at (Some c.args.id) c.args.before c.args.after x) c.self.view_is (over-past c.args.at (Some c.args.id) c.args.before c.args.after guards t keeps.fences (c.pass.ensures.too_many.0 e))),
      (λ over. c.pass.ensures.too_many.1 (past-over c.args.at (Some c.args.id) c.args.before c.args.after guards t keeps.fences (subst (λ (x : WatchView). IsOverBy c.args.at (Some c.args.id) c.args.before c.args.after x) (sym c.self.view_is) over))),
    )

abbrev KeepsWorlds : ℕ → Option Point → Option Point → WatchView → WatchView → Type 0
KeepsWorlds id before after old new = (world : World) (op : Op) (fences : List Fence) → HoldsWorld world fences old → IsStepOf id before after op (answer_of world op) → HoldsWorld (after_of world op) fences new

keeps : (r : Result (Unit {0}) WatchFault) (at id : ℕ) (before after : Option Point) (old new : WatchView) → OnOk r (StepsBy at (Some id) before after old new) → OnOk r (KeepsWorlds id before after old new)
keeps (Ok x) at id before after old new steps = λ world op fences holds step. holds-step world op fences at id before after old new holds step steps
keeps (Err e) at id before after old new steps = tt

pub returns-clause-world : goal.returns-clause-world
returns-clause-world c = keeps c.pass.result c.args.at c.args.id c.args.before c.args.after c.args.self.now _ (returns-clause-ok c)
