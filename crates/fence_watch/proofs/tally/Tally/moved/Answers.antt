use Rattle.std.proofs.Common.{ℕ, List, Result, Ok, Err, Option, Some, OnOk}
use Rattle.zorder.specs.declared.points.Point.{Point}
use Rattle.plain_list.specs.declared.ops.Op.{Op}
use Rattle.plain_list.specs.World.{World}
use Rattle.plain_list.specs.Answer.{answer_of, after_of}
use Rattle.fence_watch.specs.declared.fences.Fence.{Fence}
use Rattle.fence_watch.specs.declared.watch.WatchFault.{WatchFault}
use Rattle.fence_watch.specs.Tallies.{TallyView, TalliesBy, FollowsWorld, IsStepOf}
use Rattle.fence_watch.proofs.WorldSteps.{follows-on}
use Rattle.fence_watch.proofs.tally.Tally.moved.Goals as goal

abbrev KeepsWorlds : ℕ → Option Point → Option Point → TallyView → TallyView → Type 0
KeepsWorlds id before after old new = (world : World) (op : Op) (fences : List Fence) → FollowsWorld world fences old → IsStepOf id before after op (answer_of world op) → FollowsWorld (after_of world op) fences new

keeps : (r : Result (Unit {0}) WatchFault) (at id : ℕ) (before after : Option Point) (old new : TallyView) → OnOk r (TalliesBy at (Some id) before after old new) → OnOk r (KeepsWorlds id before after old new)
keeps (Ok x) at id before after old new tallies = λ world op fences follows step. follows-on world op fences at id before after old new follows step tallies
keeps (Err e) at id before after old new tallies = tt

pub returns-clause-world : goal.returns-clause-world
returns-clause-world c = keeps c.pass.result c.args.at c.args.id c.args.before c.args.after c.args.self.now c.pass.new.self c.pass.ensures.ok
