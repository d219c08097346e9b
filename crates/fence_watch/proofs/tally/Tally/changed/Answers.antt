use Rattle.std.proofs.Common.{◌≡◌, List, [], ◌∷◌, ◌++◌, Result, Ok, Err, Some, OnOk}
use Rattle.plain_list.specs.declared.object_changes.Change.{Change}
use Rattle.plain_list.specs.declared.ops.Op.{Op}
use Rattle.plain_list.specs.World.{World}
use Rattle.plain_list.specs.Answer.{answer_of, after_of}
use Rattle.plain_list.specs.Changes.{change_of}
use Rattle.fence_watch.specs.declared.fences.Event.{Event}
use Rattle.fence_watch.specs.declared.fences.Fence.{Fence}
use Rattle.fence_watch.specs.declared.watch.WatchFault.{WatchFault}
use Rattle.fence_watch.specs.Tallies.{TallyView, TalliesBy, FollowsWorld}
use Rattle.fence_watch.specs.Told.{TalliesChanges}
use Rattle.fence_watch.proofs.HistorySteps.{tallies-change}
use Rattle.fence_watch.proofs.WorldSteps.{follows-on}
use Rattle.fence_watch.proofs.tally.Tally.changed.Goals as goal

-- What follows from a step that is a change.
module _ (c : Change) (old new : TallyView) where
  abbrev KeepsWorlds : Type 0
  KeepsWorlds = (world : World) (op : Op) (fences : List Fence) → FollowsWorld world fences old → change_of c.place op (answer_of world op) ≡ Some c → FollowsWorld (after_of world op) fences new

  abbrev KeepsChanges : Type 0
  KeepsChanges =
      (world : World) (taken : List Event) (changes : List Change) (fences : List Fence) → TalliesChanges world taken changes fences old → TalliesChanges world taken (changes ++ c ∷ []) fences new

  worlds : (r : Result (Unit {0}) WatchFault) → OnOk r (TalliesBy c.place (Some c.id) c.before c.after old new) → OnOk r KeepsWorlds
  worlds (Ok x) tallies = λ world op fences follows is. follows-on world op fences c.place c.id c.before c.after old new follows (c.place, is) tallies
  worlds (Err e) tallies = tt

  changes : (r : Result (Unit {0}) WatchFault) → OnOk r (TalliesBy c.place (Some c.id) c.before c.after old new) → OnOk r KeepsChanges
  changes (Ok x) tallies = λ world taken changes fences t. tallies-change world taken changes fences c old new t tallies
  changes (Err e) tallies = tt

pub returns-clause-world : goal.returns-clause-world
returns-clause-world c = worlds c.args.change.now c.args.self.now c.moved.new.self c.moved.result c.moved.ensures.ok

pub returns-clause-changes : goal.returns-clause-changes
returns-clause-changes c = changes c.args.change.now c.args.self.now c.moved.new.self c.moved.result c.moved.ensures.ok
