use Rattle.std.proofs.Common.{ℕ, List, [], ◌∷◌, ◌++◌, Option, Result, subst}
use Rattle.std.specs.Result.{OnOk}
use Rattle.cell_format.specs.declared.cell.Cell.{Cell}
use Rattle.recovery.specs.declared.seen.OpenFault.{OpenFault}
use Rattle.recovery.specs.declared.walked.Walked.{Walked}
use Rattle.recovery.specs.Walks.{IsNextWalked, TellsWalked}
use Rattle.fence_watch.specs.declared.fences.Fence.{Fence}
use Rattle.fence_watch.specs.declared.watch.WatchFault.{WatchFault}
use Rattle.fence_watch.specs.Watches.{FollowsCells}
use Rattle.fence_watch.proofs.Following.{holds-next}
use Rattle.crate_tests.proofs.fences.go_along.Goals as goal

pub loop-init : goal.loop-init
loop-init g c = c.requires

pub step-requires : goal.step-requires
step-requires g c =
    let drive = g.D.LogDisk.drive in
    let cells : List Cell = c.loop.invariant.0 in
    let told = c.next.ensures.tells 1 9 cells c.loop.invariant.2 in
    let next = subst (λ (r : Result (Option Walked) OpenFault). TellsWalked 1 9 cells (drive c.loop.walk.disk) (drive c.next.new.self.disk) c.next.new.self r)
    c.in-Some.ensures told in
    record { holds = holds-next 1 cells c.loop.invariant.1 c.in-Some.walked c.loop.watch c.loop.invariant.3 next.1 }

pub loop-preserved : goal.loop-preserved
loop-preserved g c =
    let drive = g.D.LogDisk.drive in
    let walked = c.in-Some.walked in
    let cells : List Cell = c.loop.invariant.0 in
    let fences : List Fence = c.loop.invariant.1 in
    let told = c.next.ensures.tells 1 9 cells c.loop.invariant.2 in
    let next = subst (λ (r : Result (Option Walked) OpenFault). TellsWalked 1 9 cells (drive c.loop.walk.disk) (drive c.next.new.self.disk) c.next.new.self r)
    c.in-Some.ensures told in
    let follows = subst (λ (r : Result _ WatchFault). OnOk r ((w : ℕ) (cells : List Cell) (fences : List Fence) → FollowsCells cells fences c.loop.watch
    → IsNextWalked w cells walked → FollowsCells (cells ++ walked.cell ∷ []) fences c.step.new.self)) c.expect-in-Some.ensures c.step.ensures.follows in
    (cells ++ walked.cell ∷ [], fences, next.0, follows 1 cells fences c.loop.invariant.3 next.1)
