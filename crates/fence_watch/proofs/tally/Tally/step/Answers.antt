use Rattle.std.proofs.Common.{◌≡◌, ℕ, List, [], ◌∷◌, ◌++◌, length, Option, Some, Result, Ok, Err, OnOk, sym, subst}
use Rattle.cell_format.specs.declared.cell.Cell.{Cell}
use Rattle.plain_list.specs.World.{World}
use Rattle.log_state.specs.Recovers.{state_of}
use Rattle.recovery.specs.declared.walked.Walked.{Walked}
use Rattle.recovery.specs.Walks.{object_of, IsNextWalked}
use Rattle.fence_watch.specs.declared.fences.Fence.{Fence}
use Rattle.fence_watch.specs.declared.fences.Event.{Event}
use Rattle.fence_watch.specs.declared.watch.WatchFault.{WatchFault}
use Rattle.fence_watch.specs.Crossings.{IsNextFrom}
use Rattle.fence_watch.specs.Tallies.{TallyView, Tallies, TalliesBy, TalliesFrom, TalliesCells, IsPastBy}
use Rattle.fence_watch.proofs.Following.{next-behind}
use Rattle.fence_watch.proofs.Tallying.{tallies-next, tallies-step, split-stays, split-within}
use Rattle.fence_watch.proofs.tally.Tally.step.Goals as goal

abbrev GoesOn : Walked → TallyView → TallyView → Type 0
GoesOn walked old new = (w : ℕ) (taken : List Event) (cells : List Cell) (fences : List Fence) → TalliesCells taken cells fences old → IsNextWalked w cells walked → TalliesCells taken (cells ++ walked.cell ∷ []) fences new

abbrev GoesFrom : Walked → TallyView → TallyView → Type 0
GoesFrom walked old new =
    (at : ℕ) (world : World) (taken : List Event) (cells : List Cell) (fences : List Fence) → TalliesFrom at world taken cells fences old → IsNextFrom at world cells walked
    → TalliesFrom at world taken (cells ++ walked.cell ∷ []) fences new

abbrev GoesBehind : Walked → TallyView → TallyView → Type 0
GoesBehind walked old new =
    (w : ℕ) (front : List Cell) (taken : List Event) (cells : List Cell) (fences : List Fence) → TalliesFrom (length front) (state_of w front).world taken cells fences old
    → IsNextWalked w (front ++ cells) walked → TalliesFrom (length front) (state_of w front).world taken (cells ++ walked.cell ∷ []) fences new

-- What follows from a step along a cell.
module _ (walked : Walked) (old new : TallyView) (tallies : Tallies walked old new) where
  on : GoesOn walked old new
  on w taken cells fences t n = tallies-step w taken cells fences walked old new t n tallies

  from : GoesFrom walked old new
  from at world taken cells fences t n = tallies-next at world taken cells fences walked old new t n tallies

  behind : GoesBehind walked old new
  behind w front taken cells fences t n = tallies-next (length front) (state_of w front).world taken cells fences walked old new t (next-behind w front cells walked n) tallies

with_ok : {A B : Type 0} (r : Result (Unit {0}) WatchFault) → OnOk r A → (A → B) → OnOk r B
with_ok (Ok x) a f = f a
with_ok (Err e) a f = tt

-- The same, in terms of the cell.
of_cell : (r : Result (Unit {0}) WatchFault) (walked : Walked) (id : ℕ) (old new : TallyView) → object_of walked.cell ≡ Some id → OnOk r (TalliesBy walked.at (Some id) walked.before walked.after old new) → OnOk r (Tallies walked old new)
of_cell r walked id old new is ok = with_ok r ok (subst (λ (o : Option ℕ). TalliesBy walked.at o walked.before walked.after old new) (sym is))

pub returns : goal.returns
returns c =
    let walked = c.args.walked.now in
    let old = c.args.self.now in
    let is = sym c.in-Some.ensures in
    let ok = of_cell c.moved.result walked c.in-Some.id old c.moved.new.self is c.moved.ensures.ok in
    record {
      ok = ok;
      follows = with_ok c.moved.result ok (on walked old c.moved.new.self);
      from = with_ok c.moved.result ok (from walked old c.moved.new.self);
      behind = with_ok c.moved.result ok (behind walked old c.moved.new.self);
      err = c.moved.ensures.err;
      too_many = (
        (λ e. subst (λ (o : Option ℕ). IsPastBy walked.at o walked.before walked.after old) (sym is) (c.moved.ensures.too_many.0 e)),
        (λ past. c.moved.ensures.too_many.1 (subst (λ (o : Option ℕ). IsPastBy walked.at o walked.before walked.after old) is past)),
      );
    }

pub returns-in_default : goal.returns-in_default
returns-in_default c =
    let walked = c.args.walked.now in
    let old = c.args.self.now in
    let tallies : Tallies walked old old = split-stays walked old (sym c.in_default.ensures) in
    record {
      ok = tallies;
      follows = on walked old old tallies;
      from = from walked old old tallies;
      behind = behind walked old old tallies;
      err = tt;
      too_many = ((λ e. absurd (cc e)), (λ past. absurd (split-within walked old (sym c.in_default.ensures) c.events-events.ensures.few past)));
    }
