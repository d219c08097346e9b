use Rattle.std.proofs.Common.{◌≡◌, ◌∙◌, ℕ, List, [], ◌∷◌, ◌++◌, map, length, Option, None, Result, Ok, Err, OnOk, refl, sym, ap, subst, arith, append-nil}
use Rattle.zorder.specs.declared.points.Point.{Point}
use Rattle.cell_format.specs.declared.cell.Cell.{Cell}
use Rattle.plain_list.specs.World.{World}
use Rattle.recovery.specs.declared.walked.Walked.{Walked}
use Rattle.recovery.specs.Walks.{object_of, IsNextWalked}
use Rattle.fence_watch.specs.declared.fences.Fence.{Fence}
use Rattle.fence_watch.specs.declared.watch.WatchFault.{WatchFault}
use Rattle.fence_watch.specs.declared.fences.Event.{Event}
use Rattle.fence_watch.specs.Crossings.{crossings_by, IsNextFrom}
use Rattle.fence_watch.specs.Watches.{Guard, WatchView, fences_of, guard_behind, HoldsBefore, Steps, StepsBy, IsOverBy, FollowsFrom, FollowsCells}
use Rattle.fence_watch.proofs.Following.{follows-next, follows-step}
use Rattle.fence_watch.proofs.watch.Watch.step.Goals as goal

abbrev GoesOn : Walked → WatchView → WatchView → Type 0
GoesOn walked old new = (w : ℕ) (cells : List Cell) (fences : List Fence) → FollowsCells cells fences old → IsNextWalked w cells walked → FollowsCells (cells ++ walked.cell ∷ []) fences new

abbrev GoesFrom : Walked → WatchView → WatchView → Type 0
GoesFrom walked old new =
    (at : ℕ) (world : World) (taken : List Event) (cells : List Cell) (fences : List Fence) → FollowsFrom at world taken cells fences old → IsNextFrom at world cells walked
    → FollowsFrom at world taken (cells ++ walked.cell ∷ []) fences new

with_ok : {A B : Type 0} (r : Result (Unit {0}) WatchFault) → OnOk r A → (A → B) → OnOk r B
with_ok (Ok x) a f = f a
with_ok (Err e) a f = tt

on : (walked : Walked) (old new : WatchView) → Steps walked old new → GoesOn walked old new
on walked old new steps w cells fences f n = follows-step w cells fences walked old new f n steps

from : (walked : Walked) (old new : WatchView) → Steps walked old new → GoesFrom walked old new
from walked old new steps at world taken cells fences f n = follows-next at world taken cells fences walked old new f n steps

nothing : (o : Option ℕ) → o ≡ None → (at : ℕ) (before after : Option Point) (fences : List Fence) → crossings_by at o before after fences ≡ []
nothing o e at before after fences = ap (λ (x : Option ℕ). crossings_by at x before after fences) e

same-guards : (guards : List Guard) → guards ≡ map (λ (g : Guard). g) guards
same-guards [] = refl
same-guards (g ∷ guards) = ap (λ (l : List Guard). g ∷ l) (same-guards guards)

nobody : (o : Option ℕ) → o ≡ None → (before after : Option Point) (guards : List Guard) → guards ≡ map (guard_behind o before after) guards
nobody o e before after guards = same-guards guards ∙ ap (λ (x : Option ℕ). map (guard_behind x before after) guards) (sym e)

-- A cell of a split moves no object.
stays : (walked : Walked) (v : WatchView) → object_of walked.cell ≡ None → Steps walked v v
stays walked v none = record {
  events = sym (append-nil v.events) ∙ ap (λ (l : List Event). v.events ++ l) (sym (nothing (object_of walked.cell) none walked.at walked.before walked.after (fences_of v.guards)));
  guards = nobody (object_of walked.cell) none walked.before walked.after v.guards;
}

pub moved-requires : goal.moved-requires
moved-requires c = subst (λ (o : Option ℕ). HoldsBefore o c.args.walked.now.before c.args.self.now.guards) (sym c.in-Some.ensures) c.requires.holds

pub returns : goal.returns
returns c =
    let walked = c.args.walked.now in
    let old = c.args.self.now in
    let is = sym c.in-Some.ensures in
    let ok = with_ok c.moved.result c.moved.ensures.ok (subst (λ (o : Option ℕ). StepsBy walked.at o walked.before walked.after old c.moved.new.self) (sym is)) in
    record {
      ok = ok;
      follows = with_ok c.moved.result ok (on walked old c.moved.new.self);
      from = with_ok c.moved.result ok (from walked old c.moved.new.self);
      err = c.moved.ensures.err;
      too_many = (
        (λ e. subst (λ (o : Option ℕ). IsOverBy walked.at o walked.before walked.after old) (sym is) (c.moved.ensures.too_many.0 e)),
        (λ over. c.moved.ensures.too_many.1 (subst (λ (o : Option ℕ). IsOverBy walked.at o walked.before walked.after old) is over)),
      );
    }

pub returns-in_default : goal.returns-in_default
returns-in_default c =
    let walked = c.args.walked.now in
    let old = c.args.self.now in
    let none = sym c.in_default.ensures in
    let steps : Steps walked old old = stays walked old none in
    record {
      ok = steps;
      follows = on walked old old steps;
      from = from walked old old steps;
      err = tt;
      too_many = (
        (λ e. absurd (cc e)),
        (λ over. absurd (omega (arith, over, ap length (nothing (object_of walked.cell) none walked.at walked.before walked.after (fences_of old.guards)), c.events-events.ensures.few))),
      );
    }
