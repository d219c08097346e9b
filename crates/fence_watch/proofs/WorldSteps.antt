-- A tally that follows a world, after an operation that changed an object.
use Rattle.std.proofs.Common.{◌≡◌, ℕ, Bool, true, false, List, [], ◌∷◌, Option, Some, None, refl, sym, ◌∙◌, ap, subst, cond}
use Rattle.std.specs.Prelude.{nat_lt}
use Rattle.std.specs.Option.{option_map, option_map_or}
use Rattle.std.proofs.lemmas.Bool.{eq-eqb}
use Rattle.std.proofs.lemmas.Option.{same_Some}
use Rattle.zorder.specs.declared.points.Point.{Point}
use Rattle.cell_format.specs.declared.cell.Cell.{Cell}
use Rattle.cell_format.specs.declared.cell.Cell.TheVariants as cell
use Rattle.plain_list.specs.declared.world.Member.{Member}
use Rattle.plain_list.specs.declared.world.Stamped.{Stamped}
use Rattle.plain_list.specs.declared.object_changes.Change.{Change}
use Rattle.plain_list.specs.declared.ops.Op.{Op}
use Rattle.plain_list.specs.declared.ops.Op.TheVariants as op
use Rattle.plain_list.specs.declared.ops.Answer.TheVariants.{Done, Present, Full, Moved, Stale, Gone, Absent}
use Rattle.plain_list.specs.World.{World, position_of, stamped_of, is_full}
use Rattle.plain_list.specs.Answer.{with_member, with_moved, without, is_change, moved_or_stale, answer_of, after_of}
use Rattle.plain_list.proofs.Members.{position_of-with_member, position_of-without}
use Rattle.recovery.specs.Walks.{object_of, place_in}
use Rattle.fence_watch.specs.declared.fences.Fence.{Fence}
use Rattle.fence_watch.specs.Crossings.{world_behind}
use Rattle.fence_watch.specs.Tallies.{TallyView, TalliesBy, FollowsWorld, IsStepOf}
use Rattle.fence_watch.specs.Watches.{WatchView, HoldsBefore, HoldsWorld, StepsBy}
use Rattle.fence_watch.proofs.Following.{holds-world, moved-there, rising-after, steps-guards}
use Rattle.fence_watch.proofs.Tallying.{few-after, tallies-counts}

-- An object, with its positions in a world and in the next one.
record AreAt (world next : World) (object id : ℕ) (before after : Option Point) : Type 0 where
  same : object ≡ id
  before_is : before ≡ place_in world (Some object)
  after_is : after ≡ place_in next (Some object)

abbrev at_of : Option Stamped → Option Point
at_of o = option_map (λ (s : Stamped). s.at) o

put-at : (m : Member) (world : World) (id : ℕ) (before after : Option Point) (o : Option Stamped) → position_of world m.id ≡ o → (full : Bool)
    → IsStepOf id before after (op.Put m.id m.at m.moment) (option_map_or Present o (cond full Full Done))
    → AreAt world (cond (is_change (option_map_or Present o (cond full Full Done))) (with_member m world) world) m.id id before after
put-at m world id before after (Some p) e full step = absurd (cc step.1)
put-at m world id before after None e true step = absurd (cc step.1)
put-at m world id before after None e false step =
    let there : position_of (with_member m world) m.id ≡ Some (stamped_of m) =
    position_of-with_member m world m.id e ∙ ap (λ b. cond b (Some (stamped_of m)) (position_of world m.id)) (eq-eqb m.id m.id refl) in
    let same = same_Some _ _ step.1 in
    record { same = ap (λ (c : Change). c.id) same; before_is = sym (ap (λ (c : Change). c.before) same) ∙ ap at_of (sym e); after_is = sym (ap (λ (c : Change). c.after) same) ∙ ap at_of (sym there) }

move-at : (object : ℕ) (to : Stamped) (world : World) (id : ℕ) (before after : Option Point) (o : Option Stamped) → position_of world object ≡ o
    → IsStepOf id before after (op.Move object to.at to.moment) (option_map_or (moved_or_stale to.moment) o Absent)
    → AreAt world (cond (is_change (option_map_or (moved_or_stale to.moment) o Absent)) (with_moved object to world) world) object id before after
move-at object to world id before after None e step = absurd (cc step.1)
move-at object to world id before after (Some p) e step = by_moment (nat_lt to.moment p.moment) step
  where
    by_moment : (late : Bool) → IsStepOf id before after (op.Move object to.at to.moment) (cond late (Stale p) (Moved p))
        → AreAt world (cond (is_change (cond late (Stale p) (Moved p))) (with_moved object to world) world) object id before after
    by_moment true late = absurd (cc late.1)
    by_moment false step =
        let same = same_Some _ _ step.1 in
        record { same = ap (λ (c : Change). c.id) same; before_is = sym (ap (λ (c : Change). c.before) same) ∙ ap at_of (sym e); after_is = sym (ap (λ (c : Change). c.after) same) ∙ ap at_of (sym (moved-there object to p world e)) }

drop-at : (object : ℕ) (world : World) (id : ℕ) (before after : Option Point) (o : Option Stamped) → position_of world object ≡ o
    → IsStepOf id before after (op.Remove object) (option_map_or Gone o Absent)
    → AreAt world (cond (is_change (option_map_or Gone o Absent)) (without object world) world) object id before after
drop-at object world id before after None e step = absurd (cc step.1)
drop-at object world id before after (Some p) e step =
    let none : position_of (without object world) object ≡ None = position_of-without object world object ∙ ap (λ b. cond b None (position_of world object)) (eq-eqb object object refl) in
    let same = same_Some _ _ step.1 in
    record { same = ap (λ (c : Change). c.id) same; before_is = sym (ap (λ (c : Change). c.before) same) ∙ ap at_of (sym e); after_is = sym (ap (λ (c : Change). c.after) same) ∙ ap at_of (sym none) }

-- The same for a cell that records the operation.
goes-on : (world : World) (c : Cell) (object : ℕ) (fences : List Fence) (at id : ℕ) (before after : Option Point) (old new : TallyView) → object_of c ≡ Some object → FollowsWorld world fences old
    → AreAt world (world_behind world c) object id before after → TalliesBy at (Some id) before after old new → FollowsWorld (world_behind world c) fences new
goes-on world c object fences at id before after old new is follows are tallies =
    let named : Some id ≡ object_of c = ap (λ (n : ℕ). Some n) (sym are.same) ∙ sym is in
    record {
      rising = rising-after world (c ∷ []) follows.rising;
      few = few-after world (c ∷ []) follows.few;
      counts = tallies-counts world c fences at before after old new follows.rising follows.few follows.counts
          (are.before_is ∙ ap (place_in world) (sym is)) (are.after_is ∙ ap (place_in (world_behind world c)) (sym is))
          (subst (λ (o : Option ℕ). TalliesBy at o before after old new) named tallies);
    }

holds-on : (world : World) (c : Cell) (object : ℕ) (fences : List Fence) (at id : ℕ) (before after : Option Point) (old new : WatchView) → object_of c ≡ Some object → HoldsWorld world fences old
    → AreAt world (world_behind world c) object id before after → StepsBy at (Some id) before after old new → HoldsWorld (world_behind world c) fences new
holds-on world c object fences at id before after old new is holds are steps =
    let named : Some id ≡ object_of c = ap (λ (n : ℕ). Some n) (sym are.same) ∙ sym is in
    record {
      rising = rising-after world (c ∷ []) holds.rising;
      guards = steps-guards world c fences at before after old new holds.rising holds.guards
          (are.before_is ∙ ap (place_in world) (sym is)) (are.after_is ∙ ap (place_in (world_behind world c)) (sym is))
          (subst (λ (o : Option ℕ). StepsBy at o before after old new) named steps);
    }

-- The cell that records an operation which changed an object.
record StandsFor (world : World) (o : Op) (id : ℕ) (before after : Option Point) (c : Cell) : Type 0 where
  object : ℕ
  is : object_of c ≡ Some object
  behind : world_behind world c ≡ after_of world o
  are : AreAt world (world_behind world c) object id before after

stands-for : (world : World) (o : Op) (id : ℕ) (before after : Option Point) → IsStepOf id before after o (answer_of world o) → (c : Cell) × StandsFor world o id before after c
stands-for world (op.Put object to moment) id before after step = (
  cell.Put object to moment,
  record {
    object = object;
    is = refl;
    behind = refl;
    are = put-at (record { id = object; at = to; moment = moment }) world id before after (position_of world object) refl (is_full world) step;
  },
)
stands-for world (op.Move object to moment) id before after step = (
  cell.Move object to moment,
  record {
    object = object;
    is = refl;
    behind = refl;
    are = move-at object (record { at = to; moment = moment }) world id before after (position_of world object) refl step;
  },
)
stands-for world (op.Remove object) id before after step = (
  cell.Remove object,
  record {
    object = object;
    is = refl;
    behind = refl;
    are = drop-at object world id before after (position_of world object) refl step;
  },
)
stands-for world (op.Find object) id before after step = absurd (cc step.1)
stands-for world (op.Within region) id before after step = absurd (cc step.1)
stands-for world (op.Near point k) id before after step = absurd (cc step.1)

pub follows-on : (world : World) (o : Op) (fences : List Fence) (at id : ℕ) (before after : Option Point) (old new : TallyView) → FollowsWorld world fences old
    → IsStepOf id before after o (answer_of world o) → TalliesBy at (Some id) before after old new → FollowsWorld (after_of world o) fences new
follows-on world o fences at id before after old new follows step tallies =
    let stands = stands-for world o id before after step in
    subst (λ (next : World). FollowsWorld next fences new) stands.1.behind
    (goes-on world stands.0 stands.1.object fences at id before after old new stands.1.is follows stands.1.are tallies)

pub holds-step : (world : World) (o : Op) (fences : List Fence) (at id : ℕ) (before after : Option Point) (old new : WatchView) → HoldsWorld world fences old
    → IsStepOf id before after o (answer_of world o) → StepsBy at (Some id) before after old new → HoldsWorld (after_of world o) fences new
holds-step world o fences at id before after old new holds step steps =
    let stands = stands-for world o id before after step in
    subst (λ (next : World). HoldsWorld next fences new) stands.1.behind
    (holds-on world stands.0 stands.1.object fences at id before after old new stands.1.is holds stands.1.are steps)

-- A watch that holds a world may make the step.
pub holds-place : (world : World) (o : Op) (fences : List Fence) (id : ℕ) (before after : Option Point) (view : WatchView) → HoldsWorld world fences view → IsStepOf id before after o (answer_of world o)
    → HoldsBefore (Some id) before view.guards
holds-place world o fences id before after view holds step =
    let stands = stands-for world o id before after step in
    holds-world world (Some id) before fences view holds (stands.1.are.before_is ∙ ap (λ (n : ℕ). place_in world (Some n)) stands.1.are.same)
