-- The steps by which the operations of a batch are planned.
use Rattle.std.proofs.Common.{◌≡◌, ℕ, suc, ◌+◌, ◌-◌, ◌<◌, ◌≤◌, Bool, true, false, List, [], ◌∷◌, Some, None, length, refl, sym, ap, subst, ◌∙◌, ◌++◌, append_assoc, append-nil, arith, if◌then◌else◌}
use Rattle.std.specs.Prelude.{nat_le, ◌||◌}
use Rattle.std.proofs.lemmas.List.Folds.{list_any-append}
use Rattle.std.specs.List.{AllByRecursion, list_any}
use mathlib.Core.Bool.{true≢false}
use Rattle.std.proofs.lemmas.Bool.Decides.{nat_tests}
use Rattle.zorder.specs.Key.{IsPoint}
use Rattle.zorder.specs.declared.points.Placed.{Placed}
use Rattle.plain_list.specs.declared.ops.Op.{Op}
use Rattle.plain_list.specs.declared.ops.Op.TheVariants.{Put, Move, Remove}
use Rattle.plain_list.specs.declared.ops.Answer.{Answer}
use Rattle.plain_list.specs.declared.ops.Answer.TheVariants.{Done, Moved, Gone, Absent}
use Rattle.plain_list.specs.declared.world.Stamped.{Stamped}
use Rattle.plain_list.specs.World.{World, member_of, places_of, position_of, IsWorld, most_members}
use Rattle.plain_list.specs.Answer.{answer_of, after_of, changed, is_change, with_member, with_moved, without}
use Rattle.std.specs.Option.{option_map_or}
use Rattle.plain_list.specs.Batch.{answers_to, after_all}
use Rattle.plain_list.specs.State.{OpenSplit}
use Rattle.plain_list.proofs.Worlds.{IsWorld-with_member, IsWorld-with_moved, IsWorld-without, length-with_member, length-with_moved}
use Rattle.index_layer.specs.Leaves.{Leaf}
use Rattle.index_layer.specs.Stands.{HasRowsOf}
use Rattle.point_table.specs.Changes.{bases_of, AreSettled}
use Rattle.point_table.specs.Crowds.{crowded_of}
use Rattle.point_table.specs.Drafts.{Net, after_net, LeavesAt, PlanView, Planned, PlansNext, Drafts}
use Rattle.point_table.specs.IsTable.{IsTable, table_of}
use Rattle.point_table.specs.Plans.{IsFresh, Plans}
use Rattle.point_table.specs.TableView.{TableView}
use Rattle.point_table.specs.declared.table.PointTable.TheInside.{Inside}
use Rattle.point_table.proofs.Nets.{left_at-new, left_at-there, length-without}
use Rattle.point_table.proofs.PlacesAfter.{places-with_moved}
use Rattle.point_table.proofs.Settled.{settled_same, settled_then}
use Rattle.point_table.proofs.TableSteps.{Steps}
use Rattle.point_table.proofs.Updating.{put-done, move-moved}

-- an operation that changes the world
pub next_some : (w size : ℕ) (splits : List OpenSplit) (table : TableView) (op : Op) (old new : PlanView) (answer : Answer) → Planned w splits table old → size ≡ table.size → answer ≡ answer_of (after_net old.left table.world) op
    → is_change answer ≡ true → (after : World) → after ≡ changed (after_net old.left table.world) op → after_net new.left table.world ≡ after → new.len ≡ length after → IsWorld after → Steps w size splits old.leaves new.leaves after new.names
    → PlansNext w splits table op old new answer
next_some w size splits table op old new answer planned size_is is loud after after_is world len is_world steps =
    record {
      answer_is = is;
      world = world ∙ after_is ∙ sym (ap (λ b. if b then changed (after_net old.left table.world) op else after_net old.left table.world) (ap is_change (sym is) ∙ loud));
      planned = record {
        before = planned.before;
        len = len ∙ sym (ap (λ (ms : World). length ms) world);
        world = subst IsWorld (sym world) is_world;
        rows = subst (λ (ms : World). AllByRecursion (HasRowsOf (places_of ms)) new.leaves) (sym world) steps.rows;
        crowded = steps.crowded ∙ ap (λ s. crowded_of w s new.leaves) size_is;
        bases = steps.bases ∙ planned.bases;
        settled = settled_then splits table.leaves old.leaves new.leaves planned.settled steps.settled;
      };
      calm = λ quiet. absurd (true≢false (sym loud ∙ quiet));
    }

has_room : (n : ℕ) → n < most_members → nat_le most_members n ≡ false
has_room n few = grind (arith, nat_tests)

pub next_put : (w size : ℕ) (splits : List OpenSplit) (table : TableView) (id : ℕ) (to : Stamped) (old new : PlanView) → Planned w splits table old → size ≡ table.size → IsPoint to.at → position_of (after_net old.left table.world) id ≡ None
    → old.len < most_members → new.len ≡ old.len + 1 → LeavesAt id (Some to) old.left new.left → Steps w size splits old.leaves new.leaves (with_member (member_of id to) (after_net old.left table.world)) new.names
    → PlansNext w splits table (Put id to.at to.moment) old new Done
next_put w size splits table id to old new planned size_is fits none few more leaves steps =
    let world = after_net old.left table.world in
    let len : length (with_member (member_of id to) world) ≡ suc (length world) = length-with_member (member_of id to) world in
    let was : old.len ≡ length world = planned.len in
    let few_there : length world < most_members = omega arith in
    let new_len : new.len ≡ length (with_member (member_of id to) world) = omega arith in
    next_some w size splits table (Put id to.at to.moment) old new Done planned size_is (put-done world id to.at to.moment none (has_room (length world) few_there)) refl (with_member (member_of id to) world) refl
    (leaves table.world planned.before ∙ left_at-new id to world none) new_len (IsWorld-with_member (member_of id to) world planned.world none few_there fits) steps

pub next_move : (w size : ℕ) (splits : List OpenSplit) (table : TableView) (id : ℕ) (kept to : Stamped) (old new : PlanView) → Planned w splits table old → size ≡ table.size → IsPoint to.at
    → position_of (after_net old.left table.world) id ≡ Some kept → kept.moment ≤ to.moment → new.len ≡ old.len → LeavesAt id (Some to) old.left new.left
    → Steps w size splits old.leaves new.leaves (with_moved id to (after_net old.left table.world)) new.names → PlansNext w splits table (Move id to.at to.moment) old new (Moved kept)
next_move w size splits table id kept to old new planned size_is fits there in_time same leaves steps =
    let world = after_net old.left table.world in
    next_some w size splits table (Move id to.at to.moment) old new (Moved kept) planned size_is (move-moved world id to kept there in_time) refl (with_moved id to world) refl
    (leaves table.world planned.before ∙ left_at-there id kept to world planned.world there) (same ∙ planned.len ∙ sym (length-with_moved id to world)) (IsWorld-with_moved id to world planned.world fits) steps

-- a move to the same point changes no row
pub next_stay : (w : ℕ) (splits : List OpenSplit) (table : TableView) (id : ℕ) (kept to : Stamped) (old new : PlanView) → Planned w splits table old → IsPoint to.at
    → position_of (after_net old.left table.world) id ≡ Some kept → kept.moment ≤ to.moment → kept.at ≡ to.at → LeavesAt id (Some to) old.left new.left
    → new.len ≡ old.len → new.leaves ≡ old.leaves → new.names ≡ old.names → PlansNext w splits table (Move id to.at to.moment) old new (Moved kept)
next_stay w splits table id kept to old new planned fits there in_time at_is leaves len same names =
    next_move w table.size splits table id kept to old new planned refl fits there in_time len leaves
    (record {
      rows = subst (λ (ls : List Leaf). AllByRecursion (HasRowsOf (places_of (with_moved id to world))) ls) (sym same) (subst (λ (places : List Placed). AllByRecursion (HasRowsOf places) old.leaves) (sym stays) planned.rows);
      crowded = names ∙ planned.crowded ∙ ap (crowded_of w table.size) (sym same);
      bases = ap (bases_of splits) same;
      settled = subst (AreSettled splits old.leaves) (sym same) (settled_same splits old.leaves);
    })
  where
    world : World
    world = after_net old.left table.world

    stays : places_of (with_moved id to world) ≡ places_of world
    stays = places-with_moved id kept to world planned.world.rising there at_is

pub next_remove : (w size : ℕ) (splits : List OpenSplit) (table : TableView) (id : ℕ) (kept : Stamped) (old new : PlanView) → Planned w splits table old → size ≡ table.size
    → position_of (after_net old.left table.world) id ≡ Some kept → new.len ≡ old.len - 1 → LeavesAt id None old.left new.left
    → Steps w size splits old.leaves new.leaves (without id (after_net old.left table.world)) new.names → PlansNext w splits table (Remove id) old new (Gone kept)
next_remove w size splits table id kept old new planned size_is there fewer leaves steps =
    let world = after_net old.left table.world in
    let len : suc (length (without id world)) ≡ length world = length-without id kept world planned.world.rising there in
    let was : old.len ≡ length world = planned.len in
    let new_len : new.len ≡ length (without id world) = omega arith in
    next_some w size splits table (Remove id) old new (Gone kept) planned size_is (sym (ap (λ o. option_map_or Gone o Absent) there)) refl (without id world) refl
    (leaves table.world planned.before) new_len (IsWorld-without id world planned.world) steps

-- before the first operation
pub planned_first : {I P : Type 0} (leaves : I → List Leaf) (w : ℕ) (splits : List OpenSplit) (t : Inside I P) (plan : PlanView) → IsTable leaves w t → plan.left ≡ [] → plan.len ≡ length t.members → plan.leaves ≡ leaves t.index
    → plan.names ≡ t.crowded.names → Planned w splits (table_of leaves t) plan
planned_first leaves w splits t plan is none len same names =
    record {
      before = is.world;
      len = len ∙ sym (ap (λ (ms : World). length ms) nothing);
      world = subst IsWorld (sym nothing) is.world;
      rows = subst (λ (ms : World). AllByRecursion (HasRowsOf (places_of ms)) plan.leaves) (sym nothing) (subst (λ (ls : List Leaf). AllByRecursion (HasRowsOf (places_of t.members)) ls) (sym same) is.rows);
      crowded = names ∙ is.crowded ∙ ap (crowded_of w t.size) (sym same);
      bases = ap (bases_of splits) same;
      settled = subst (AreSettled splits (leaves t.index)) (sym same) (settled_same splits (leaves t.index));
    }
  where
    nothing : after_net plan.left t.members ≡ t.members
    nothing = ap (λ (net : Net). after_net net t.members) none

-- the plan after the operations before these
pub record PlansSoFar (w : ℕ) (splits : List OpenSplit) (table : TableView) (ops rest : List Op) (plan : PlanView) (answers : List Answer) : Type 0 where
  pub answers_are : answers ++ answers_to (after_net plan.left table.world) rest ≡ answers_to table.world ops
  pub world : after_all (after_net plan.left table.world) rest ≡ after_all table.world ops
  pub planned : Planned w splits table plan
  pub calm : list_any is_change answers ≡ false → IsFresh table plan

pub so_far_none : (w : ℕ) (splits : List OpenSplit) (table : TableView) (ops : List Op) (plan : PlanView) → Planned w splits table plan → IsFresh table plan → PlansSoFar w splits table ops ops plan []
so_far_none w splits table ops plan planned fresh =
    let nothing : after_net plan.left table.world ≡ table.world = ap (λ (net : Net). after_net net table.world) fresh.left in
    record {
      answers_are = ap (λ (u : World). answers_to u ops) nothing;
      world = ap (λ (u : World). after_all u ops) nothing;
      planned = planned;
      calm = λ _. fresh;
    }

either_quiet : (a b : Bool) → (a || b) ≡ false → (a ≡ false) × (b ≡ false)
either_quiet true b e = absurd (true≢false e)
either_quiet false b e = (refl, e)

pub so_far_next : (w : ℕ) (splits : List OpenSplit) (table : TableView) (ops rest later : List Op) (op : Op) (old new : PlanView) (answers : List Answer) (a : Answer) → PlansSoFar w splits table ops rest old answers → rest ≡ op ∷ later
    → PlansNext w splits table op old new a → PlansSoFar w splits table ops later new (answers ++ a ∷ [])
so_far_next w splits table ops rest later op old new answers a so_far rest_is next =
    let u = after_net old.left table.world in
    record {
      answers_are =
          append_assoc answers (a ∷ []) (answers_to (after_net new.left table.world) later)
          ∙ ap (λ (v : World). answers ++ (a ∷ answers_to v later)) next.world
          ∙ ap (λ (b : Answer). answers ++ (b ∷ answers_to (after_of u op) later)) next.answer_is
          ∙ ap (λ (os : List Op). answers ++ answers_to u os) (sym rest_is)
          ∙ so_far.answers_are;
      world = ap (λ (v : World). after_all v later) next.world ∙ ap (after_all u) (sym rest_is) ∙ so_far.world;
      planned = next.planned;
      calm = quiet;
    }
  where
    quiet : list_any is_change (answers ++ a ∷ []) ≡ false → IsFresh table new
    quiet none =
        let both = either_quiet (list_any is_change answers) (is_change a || false) (sym (list_any-append is_change answers (a ∷ [])) ∙ none) in
        subst (IsFresh table) (sym (next.calm ((either_quiet (is_change a) false both.1).0))) (so_far.calm both.0)

pub so_far_all : (w : ℕ) (splits : List OpenSplit) (table : TableView) (ops rest : List Op) (plan : PlanView) (answers : List Answer) → PlansSoFar w splits table ops rest plan answers → rest ≡ [] → Plans w splits table ops plan answers
so_far_all w splits table ops rest plan answers so_far none =
    record {
      answers_are = sym (append-nil answers) ∙ ap (λ (os : List Op). answers ++ answers_to (after_net plan.left table.world) os) (sym none) ∙ so_far.answers_are;
      world = ap (after_all (after_net plan.left table.world)) (sym none) ∙ so_far.world;
      planned = so_far.planned;
      calm = so_far.calm;
    }

-- the draft of a plan after all operations
pub draft_of : (w size : ℕ) (splits : List OpenSplit) (table : TableView) (ops : List Op) (plan : PlanView) (answers : List Answer) → Plans w splits table ops plan answers → size ≡ table.size
    → Drafts splits table ops (record { left = plan.left; leaves = plan.leaves; size = size; answers = answers })
draft_of w size splits table ops plan answers plans size_is =
    record {
      of = record { size = size_is; rows = plans.planned.rows; calm = calm };
      answers = plans.answers_are;
      changes = record { world = plans.world; bases = plans.planned.bases; settled = plans.planned.settled; size = refl };
    }
  where
    calm : list_any is_change answers ≡ false → record table { leaves = plan.leaves; world = after_net plan.left table.world } ≡ table
    calm none =
        let fresh = plans.calm none in
        let world : after_net plan.left table.world ≡ table.world = ap (λ (net : Net). after_net net table.world) fresh.left in
        λ i. record { leaves = fresh.leaves i; world = world i; size = table.size }
