-- What a cell does to a state: the position of its object, the growth of the lists, and how an object is put back.
use Rattle.std.proofs.Common.{◌≡◌, ℕ, ◌+◌, ◌≤◌, Bool, true, false, cond, not, inl, inr, List, [], ◌∷◌, ◌++◌, length, Option, Some, None, refl, sym, ◌∙◌, ap, subst, arith, length-append}
use Rattle.std.specs.Prelude.{◌==◌, ◌<◌, Err}
use Rattle.std.specs.List.{filter}
use Rattle.std.specs.Option.{option_map, option_map_or}
use Rattle.std.proofs.lemmas.Bool.{cases_Bool, eq-eqb, lt-ltb, true≢false}
use Rattle.std.proofs.lemmas.Bool.Decides.{nat_tests}
use Rattle.std.proofs.lemmas.Grind.{common_steps}
use Rattle.zorder.specs.Width.{IsWidth}
use Rattle.zorder.specs.SameName.{same_name}
use Rattle.zorder.specs.Tile.{children}
use Rattle.cell_format.specs.declared.cell.Cell.{Cell}
use Rattle.cell_format.specs.declared.cell.Cell.TheVariants as cell
use Rattle.plain_list.specs.declared.world.Member.{Member}
use Rattle.plain_list.specs.declared.world.Stamped.{Stamped}
use Rattle.plain_list.specs.declared.ops.Op.{Op}
use Rattle.plain_list.specs.declared.ops.Op.TheVariants as op
use Rattle.plain_list.specs.declared.ops.Answer.TheVariants.{Done, Present, Full, Moved, Stale, Gone, Absent}
use Rattle.plain_list.specs.Places.{IsAbove, IsRising}
use Rattle.plain_list.specs.World.{World, places_of, position_of, is_full, IsWorld}
use Rattle.plain_list.specs.Answer.{answer_of, is_change, changed, after_of, with_moved, without, moved_or_stale, moved_to}
use Rattle.plain_list.specs.State.{State, step, split_leaf, split_name, installed}
use Rattle.plain_list.proofs.MemberMaps.{with_moved-absent, with_moved-none}
use Rattle.plain_list.proofs.Shards.{without-none}
use Rattle.plain_list.proofs.Members.{position_of-with_member, position_of-without}
use Rattle.plain_list.proofs.Worlds.{length-with_member, length-with_moved}
use Rattle.log_state.specs.Recovers.{is_possible_cell, entry_of}
use Rattle.recovery.specs.Pieces.{place_after}
use Rattle.recovery.specs.declared.replay.StepFault.TheVariants.{Impossible}
use Rattle.recovery.specs.Replay.{Steps}
use Rattle.recovery.specs.Room.{HasRoomAfter}
use Rattle.recovery.specs.Walked.{object_of, place_in}

-- A moved object keeps its place in the list.
above_before : (a id : ℕ) (to : Stamped) (ms : World) → IsAbove a (places_of (with_moved id to ms)) → IsAbove a (places_of ms)
above_before a id to [] above = tt
above_before a id to (m ∷ ms) above = elim (cases_Bool (m.id == id)) [
  | inl e ↦
      let head : (moved_to id to m).id ≡ m.id = grind (arith, nat_tests, common_steps) in
      (omega (arith, above.0, head), above_before a id to ms above.1)
  | inr e ↦
      let head : (moved_to id to m).id ≡ m.id = grind (arith, nat_tests, common_steps) in
      (omega (arith, above.0, head), above_before a id to ms above.1)
]

rising_before : (id : ℕ) (to : Stamped) (ms : World) → IsRising (places_of (with_moved id to ms)) → IsRising (places_of ms)
rising_before id to [] rising = tt
rising_before id to (m ∷ ms) rising = elim (cases_Bool (m.id == id)) [
  | inl e ↦
      let head : (moved_to id to m).id ≡ m.id = grind (arith, nat_tests, common_steps) in
      (above_before m.id id to ms (subst (λ a. IsAbove a (places_of (with_moved id to ms))) head rising.0), rising_before id to ms rising.1)
  | inr e ↦
      let head : (moved_to id to m).id ≡ m.id = grind (arith, nat_tests, common_steps) in
      (above_before m.id id to ms (subst (λ a. IsAbove a (places_of (with_moved id to ms))) head rising.0), rising_before id to ms rising.1)
]

moved_twice : (id : ℕ) (to old : Stamped) (ms : World) → with_moved id old (with_moved id to ms) ≡ with_moved id old ms
moved_twice id to old [] = refl
moved_twice id to old (m ∷ ms) =
    let rest : with_moved id old (with_moved id to ms) ≡ with_moved id old ms = moved_twice id to old ms in
    grind (arith, nat_tests, common_steps)

moved_to_same : (id : ℕ) (old : Stamped) (ms : World) → IsRising (places_of ms) → position_of ms id ≡ Some old → with_moved id old ms ≡ ms
moved_to_same id old [] rising found = cc
moved_to_same id old (m ∷ ms) rising found =
    let rest : position_of ms id ≡ Some old → with_moved id old ms ≡ ms = moved_to_same id old ms rising.1 in
    let same : m.id ≡ id → with_moved id old ms ≡ ms = λ e. with_moved-absent id old ms (subst (λ a. IsAbove a (places_of ms)) e rising.0) in
    grind (arith, nat_tests, common_steps)

pub moved_back : (id : ℕ) (to old : Stamped) (world new back : World) → IsWorld new → position_of world id ≡ Some old → new ≡ with_moved id to world → back ≡ with_moved id old new → back ≡ world
moved_back id to old world new back is found moved again =
    again ∙ ap (with_moved id old) moved ∙ moved_twice id to old world
    ∙ moved_to_same id old world (rising_before id to world (subst (λ (w : World). IsRising (places_of w)) moved is.rising)) found

position_of-with_moved : (id : ℕ) (to kept : Stamped) (ms : World) → position_of ms id ≡ Some kept → position_of (with_moved id to ms) id ≡ Some to
position_of-with_moved id to kept [] found = cc
position_of-with_moved id to kept (m ∷ ms) found =
    let rest : position_of ms id ≡ Some kept → position_of (with_moved id to ms) id ≡ Some to = position_of-with_moved id to kept ms in
    grind (arith, nat_tests, common_steps)

itself : (id : ℕ) → (id == id) ≡ true
itself id = eq-eqb id id refl

-- The world after a change.
after_change : (world : World) (o : Op) → is_change (answer_of world o) ≡ true → after_of world o ≡ changed world o
after_change world o e = ap (λ b. cond b (changed world o) world) e

put_none : (found : Option Stamped) (b : Bool) → is_change (option_map_or Present found (cond b Full Done)) ≡ true → found ≡ None
put_none None b e = refl
put_none (Some kept) b e = absurd (true≢false (sym e))

moved_some : (moment : ℕ) (found : Option Stamped) → is_change (option_map_or (moved_or_stale moment) found Absent) ≡ true → (kept : Stamped) × (found ≡ Some kept)
moved_some moment None e = absurd (true≢false (sym e))
moved_some moment (Some kept) e = (kept, refl)

-- The position of a cell's object after the cell.
pub placed_after : (w : ℕ) (s : State) (c : Cell) → is_possible_cell w s c ≡ true → place_in (step w s (entry_of c)).world (object_of c) ≡ place_after c
placed_after w s (cell.Put id at moment) possible =
    let none = put_none (position_of s.world id) (is_full s.world) possible in
    ap (λ (world : World). option_map (λ (k : Stamped). k.at) (position_of world id)) (after_change s.world (op.Put id at moment) possible)
    ∙ ap (option_map (λ (k : Stamped). k.at)) (position_of-with_member (record { id = id; at = at; moment = moment }) s.world id none)
    ∙ ap (λ b. option_map (λ (k : Stamped). k.at) (cond b (Some (record { at = at; moment = moment })) (position_of s.world id))) (itself id)
placed_after w s (cell.Move id at moment) possible =
    let there = moved_some moment (position_of s.world id) possible in
    ap (λ (world : World). option_map (λ (k : Stamped). k.at) (position_of world id)) (after_change s.world (op.Move id at moment) possible)
    ∙ ap (option_map (λ (k : Stamped). k.at)) (position_of-with_moved id (record { at = at; moment = moment }) there.0 s.world there.1)
placed_after w s (cell.Remove id) possible =
    ap (λ (world : World). option_map (λ (k : Stamped). k.at) (position_of world id)) (after_change s.world (op.Remove id) possible)
    ∙ ap (option_map (λ (k : Stamped). k.at)) (position_of-without id s.world id)
    ∙ ap (λ b. option_map (λ (k : Stamped). k.at) (cond b None (position_of s.world id))) (itself id)
placed_after w s (cell.Begin number name) possible = refl
placed_after w s (cell.Install number) possible = refl
placed_after w s (cell.Abandon number) possible = refl

filter_if : {A : Type 0} (b : Bool) (x : A) (xs : List A) → length (cond b (x ∷ xs) xs) ≤ 1 + length xs
filter_if true x xs = omega arith
filter_if false x xs = omega arith

no_longer : {A : Type 0} (p : A → Bool) (xs : List A) → length (filter p xs) ≤ length xs
no_longer p [] = omega arith
no_longer p (x ∷ xs) = omega (arith, filter_if (p x) x (filter p xs), no_longer p xs)

-- A change makes a world longer by at most one object.
changed_longer : (b : Bool) (world new : World) → length new ≤ length world + 1 → length (cond b new world) ≤ length world + 1
changed_longer true world new le = le
changed_longer false world new le = omega arith

children_few : (w : ℕ) (name : List Bool) → IsWidth w → length (children w name) ≤ 4
children_few w name (inl one) = subst (λ n. length (children n name) ≤ 4) (sym one) (omega arith)
children_few w name (inr two) = subst (λ n. length (children n name) ≤ 4) (sym two) (omega arith)

split_longer : (w : ℕ) (name : List Bool) → IsWidth w → (leaves : List (List Bool)) → length (split_leaf w name leaves) ≤ length leaves + 3
split_longer w name known [] = omega arith
split_longer w name known (leaf ∷ leaves) = by_test (same_name leaf name) (split_longer w name known leaves)
  where
    by_test : (b : Bool) → length (split_leaf w name leaves) ≤ length leaves + 3 → length (cond b (children w name ++ leaves) (leaf ∷ split_leaf w name leaves)) ≤ length (leaf ∷ leaves) + 3
    by_test true rest = omega (arith, length-append (children w name) leaves, children_few w name known)
    by_test false rest = omega (arith, rest)

installed_longer : (w : ℕ) (name : Option (List Bool)) → IsWidth w → (leaves : List (List Bool)) → length (installed w name leaves) ≤ length leaves + 3
installed_longer w None known leaves = omega arith
installed_longer w (Some name) known leaves = split_longer w name known leaves

-- How much longer the lists of a state are after a cell.
pub grows : (w : ℕ) (s : State) (c : Cell) → IsWidth w → HasRoomAfter s (step w s (entry_of c))
grows w s (cell.Put id at moment) known = record {
  members = changed_longer (is_change (answer_of s.world (op.Put id at moment))) s.world (changed s.world (op.Put id at moment)) (omega (arith, length-with_member (record { id = id; at = at; moment = moment }) s.world));
  leaves = omega arith;
}
grows w s (cell.Move id at moment) known = record {
  members = changed_longer (is_change (answer_of s.world (op.Move id at moment))) s.world (changed s.world (op.Move id at moment)) (omega (arith, length-with_moved id (record { at = at; moment = moment }) s.world));
  leaves = omega arith;
}
grows w s (cell.Remove id) known = record {
  members = changed_longer (is_change (answer_of s.world (op.Remove id))) s.world (changed s.world (op.Remove id)) (omega (arith, no_longer (λ (m : Member). not (m.id == id)) s.world));
  leaves = omega arith;
}
grows w s (cell.Begin number name) known = record { members = omega arith; leaves = omega arith }
grows w s (cell.Install number) known = record { members = omega arith; leaves = installed_longer w (split_name s.splits number) known s.leaves }
grows w s (cell.Abandon number) known = record { members = omega arith; leaves = omega arith }

-- Steps that aren't possible leave everything unchanged.
pub refuses_put : (w : ℕ) (s : State) (id : ℕ) (to old : Stamped) (new back : World) → IsWorld new → Some old ≡ position_of s.world id → new ≡ with_moved id to s.world → back ≡ with_moved id old new
    → Steps w s (record s { world = back }) (cell.Put id to.at to.moment) (Err Impossible)
refuses_put w s id to old new back is found moved again =
    let same : back ≡ s.world = moved_back id to old s.world new back is (sym found) moved again in
    record {
      done = tt;
      refused = λ _. ap (λ p. is_change (option_map_or Present p (cond (is_full s.world) Full Done))) (sym found);
      kept = λ i. record s { world = same i };
    }

pub refuses_stale : (w : ℕ) (s : State) (id : ℕ) (to old : Stamped) (new back : World) → IsWorld new → Some old ≡ position_of s.world id → new ≡ with_moved id to s.world → to.moment < old.moment → back ≡ with_moved id old new
    → Steps w s (record s { world = back }) (cell.Move id to.at to.moment) (Err Impossible)
refuses_stale w s id to old new back is found moved late again =
    let same : back ≡ s.world = moved_back id to old s.world new back is (sym found) moved again in
    record {
      done = tt;
      refused = λ _. ap (λ p. is_change (option_map_or (moved_or_stale to.moment) p Absent)) (sym found) ∙ ap (λ b. is_change (cond b (Stale old) (Moved old))) (lt-ltb to.moment old.moment late);
      kept = λ i. record s { world = same i };
    }

pub refuses_move : (w : ℕ) (s : State) (id : ℕ) (to : Stamped) (new : World) → position_of s.world id ≡ None → new ≡ with_moved id to s.world
    → Steps w s (record s { world = new }) (cell.Move id to.at to.moment) (Err Impossible)
refuses_move w s id to new none moved =
    let same : new ≡ s.world = moved ∙ with_moved-none id to s.world none in
    record {
      done = tt;
      refused = λ _. ap (λ p. is_change (option_map_or (moved_or_stale to.moment) p Absent)) none;
      kept = λ i. record s { world = same i };
    }

pub refuses_remove : (w : ℕ) (s : State) (id : ℕ) (new : World) → position_of s.world id ≡ None → new ≡ without id s.world
    → Steps w s (record s { world = new }) (cell.Remove id) (Err Impossible)
refuses_remove w s id new none gone =
    let same : new ≡ s.world = gone ∙ without-none id s.world none in
    record {
      done = tt;
      refused = λ _. ap (λ p. is_change (option_map_or Gone p Absent)) none;
      kept = λ i. record s { world = same i };
    }
