-- What a change of a table is answered, where it changes the world and where it doesn't.
use Rattle.std.proofs.Common.{◌≡◌, ℕ, ◌<◌, ◌≤◌, Bool, true, false, List, Option, Some, None, refl, sym, ap, subst, ◌∙◌, arith, if◌then◌else◌}
use Rattle.std.specs.Prelude.{◌==◌, ◌&&◌}
use Rattle.std.specs.Bool.{nat_eq}
use Rattle.std.proofs.lemmas.Bool.Decides.{nat_tests}
use Rattle.std.proofs.lemmas.Grind.{common_steps}
use Rattle.std.proofs.lemmas.Bool.{eqb-true, lt-ltb, le-ltb}
use mathlib.Core.Bool.{true≢false}
use Rattle.zorder.specs.Key.{key_of, point_of}
use Rattle.std.specs.List.{AllByRecursion}
use Rattle.std.specs.Option.{option_map_or, MatchOption}
use Rattle.zorder.specs.declared.points.Point.{Point}
use Rattle.plain_list.specs.declared.world.Stamped.{Stamped}
use Rattle.plain_list.specs.declared.ops.Op.{Op}
use Rattle.plain_list.specs.declared.ops.Op.TheVariants.{Put, Move}
use Rattle.plain_list.specs.declared.ops.Answer.{Answer}
use Rattle.plain_list.specs.declared.ops.Answer.TheVariants.{Done, Present, Full, Moved, Stale, Absent}
use Rattle.plain_list.specs.World.{World, places_of, position_of, IsWorld, is_full}
use Rattle.plain_list.specs.Answer.{answer_of, moved_or_stale, changed, is_change}
use Rattle.plain_list.specs.State.{OpenSplit}
use Rattle.index_layer.specs.Leaves.{Leaf}
use Rattle.index_layer.specs.Stands.{HasRowsOf}
use Rattle.point_table.specs.Changes.{bases_of, AreSettled}
use Rattle.point_table.specs.Crowds.{crowded_of}
use Rattle.point_table.specs.IsTable.{IsTable, table_of}
use Rattle.point_table.specs.TableView.{TableView}
use Rattle.point_table.specs.Updates.{Changes, Updates}
use Rattle.point_table.specs.declared.table.PointTable.TheInside.{Inside}
use Rattle.point_table.proofs.Settled.{settled_same}

-- nothing changed
pub updates_none : (splits : List OpenSplit) (old new : TableView) (op : Op) (answer : Answer) → answer ≡ answer_of old.world op → is_change answer ≡ false → new ≡ old → Updates splits old new op answer
updates_none splits old new op answer is quiet same =
    record {
      answer_is = is;
      changes = record {
        world = ap (λ (t : TableView). t.world) same ∙ sym (ap (λ b. if b then changed old.world op else old.world) (ap is_change (sym is) ∙ quiet));
        bases = ap (λ (t : TableView). bases_of splits t.leaves) same;
        settled = subst (λ (t : TableView). AreSettled splits old.leaves t.leaves) (sym same) (settled_same splits old.leaves);
        size = ap (λ (t : TableView). t.size) same;
      };
    }

-- the world changed
pub updates_some : (splits : List OpenSplit) (old new : TableView) (op : Op) (answer : Answer) → answer ≡ answer_of old.world op → is_change answer ≡ true → Changes splits old new (changed old.world op)
    → Updates splits old new op answer
updates_some splits old new op answer is loud changes =
    record {
      answer_is = is;
      changes = subst (Changes splits old new) (sym (ap (λ b. if b then changed old.world op else old.world) (ap is_change (sym is) ∙ loud))) changes;
    }

-- a put into a full world changes nothing
full_quiet : (o : Option Stamped) (b : Bool) → b ≡ true → is_change (option_map_or Present o (if b then Full else Done)) ≡ false
full_quiet None b is = ap (λ c. is_change (if c then Full else Done)) is
full_quiet (Some kept) b is = refl

pub put-full : (world : World) (id : ℕ) (at : Point) (moment : ℕ) → is_full world ≡ true → is_change (answer_of world (Put id at moment)) ≡ false
put-full world id at moment is = full_quiet (position_of world id) (is_full world) is

-- a put of an object that isn't there is done where there is room
pub put-done : (world : World) (id : ℕ) (at : Point) (moment : ℕ) → position_of world id ≡ None → is_full world ≡ false → Done ≡ answer_of world (Put id at moment)
put-done world id at moment none room =
    sym (ap (λ o. option_map_or Present o (if is_full world then Full else Done)) none ∙ ap (λ b. if b then Full else Done) room)

-- a move of an object that isn't there
pub move-absent : (world : World) (id : ℕ) (to : Stamped) → position_of world id ≡ None → Absent ≡ answer_of world (Move id to.at to.moment)
move-absent world id to none = sym (ap (λ o. option_map_or (moved_or_stale to.moment) o Absent) none)

move_answer : (world : World) (id : ℕ) (to kept : Stamped) → position_of world id ≡ Some kept → moved_or_stale to.moment kept ≡ answer_of world (Move id to.at to.moment)
move_answer world id to kept there = sym (ap (λ o. option_map_or (moved_or_stale to.moment) o Absent) there)

-- a move whose moment is below the kept one comes too late
pub move-stale : (world : World) (id : ℕ) (to kept : Stamped) → position_of world id ≡ Some kept → to.moment < kept.moment → Stale kept ≡ answer_of world (Move id to.at to.moment)
move-stale world id to kept there less = sym (ap (λ b. if b then Stale kept else Moved kept) (lt-ltb to.moment kept.moment less)) ∙ move_answer world id to kept there

-- each other one is made
pub move-moved : (world : World) (id : ℕ) (to kept : Stamped) → position_of world id ≡ Some kept → kept.moment ≤ to.moment → Moved kept ≡ answer_of world (Move id to.at to.moment)
move-moved world id to kept there le = sym (ap (λ b. if b then Stale kept else Moved kept) (le-ltb to.moment kept.moment le)) ∙ move_answer world id to kept there

-- a table whose map went and came back
pub same_table : {I P : Type 0} (leaves : I → List Leaf) (w : ℕ) (old new : Inside I P) → IsTable leaves w old → new.members ≡ old.members → leaves new.index ≡ leaves old.index → new.crowded.names ≡ old.crowded.names
    → new.size ≡ old.size → IsTable leaves w new
same_table leaves w old new is members index names size =
    record {
      world = subst IsWorld (sym members) is.world;
      rows = subst (λ (ls : List Leaf). AllByRecursion (HasRowsOf (places_of new.members)) ls) (sym index) (subst (λ (ms : World). AllByRecursion (HasRowsOf (places_of ms)) (leaves old.index)) (sym members) is.rows);
      crowded = names ∙ is.crowded ∙ (λ i. crowded_of w (sym size i) (sym index i));
    }

pub same_view : {I P : Type 0} (leaves : I → List Leaf) (old new : Inside I P) → new.members ≡ old.members → leaves new.index ≡ leaves old.index → new.size ≡ old.size → table_of leaves new ≡ table_of leaves old
same_view leaves old new members index size = λ i. record { leaves = index i; world = members i; size = size i }

-- what a match tells of an option that is known
pub match_none : {A : Type 0} (o : Option A) (P : Type 0) (Q : A → Type 0) → MatchOption o P Q → o ≡ None → P
match_none None P Q is e = is
match_none (Some a) P Q is e = cc e

pub match_some : {A : Type 0} (o : Option A) (a : A) (P : Type 0) (Q : A → Type 0) → MatchOption o P Q → o ≡ Some a → Q a
match_some o a P Q is e = subst (λ p. MatchOption p P Q) e is

-- points that are told apart by their coordinates
pub same_point : (p q : Point) → nat_eq p.x q.x && nat_eq p.y q.y ≡ true → p ≡ q
same_point p q is =
    let x : p.x ≡ q.x = grind (arith, nat_tests, common_steps) in
    let y : p.y ≡ q.y = grind (arith, nat_tests, common_steps) in
    λ i. record { x = x i; y = y i }

-- points that differ have other keys
pub other_key : (p q : Point) → nat_eq p.x q.x && nat_eq p.y q.y ≡ false → point_of (key_of p) ≡ p → point_of (key_of q) ≡ q → (key_of p == key_of q) ≡ false
other_key p q differ back again = by_test (key_of p == key_of q) (λ e. sym back ∙ ap point_of (eqb-true (key_of p) (key_of q) e) ∙ again)
  where
    is_same : p ≡ q → nat_eq p.x q.x && nat_eq p.y q.y ≡ true
    is_same e = let same : p ≡ q = e in grind (arith, nat_tests, common_steps)

    by_test : (b : Bool) → (b ≡ true → p ≡ q) → b ≡ false
    by_test true same = absurd (true≢false (sym (is_same (same refl)) ∙ differ))
    by_test false same = refl
