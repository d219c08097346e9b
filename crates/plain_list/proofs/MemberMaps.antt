-- A map from ids to points, and the world that it stands for.
use Rattle.std.proofs.Common.{◌≡◌, ℕ, ◌<◌, ◌≤◌, List, [], ◌∷◌, Option, Some, None, Result, Ok, Err, OnOk, OnErr, length, refl, sym, ◌∙◌, arith}
use Rattle.std.specs.Option.{MatchOption}
use Rattle.std.specs.Ordering.{nat_cmp}
use Rattle.std.specs.BTreeMap.{insert_entry, is_at}
use Rattle.std.specs.Map.{lookup, remove_entry, set_value}
use Rattle.std.proofs.lemmas.Bool.Decides.{nat_tests}
use Rattle.std.proofs.lemmas.Grind.{common_steps}
use Rattle.plain_list.specs.declared.world.Stamped.{Stamped}
use Rattle.zorder.specs.Key.{IsPoint}
use Rattle.plain_list.specs.Places.{IsRising, IsAbove}
use Rattle.plain_list.specs.World.{World, places_of, position_of, IsWorld, most_members, member_of}
use Rattle.plain_list.specs.Answer.{with_member, with_moved, without}
use Rattle.plain_list.specs.MemberMap.{world_of}
use Rattle.plain_list.proofs.Worlds.{IsWorld-with_member, IsWorld-with_moved}

pub position_of-world_of : (es : List (ℕ × Stamped)) (id : ℕ) → position_of (world_of es) id ≡ lookup (is_at (nat_cmp id)) es
position_of-world_of [] id = refl
position_of-world_of (e ∷ es) id =
    let rest : position_of (world_of es) id ≡ lookup (is_at (nat_cmp id)) es = position_of-world_of es id in
    grind (arith, nat_tests, common_steps)

pub world_of-insert_entry : (id : ℕ) (to : Stamped) (es : List (ℕ × Stamped)) → position_of (world_of es) id ≡ None → world_of (insert_entry nat_cmp es id to) ≡ with_member (member_of id to) (world_of es)
world_of-insert_entry id to [] none = refl
world_of-insert_entry id to (e ∷ es) none =
    let rest : position_of (world_of es) id ≡ None → world_of (insert_entry nat_cmp es id to) ≡ with_member (member_of id to) (world_of es) = world_of-insert_entry id to es in
    grind (arith, nat_tests, common_steps)

pub IsAbove-lower : (a b : ℕ) (ms : World) → a ≤ b → IsAbove b (places_of ms) → IsAbove a (places_of ms)
IsAbove-lower a b [] le above = tt
IsAbove-lower a b (m ∷ ms) le above = (omega (arith, le, above.0), IsAbove-lower a b ms le above.1)

pub without-absent : (id : ℕ) (ms : World) → IsAbove id (places_of ms) → without id ms ≡ ms
without-absent id [] above = refl
without-absent id (m ∷ ms) above =
    let rest : without id ms ≡ ms = without-absent id ms above.1 in
    let lt : id < m.id = above.0 in
    grind (arith, nat_tests, common_steps)

pub with_moved-absent : (id : ℕ) (to : Stamped) (ms : World) → IsAbove id (places_of ms) → with_moved id to ms ≡ ms
with_moved-absent id to [] above = refl
with_moved-absent id to (m ∷ ms) above =
    let rest : with_moved id to ms ≡ ms = with_moved-absent id to ms above.1 in
    let lt : id < m.id = above.0 in
    grind (arith, nat_tests, common_steps)

pub world_of-remove_entry : (id : ℕ) (es : List (ℕ × Stamped)) → IsRising (places_of (world_of es)) → world_of (remove_entry (is_at (nat_cmp id)) es) ≡ without id (world_of es)
world_of-remove_entry id [] rising = refl
world_of-remove_entry id (e ∷ es) rising =
    let rest : world_of (remove_entry (is_at (nat_cmp id)) es) ≡ without id (world_of es) = world_of-remove_entry id es rising.1 in
    let none : e.0 ≤ id → id ≤ e.0 → without id (world_of es) ≡ world_of es = λ le ge. without-absent id (world_of es) (IsAbove-lower id e.0 (world_of es) ge rising.0) in
    grind (arith, nat_tests, common_steps)

pub position_of-above : (id : ℕ) (ms : World) → IsAbove id (places_of ms) → position_of ms id ≡ None
position_of-above id [] above = refl
position_of-above id (m ∷ ms) above =
    let rest : position_of ms id ≡ None = position_of-above id ms above.1 in
    let lt : id < m.id = above.0 in
    grind (arith, nat_tests, common_steps)

-- an object that is found is the first one, or stands behind it with a greater id
pub world_of-insert_entry-there : (id : ℕ) (old to : Stamped) (es : List (ℕ × Stamped)) → IsRising (places_of (world_of es)) → position_of (world_of es) id ≡ Some old → world_of (insert_entry nat_cmp es id to) ≡ with_moved id to (world_of es)
world_of-insert_entry-there id old to [] rising found = cc
world_of-insert_entry-there id old to (e ∷ es) rising found =
    let rest : position_of (world_of es) id ≡ Some old → world_of (insert_entry nat_cmp es id to) ≡ with_moved id to (world_of es) = world_of-insert_entry-there id old to es rising.1 in
    let same : e.0 ≤ id → id ≤ e.0 → with_moved id to (world_of es) ≡ world_of es = λ le ge. with_moved-absent id to (world_of es) (IsAbove-lower id e.0 (world_of es) ge rising.0) in
    let none : id < e.0 → position_of (world_of es) id ≡ None = λ lt. position_of-above id (world_of es) (IsAbove-lower id e.0 (world_of es) (omega arith) rising.0) in
    grind (arith, nat_tests, common_steps)

-- an object is found, and moves where it stands
pub world_of-set_value : (id : ℕ) (to : Stamped) (es : List (ℕ × Stamped)) → IsRising (places_of (world_of es)) → world_of (set_value (is_at (nat_cmp id)) es to) ≡ with_moved id to (world_of es)
world_of-set_value id to [] rising = refl
world_of-set_value id to (e ∷ es) rising =
    let rest : world_of (set_value (is_at (nat_cmp id)) es to) ≡ with_moved id to (world_of es) = world_of-set_value id to es rising.1 in
    let same : e.0 ≤ id → id ≤ e.0 → with_moved id to (world_of es) ≡ world_of es = λ le ge. with_moved-absent id to (world_of es) (IsAbove-lower id e.0 (world_of es) ge rising.0) in
    grind (arith, nat_tests, common_steps)

-- an object that isn't there doesn't move
pub with_moved-none : (id : ℕ) (to : Stamped) (ms : World) → position_of ms id ≡ None → with_moved id to ms ≡ ms
with_moved-none id to [] none = refl
with_moved-none id to (n ∷ ns) none =
    let rest : position_of ns id ≡ None → with_moved id to ns ≡ ns = with_moved-none id to ns in
    grind (arith, nat_tests, common_steps)

-- an insert puts an object there, or moves it
pub record Inserts (id : ℕ) (to : Stamped) (there : Option Stamped) (old new : World) : Type 0 where
  pub world : IsWorld new
  pub is : MatchOption there (new ≡ with_member (member_of id to) old) (λ _. new ≡ with_moved id to old)

pub inserts : (id : ℕ) (to : Stamped) (there : Option Stamped) (es : List (ℕ × Stamped)) → IsWorld (world_of es) → length (world_of es) < most_members → IsPoint to.at → position_of (world_of es) id ≡ there
    → Inserts id to there (world_of es) (world_of (insert_entry nat_cmp es id to))
inserts id to None es w few fits none =
    let is = world_of-insert_entry id to es none in
    record { world = rw is (IsWorld-with_member (member_of id to) (world_of es) w none few fits); is = is }
inserts id to (Some old) es w few fits there =
    let is = world_of-insert_entry-there id old to es w.rising there in
    record { world = rw is (IsWorld-with_moved id to (world_of es) w fits); is = is }

-- an insert of an object that wasn't there
pub inserted_new : {A : Type 0} (there : Option A) (P : Type 0) (Q : A → Type 0) → MatchOption there P Q → there ≡ None → P
inserted_new None P Q is none = is
inserted_new (Some a) P Q is none = cc none

-- an insert at a key that is there can't fail
pub inserted_there : {R E V : Type 0} (r : Result R E) (P : Type 0) (found : Option V) (old : V) → OnOk r P → OnErr r (found ≡ None) → found ≡ Some old → P
inserted_there (Ok x) P found old ok err there = ok
inserted_there (Err e) P found old ok err there = let none : Some old ≡ None = sym there ∙ err in cc none

pub on_err_anyway : {A E : Type 0} (r : Result A E) (P : Type 0) → P → OnErr r P
on_err_anyway (Ok x) P p = tt
on_err_anyway (Err e) P p = p
