-- What a table keeps through a put and a removal.
use Rattle.std.proofs.Common.{◌≡◌, ℕ, ◌<◌, ◌≤◌, ◌^◌, Bool, true, false, cond, List, [], ◌∷◌, Option, Some, None, refl, sym, ap, subst, ◌∙◌, arith}
use Rattle.std.specs.Prelude.{◌&&◌}
use mathlib.Core.Bool.{true≢false}
use Rattle.std.specs.List.{find, AllByRecursion}
use Rattle.std.specs.Option.{option_map}
use Rattle.std.proofs.lemmas.Bool.{eq-eqb}
use Rattle.std.proofs.lemmas.Bool.Decides.{nat_tests}
use Rattle.std.proofs.lemmas.Grind.{common_steps}
use Rattle.zorder.specs.declared.points.Point.{Point}
use Rattle.zorder.specs.declared.points.Placed.{Placed}
use Rattle.plain_list.specs.declared.world.Member.{Member}
use Rattle.plain_list.specs.declared.world.Stamped.{Stamped}
use Rattle.zorder.specs.Key.{key_of, is_under}
use Rattle.zorder.specs.Tile.{tiles_from, next_key}
use Rattle.zorder.proofs.Places.{key_of-lt}
use Rattle.zorder.specs.SameName.{same_name, same_name-decides}
use Rattle.bucket_versions.specs.declared.row.Row.{Row}
use Rattle.bucket_versions.specs.Rows.{Rows, has_row, with_row, without_row, after_put, after_gone}
use Rattle.index_layer.specs.Leaves.{Leaf, names_of, leaf_under, replaced}
use Rattle.index_layer.specs.RowChanges.{ChangesAt}
use Rattle.index_layer.specs.Stands.{HasRowsOf, is_at_key}
use Rattle.index_layer.proofs.FoundLeaves.{found_named, found_has}
use Rattle.plain_list.specs.Places.{IsRising, IsAbove, place_of}
use Rattle.plain_list.specs.World.{World, placed_of, member_of, places_of, position_of, IsWorld}
use Rattle.plain_list.specs.Answer.{with_member, with_moved, without}
use Rattle.plain_list.specs.State.{OpenSplit, is_splitting}
use Rattle.point_table.specs.Changes.{ChangesLeaf, open_base, base_of, bases_of, AreSettled}
use Rattle.point_table.specs.Crowded.{remarked}
use Rattle.point_table.specs.Crowds.{is_crowded, crowded_of}
use Rattle.point_table.proofs.Covered.{Tiles, tiles, none_under, below_next, only_under}
use Rattle.point_table.proofs.CrowdLemmas.{crowded_of-replaced}
use Rattle.plain_list.proofs.MemberMaps.{IsAbove-lower, without-absent, with_moved-absent, position_of-above}
use Rattle.point_table.proofs.PlacesAfter.{place-none, place-some, places-with_member, places-without}
use Rattle.point_table.proofs.Settled.{open_or_none, settled_replaced}
use Rattle.point_table.proofs.Standing.{find-names_of, rows_after_put}
use Rattle.point_table.proofs.StandingLess.{rows_after_gone}

-- the object's row isn't in its leaf
pub row_absent : (places : List Placed) (leaves : List Leaf) (id : ℕ) (at : Point) → AllByRecursion (HasRowsOf places) leaves → place_of places id ≡ None
    → (l : Leaf) → leaf_under (key_of at) leaves ≡ Some l → has_row (record { key = key_of at; id = id }) l.bucket.rows ≡ false
row_absent places leaves id at rows none l found =
    let row : Row = record { key = key_of at; id = id } in
    found_has (HasRowsOf places) (key_of at) leaves l found rows row ∙ ap (λ o. is_at_key (key_of at) o && is_under l.name (key_of at)) none

-- the object's row is in its leaf
pub row_there : (places : List Placed) (leaves : List Leaf) (id : ℕ) (at : Point) → AllByRecursion (HasRowsOf places) leaves → place_of places id ≡ Some at
    → (l : Leaf) → leaf_under (key_of at) leaves ≡ Some l → has_row (record { key = key_of at; id = id }) l.bucket.rows ≡ true
row_there places leaves id at rows there l found =
    let row : Row = record { key = key_of at; id = id } in
    found_has (HasRowsOf places) (key_of at) leaves l found rows row
    ∙ ap (λ o. is_at_key (key_of at) o && is_under l.name (key_of at)) there
    ∙ ap (λ b. b && is_under l.name (key_of at)) (eq-eqb (key_of at) (key_of at) refl)
    ∙ (found_named (key_of at) leaves l found).1

base_if : (splits : List OpenSplit) (b : Bool) (l : Leaf) (bucket : Rows) → (b ≡ true → open_base (is_splitting splits l.name) bucket.base ≡ open_base (is_splitting splits l.name) l.bucket.base)
    → base_of splits (cond b (record { name = l.name; bucket = bucket }) l) ≡ base_of splits l
base_if splits true l bucket same = ap (λ (base : Option (List Row)). record { name = l.name; base = base }) (same refl)
base_if splits false l bucket same = refl

same_open : (b : Bool) (one other : List Row) → (b ≡ true → one ≡ other) → open_base b one ≡ open_base b other
same_open true one other same = ap Some (same refl)
same_open false one other same = refl

-- a leaf that is replaced by one on the same base, where its split is open
bases_of-replaced : (splits : List OpenSplit) (leaf : Leaf) (bucket : Rows) (leaves : List Leaf) → (is_splitting splits leaf.name ≡ true → bucket.base ≡ leaf.bucket.base)
    → AllByRecursion (λ (l : Leaf). same_name l.name leaf.name ≡ true → l.bucket.base ≡ leaf.bucket.base) leaves → bases_of splits (replaced leaf.name bucket leaves) ≡ bases_of splits leaves
bases_of-replaced splits leaf bucket [] same all = refl
bases_of-replaced splits leaf bucket (l ∷ leaves) same all = λ i. base_if splits (same_name l.name leaf.name) l bucket first i ∷ bases_of-replaced splits leaf bucket leaves same all.1 i
  where
    first : same_name l.name leaf.name ≡ true → open_base (is_splitting splits l.name) bucket.base ≡ open_base (is_splitting splits l.name) l.bucket.base
    first e =
        same_open (is_splitting splits l.name) bucket.base l.bucket.base
        (λ is. same (ap (is_splitting splits) (sym ((same_name-decides l.name leaf.name).0 e)) ∙ is) ∙ sym (all.0 e))

none_same : (key : ℕ) (leaf : Leaf) (leaves : List Leaf) → is_under leaf.name key ≡ true → AllByRecursion (λ (n : List Bool). is_under n key ≡ false) (names_of leaves)
    → AllByRecursion (λ (l : Leaf). same_name l.name leaf.name ≡ true → l.bucket.base ≡ leaf.bucket.base) leaves
none_same key leaf [] under none = tt
none_same key leaf (l ∷ leaves) under none =
    (λ e. absurd (true≢false (sym under ∙ ap (λ n. is_under n key) (sym ((same_name-decides l.name leaf.name).0 e)) ∙ none.0)), none_same key leaf leaves under none.1)

-- a leaf of the found one's name is the found one
only_found : (k key : ℕ) (leaves : List Leaf) (leaf : Leaf) → tiles_from k (names_of leaves) ≡ true → key < 2 ^ 64 → leaf_under key leaves ≡ Some leaf
    → AllByRecursion (λ (l : Leaf). same_name l.name leaf.name ≡ true → l.bucket.base ≡ leaf.bucket.base) leaves
only_found k key [] leaf tile small found = tt
only_found k key (l ∷ leaves) leaf tile small found = by_test (is_under l.name key) refl found (only_found (next_key l.name) key leaves leaf)
  where
    t : Tiles k l.name (names_of leaves)
    t = tiles k l.name (names_of leaves) tile

    Same : Leaf → Type 0
    Same m = same_name m.name leaf.name ≡ true → m.bucket.base ≡ leaf.bucket.base

    by_test : (b : Bool) → is_under l.name key ≡ b → cond b (Some l) (leaf_under key leaves) ≡ Some leaf
        → (tiles_from (next_key l.name) (names_of leaves) ≡ true → key < 2 ^ 64 → leaf_under key leaves ≡ Some leaf → AllByRecursion (λ (m : Leaf). same_name m.name leaf.name ≡ true → m.bucket.base ≡ leaf.bucket.base) leaves)
        → (same_name l.name leaf.name ≡ true → l.bucket.base ≡ leaf.bucket.base) × AllByRecursion (λ (m : Leaf). same_name m.name leaf.name ≡ true → m.bucket.base ≡ leaf.bucket.base) leaves
    by_test true under here rest =
        let is : l ≡ leaf = cc in
        let leaf_is : is_under leaf.name key ≡ true = ap (λ (m : Leaf). is_under m.name key) (sym is) ∙ under in
        (λ e. ap (λ (m : Leaf). m.bucket.base) is, none_same key leaf leaves leaf_is (none_under (next_key l.name) key (names_of leaves) t.rest small (below_next l.name key t.short small under)))
    by_test false other there rest =
        let leaf_is = (found_named key leaves leaf there).1 in
        (λ e. absurd (true≢false (sym leaf_is ∙ ap (λ n. is_under n key) (sym ((same_name-decides l.name leaf.name).0 e)) ∙ other)), rest t.rest small there)

-- the leaves stand for a world, those to be split are known, names and the bases of open splits are as before, and the other leaves are settled
pub record Steps (w size : ℕ) (splits : List OpenSplit) (old new : List Leaf) (world : World) (names : List (List Bool)) : Type 0 where
  pub rows : AllByRecursion (HasRowsOf (places_of world)) new
  pub crowded : names ≡ crowded_of w size new
  pub bases : bases_of splits new ≡ bases_of splits old
  pub settled : AreSettled splits old new

pub put_steps : (w size : ℕ) (splits : List OpenSplit) (keeps : Bool) (old new : List Leaf) (world : World) (m : Member) (name : List Bool) (crowded : Bool) (names : List (List Bool)) → tiles_from 0 (names_of old) ≡ true → AllByRecursion (HasRowsOf (places_of world)) old
    → position_of world m.id ≡ None → (change : ChangesLeaf w size (key_of m.at) (after_put (record { row = record { key = key_of m.at; id = m.id }; keeps_base = keeps })) old new name crowded) → names ≡ crowded_of w size old
    → keeps ≡ is_splitting splits change.leaf.name → Steps w size splits old new (with_member m world) (remarked crowded name names)
put_steps w size splits keeps old new world m name crowded names tile rows none change was keeps_is =
    let key = key_of m.at in
    let leaf = change.leaf in
    let row : Row = record { key = key; id = m.id } in
    let bucket = after_put (record { row = row; keeps_base = keeps }) leaf.bucket in
    let found : find (λ n. is_under n key) (names_of old) ≡ Some leaf.name = find-names_of key old ∙ ap (option_map (λ (l : Leaf). l.name)) change.found in
    let only = only_under 0 key (names_of old) leaf.name tile (key_of-lt m.at) found in
    record {
      rows = subst (AllByRecursion (HasRowsOf (places_of (with_member m world)))) (sym change.leaves)
          (rows_after_put (places_of world) (places_of (with_member m world)) (placed_of m) leaf bucket old only.1 only.0 (place-none world m.id none) (places-with_member m world none) (found_has (HasRowsOf (places_of world)) key old leaf change.found rows) refl rows);
      crowded =
          ap (λ (n : List Bool). remarked crowded n names) change.name_is ∙ ap (remarked crowded leaf.name) was ∙ ap (λ b. remarked b leaf.name (crowded_of w size old)) change.crowded_is
          ∙ sym (crowded_of-replaced w size 0 leaf.name bucket old tile (found_named key old leaf change.found).0) ∙ ap (crowded_of w size) (sym change.leaves);
      bases =
          ap (bases_of splits) change.leaves
          ∙ bases_of-replaced splits leaf bucket old (λ is. ap (λ b. cond b leaf.bucket.base (with_row row leaf.bucket.rows)) (keeps_is ∙ is)) (only_found 0 key old leaf tile (key_of-lt m.at) change.found);
      settled =
          subst (AreSettled splits old) (sym change.leaves)
          (settled_replaced splits leaf.name bucket old (open_or_none keeps (is_splitting splits leaf.name) leaf.bucket.base (with_row row leaf.bucket.rows) keeps_is));
    }

pub gone_steps : (w size : ℕ) (splits : List OpenSplit) (keeps : Bool) (old new : List Leaf) (world : World) (id : ℕ) (kept : Stamped) (name : List Bool) (crowded : Bool) (names : List (List Bool)) → tiles_from 0 (names_of old) ≡ true → AllByRecursion (HasRowsOf (places_of world)) old
    → position_of world id ≡ Some kept → (change : ChangesLeaf w size (key_of kept.at) (after_gone (record { row = record { key = key_of kept.at; id = id }; keeps_base = keeps })) old new name crowded) → names ≡ crowded_of w size old
    → keeps ≡ is_splitting splits change.leaf.name → Steps w size splits old new (without id world) (remarked crowded name names)
gone_steps w size splits keeps old new world id kept name crowded names tile rows there change was keeps_is =
    let key = key_of kept.at in
    let leaf = change.leaf in
    let row : Row = record { key = key; id = id } in
    let bucket = after_gone (record { row = row; keeps_base = keeps }) leaf.bucket in
    let found : find (λ n. is_under n key) (names_of old) ≡ Some leaf.name = find-names_of key old ∙ ap (option_map (λ (l : Leaf). l.name)) change.found in
    let only = only_under 0 key (names_of old) leaf.name tile (key_of-lt kept.at) found in
    record {
      rows = subst (AllByRecursion (HasRowsOf (places_of (without id world)))) (sym change.leaves)
          (rows_after_gone (places_of world) (places_of (without id world)) id kept.at leaf bucket old only.1 (place-some world id kept there) (places-without id world) (found_has (HasRowsOf (places_of world)) key old leaf change.found rows) refl rows);
      crowded =
          ap (λ (n : List Bool). remarked crowded n names) change.name_is ∙ ap (remarked crowded leaf.name) was ∙ ap (λ b. remarked b leaf.name (crowded_of w size old)) change.crowded_is
          ∙ sym (crowded_of-replaced w size 0 leaf.name bucket old tile (found_named key old leaf change.found).0) ∙ ap (crowded_of w size) (sym change.leaves);
      bases =
          ap (bases_of splits) change.leaves
          ∙ bases_of-replaced splits leaf bucket old (λ is. ap (λ b. cond b leaf.bucket.base (without_row row leaf.bucket.rows)) (keeps_is ∙ is)) (only_found 0 key old leaf tile (key_of-lt kept.at) change.found);
      settled =
          subst (AreSettled splits old) (sym change.leaves)
          (settled_replaced splits leaf.name bucket old (open_or_none keeps (is_splitting splits leaf.name) leaf.bucket.base (without_row row leaf.bucket.rows) keeps_is));
    }

above_first : (id : ℕ) (to : Stamped) (ms : World) → IsAbove id (places_of ms) → with_member (member_of id to) ms ≡ member_of id to ∷ ms
above_first id to [] above = refl
above_first id to (m ∷ ms) above =
    let lt : id < m.id = above.0 in
    grind (arith, nat_tests, common_steps)

moves : (id : ℕ) (old to : Stamped) (ms : World) → IsRising (places_of ms) → position_of ms id ≡ Some old → with_member (member_of id to) (without id ms) ≡ with_moved id to ms
moves id old to [] rising there = cc
moves id old to (m ∷ ms) rising there =
    let rest : position_of ms id ≡ Some old → with_member (member_of id to) (without id ms) ≡ with_moved id to ms = moves id old to ms rising.1 in
    let gone : m.id ≤ id → id ≤ m.id → without id ms ≡ ms = λ le ge. without-absent id ms (IsAbove-lower id m.id ms ge rising.0) in
    let kept : m.id ≤ id → id ≤ m.id → with_moved id to ms ≡ ms = λ le ge. with_moved-absent id to ms (IsAbove-lower id m.id ms ge rising.0) in
    let first : m.id ≤ id → id ≤ m.id → with_member (member_of id to) ms ≡ member_of id to ∷ ms = λ le ge. above_first id to ms (IsAbove-lower id m.id ms ge rising.0) in
    let none : id < m.id → position_of ms id ≡ None = λ lt. position_of-above id ms (IsAbove-lower id m.id ms (omega arith) rising.0) in
    grind (arith, nat_tests, common_steps)

-- an object that moves is one that goes and comes
pub with_member-without : (id : ℕ) (old to : Stamped) (world : World) → IsWorld world → position_of world id ≡ Some old → with_member (member_of id to) (without id world) ≡ with_moved id to world
with_member-without id old to world w there = moves id old to world w.rising there

-- one leaf's bucket has changed, and whether it is to be split is told by its rows
abbrev pub as_leaf : (w size key : ℕ) (change : Rows → Rows) (old new : List Leaf) (at : ChangesAt key change old new)
    → ChangesLeaf w size key change old new at.leaf.name (is_crowded w size (record { name = at.leaf.name; bucket = change at.leaf.bucket }))
as_leaf w size key change old new at = record { leaf = at.leaf; found = at.found; name_is = refl; leaves = at.leaves; crowded_is = refl }
