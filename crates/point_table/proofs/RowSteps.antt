-- What a table keeps once a row was put into its index, or taken out.
use Rattle.std.proofs.Common.{◌≡◌, ℕ, Bool, true, false, cond, ◌≤◌, List, [], ◌∷◌, Option, Some, None, arith, refl, sym, ap, subst, ◌∙◌}
use Rattle.std.specs.Prelude.{IfSome, ◌==◌, ◌&&◌}
use Rattle.std.specs.List.{AllByRecursion}
use Rattle.std.specs.Option.{option_map}
use Rattle.zorder.specs.declared.points.Point.{Point}
use Rattle.zorder.specs.declared.points.Placed.{Placed}
use Rattle.plain_list.specs.declared.world.Stamped.{Stamped}
use Rattle.zorder.specs.Key.{key_of, is_under}
use Rattle.zorder.specs.SameName.{same_name, same_name-decides}
use Rattle.bucket_versions.specs.declared.row.RowChange.{RowChange}
use Rattle.bucket_versions.specs.Rows.{Rows, has_row, after_put, after_gone}
use Rattle.plain_list.specs.State.{OpenSplit, is_splitting}
use Rattle.index_layer.specs.Leaves.{Leaf, AreLeaves, names_of, has_name, leaf_under, replaced, with_bucket}
use Rattle.index_layer.specs.RowChanges.{ChangesAt, Moves}
use Rattle.index_layer.specs.Stands.{HasRowsOf, is_at_key}
use Rattle.zorder.specs.Tile.{tiles_from}
use Rattle.index_layer.proofs.LeafChanges.{names_of-replaced, with_bucket-name}
use Rattle.index_layer.proofs.MovedRows.{leaf_under-replaced}
use Rattle.index_layer.proofs.FoundLeaves.{found_named, found_has}
use Rattle.index_layer.proofs.LeafNames.{find-among, one-leaf}
use Rattle.zorder.proofs.Places.{key_of-lt}
use Rattle.point_table.proofs.Uncrowded.{left_names}
use Rattle.std.proofs.lemmas.Bool.{eq-eqb}
use mathlib.Core.Bool.{true≢false}
use Rattle.plain_list.proofs.Members.{position_of-without}
use Rattle.point_table.proofs.CrowdLemmas.{crowded_of-replaced}
use Rattle.std.proofs.lemmas.Bool.Decides.{nat_tests}
use Rattle.std.proofs.lemmas.Grind.{common_steps}
use Rattle.plain_list.specs.Places.{IsRising, place_of}
use Rattle.plain_list.specs.World.{World, member_of, places_of, position_of, IsWorld}
use Rattle.plain_list.specs.Answer.{with_member, with_moved, without}
use Rattle.plain_list.proofs.MemberMaps.{with_moved-absent, IsAbove-lower}
use Rattle.point_table.specs.Changes.{KeepsAt}
use Rattle.point_table.specs.Crowds.{crowded_of, mark_under, left_under, marked_two}
use Rattle.point_table.proofs.Settled.{settled_then}
use Rattle.point_table.proofs.TableSteps.{Steps, put_steps, gone_steps, as_leaf, with_member-without}

-- what holds of each value holds of an option's
pub if_some : {A : Type 0} (o : Option A) (P : A → Type 0) → ((a : A) → o ≡ Some a → P a) → IfSome o P
if_some None P each = tt
if_some (Some a) P each = each a refl

-- the leaf of the key after the change
pub leaf_after : (key : ℕ) (change : Rows → Rows) (old new : List Leaf) (at : ChangesAt key change old new)
    → leaf_under key new ≡ Some (record { name = at.leaf.name; bucket = change at.leaf.bucket })
leaf_after key change old new at =
    ap (leaf_under key) at.leaves ∙ leaf_under-replaced key at.leaf.name (change at.leaf.bucket) old
    ∙ ap (option_map (with_bucket at.leaf.name (change at.leaf.bucket))) at.found
    ∙ ap (λ b. Some (cond b (record { name = at.leaf.name; bucket = change at.leaf.bucket }) at.leaf)) ((same_name-decides at.leaf.name at.leaf.name).1 refl)

-- a row of an object comes or goes, and keeps the base or doesn't
abbrev pub change_of : ℕ → Point → Bool → RowChange
change_of id at keeps = record { row = record { key = key_of at; id = id }; keeps_base = keeps }

module _ (w size : ℕ) (splits : List OpenSplit) (keeps : Bool) (old new : List Leaf) (world : World) (names after : List (List Bool)) (are : AreLeaves old)
    (rows : AllByRecursion (HasRowsOf (places_of world)) old) (was : names ≡ crowded_of w size old) where
  pub put_after : (id : ℕ) (to : Stamped) → position_of world id ≡ None → (change : ChangesAt (key_of to.at) (after_put (change_of id to.at keeps)) old new) → KeepsAt splits old (key_of to.at) keeps
      → ((l : Leaf) → leaf_under (key_of to.at) new ≡ Some l → after ≡ mark_under w size l names) → Steps w size splits old new (with_member (member_of id to) world) after
  put_after id to none change keeps_is marks =
      let key = key_of to.at in
      let row = after_put (change_of id to.at keeps) in
      let steps = put_steps w size splits keeps old new world (member_of id to) _ _ names are.tile rows none (as_leaf w size key row old new change) was (keeps_is change.leaf change.found) in
      record { rows = steps.rows; crowded = marks _ (leaf_after key row old new change) ∙ steps.crowded; bases = steps.bases; settled = steps.settled }

  pub gone_after : (id : ℕ) (kept : Stamped) → position_of world id ≡ Some kept → (change : ChangesAt (key_of kept.at) (after_gone (change_of id kept.at keeps)) old new) → KeepsAt splits old (key_of kept.at) keeps
      → ((l : Leaf) → leaf_under (key_of kept.at) new ≡ Some l → after ≡ left_under w size l names) → Steps w size splits old new (without id world) after
  gone_after id kept there change keeps_is marks =
      let key = key_of kept.at in
      let gone = change_of id kept.at keeps in
      let row = after_gone gone in
      let steps = gone_steps w size splits keeps old new world id kept _ _ names are.tile rows there (as_leaf w size key row old new change) was (keeps_is change.leaf change.found) in
      let left = left_names w size key gone change.leaf old names was change.found in
      record { rows = steps.rows; crowded = marks _ (leaf_after key row old new change) ∙ left ∙ steps.crowded; bases = steps.bases; settled = steps.settled }

-- putting a bucket under a name twice is putting the last one
same_bucket : (name : List Bool) (a b : Rows) (l : Leaf) → with_bucket name b (with_bucket name a l) ≡ with_bucket name b l
same_bucket name a b l = by_test (same_name l.name name) refl
  where
    by_test : (t : Bool) → same_name l.name name ≡ t → with_bucket name b (cond t (record { name = l.name; bucket = a }) l) ≡ with_bucket name b l
    by_test true is =
        ap (λ t. cond t (record { name = l.name; bucket = b }) (record { name = l.name; bucket = a })) is ∙ sym (ap (λ t. cond t (record { name = l.name; bucket = b }) l) is)
    by_test false is = refl

pub replaced-twice : (name : List Bool) (a b : Rows) (leaves : List Leaf) → replaced name b (replaced name a leaves) ≡ replaced name b leaves
replaced-twice name a b [] = refl
replaced-twice name a b (l ∷ leaves) = λ i. same_bucket name a b l i ∷ replaced-twice name a b leaves i

-- an object that stays where it is
pub with_moved-same : (id : ℕ) (kept : Stamped) (ms : World) → IsRising (places_of ms) → position_of ms id ≡ Some kept → with_moved id kept ms ≡ ms
with_moved-same id kept [] rising there = refl
with_moved-same id kept (m ∷ ms) rising there =
    let rest : position_of ms id ≡ Some kept → with_moved id kept ms ≡ ms = with_moved-same id kept ms rising.1 in
    let behind : m.id ≤ id → id ≤ m.id → with_moved id kept ms ≡ ms = λ le ge. with_moved-absent id kept ms (IsAbove-lower id m.id ms ge rising.0) in
    grind (arith, nat_tests, common_steps)

-- an object that has gone isn't there
position_of-gone : (id : ℕ) (world : World) → position_of (without id world) id ≡ None
position_of-gone id world = position_of-without id world id ∙ ap (λ b. cond b None (position_of world id)) (eq-eqb id id refl)

-- a leaf that was changed twice may be marked twice
twice : (w size : ℕ) (n : List Bool) (a b : Rows) (old new : List Leaf) (names : List (List Bool)) → new ≡ replaced n b (replaced n a old) → tiles_from 0 (names_of old) ≡ true → has_name n old ≡ true
    → has_name n (replaced n b old) ≡ true → names ≡ crowded_of w size old
    → mark_under w size (record { name = n; bucket = b }) (mark_under w size (record { name = n; bucket = b }) names) ≡ crowded_of w size new
twice w size n a b old new names is tile has had was =
    let mark : List (List Bool) → List (List Bool) = mark_under w size (record { name = n; bucket = b }) in
    let tile_after : tiles_from 0 (names_of (replaced n b old)) ≡ true = ap (tiles_from 0) (names_of-replaced n b old) ∙ tile in
    ap (λ (ns : List (List Bool)). mark (mark ns)) was
    ∙ ap mark (sym (crowded_of-replaced w size 0 n b old tile has))
    ∙ sym (crowded_of-replaced w size 0 n b (replaced n b old) tile_after had)
    ∙ ap (crowded_of w size) (replaced-twice n b b old ∙ sym (replaced-twice n a b old) ∙ sym is)

-- a leaf that was changed twice is marked once
once : (w size : ℕ) (n : List Bool) (a b : Rows) (old new : List Leaf) (names : List (List Bool)) → new ≡ replaced n b (replaced n a old) → tiles_from 0 (names_of old) ≡ true → has_name n old ≡ true
    → names ≡ crowded_of w size old → mark_under w size (record { name = n; bucket = b }) names ≡ crowded_of w size new
once w size n a b old new names is tile has was =
    ap (mark_under w size (record { name = n; bucket = b })) was
    ∙ sym (crowded_of-replaced w size 0 n b old tile has)
    ∙ ap (crowded_of w size) (sym (replaced-twice n a b old) ∙ sym is)

pub move_after : (w size : ℕ) (splits : List OpenSplit) (from_keeps to_keeps : Bool) (old new : List Leaf) (world : World) (names after : List (List Bool)) → AreLeaves old → AllByRecursion (HasRowsOf (places_of world)) old → names ≡ crowded_of w size old
    → IsWorld world → (id : ℕ) (kept wanted : Stamped) → position_of world id ≡ Some kept
    → (moves : Moves (change_of id kept.at from_keeps) (change_of id wanted.at to_keeps) old new) → KeepsAt splits old (key_of kept.at) from_keeps → KeepsAt splits old (key_of wanted.at) to_keeps
    → ((l m : Leaf) → leaf_under (key_of kept.at) new ≡ Some l → leaf_under (key_of wanted.at) new ≡ Some m → after ≡ marked_two w size (key_of kept.at) l m names)
    → Steps w size splits old new (with_moved id wanted world) after
move_after w size splits from_keeps to_keeps old new world names after are rows was is_world id kept wanted there moves from_is_open to_is_open marks =
    record {
      rows = subst (λ (ms : World). AllByRecursion (HasRowsOf (places_of ms)) new) (with_member-without id kept wanted world is_world there) put.rows;
      crowded = marks _ _ from_is to_is ∙ by_under (is_under to.name (key_of kept.at)) refl;
      bases = put.bases ∙ gone.bases;
      settled = settled_then splits old between new gone.settled put.settled;
    }
  where
    between : List Leaf
    between = moves.between

    take_it : Rows → Rows
    take_it = after_gone (change_of id kept.at from_keeps)

    put_it : Rows → Rows
    put_it = after_put (change_of id wanted.at to_keeps)

    here : Leaf
    here = record { name = moves.takes.leaf.name; bucket = take_it moves.takes.leaf.bucket }

    to : Leaf
    to = record { name = moves.puts.leaf.name; bucket = put_it moves.puts.leaf.bucket }

    gone : Steps w size splits old between (without id world) (mark_under w size here names)
    gone =
        gone_steps w size splits from_keeps old between world id kept _ _ names are.tile rows there (as_leaf w size (key_of kept.at) take_it old between moves.takes) was
        (from_is_open moves.takes.leaf moves.takes.found)

    tile : tiles_from 0 (names_of between) ≡ true
    tile = ap (λ (ls : List Leaf). tiles_from 0 (names_of ls)) moves.takes.leaves ∙ ap (tiles_from 0) (names_of-replaced here.name here.bucket old) ∙ are.tile

    named : (o : Option Leaf) → leaf_under (key_of wanted.at) old ≡ o → option_map (with_bucket here.name here.bucket) o ≡ Some moves.puts.leaf → to_keeps ≡ is_splitting splits moves.puts.leaf.name
    named None found is = cc is
    named (Some l) found is =
        to_is_open l found ∙ ap (is_splitting splits) (sym (with_bucket-name here.name here.bucket l) ∙ ap (λ (m : Leaf). m.name) (some_is (with_bucket here.name here.bucket l) moves.puts.leaf is))
      where
        some_is : (a b : Leaf) → Some a ≡ Some b → a ≡ b
        some_is a b e = cc e

    to_between : to_keeps ≡ is_splitting splits moves.puts.leaf.name
    to_between =
        named (leaf_under (key_of wanted.at) old) refl
        (sym (leaf_under-replaced (key_of wanted.at) here.name here.bucket old) ∙ ap (leaf_under (key_of wanted.at)) (sym moves.takes.leaves) ∙ moves.puts.found)

    put : Steps w size splits between new (with_member (member_of id wanted) (without id world)) (mark_under w size to (mark_under w size here names))
    put =
        put_steps w size splits to_keeps between new (without id world) (member_of id wanted) _ _ (mark_under w size here names) tile gone.rows (position_of-gone id world)
        (as_leaf w size (key_of wanted.at) put_it between new moves.puts) gone.crowded to_between

    from_is : leaf_under (key_of kept.at) new ≡ Some (with_bucket to.name to.bucket here)
    from_is =
        ap (leaf_under (key_of kept.at)) moves.puts.leaves ∙ leaf_under-replaced (key_of kept.at) to.name to.bucket between
        ∙ ap (option_map (with_bucket to.name to.bucket)) (leaf_after (key_of kept.at) take_it old between moves.takes)

    to_is : leaf_under (key_of wanted.at) new ≡ Some to
    to_is = leaf_after (key_of wanted.at) put_it between new moves.puts

    has : has_name here.name old ≡ true
    has = (found_named (key_of kept.at) old moves.takes.leaf moves.takes.found).0

    had : has_name here.name (replaced here.name to.bucket old) ≡ true
    had =
        (found_named (key_of kept.at) (replaced here.name to.bucket old) (record { name = here.name; bucket = to.bucket })
        (leaf_after (key_of kept.at) (λ _. to.bucket) old (replaced here.name to.bucket old) (record { leaf = moves.takes.leaf; found = moves.takes.found; leaves = refl }))).0

    by_name : (t : Bool) → same_name here.name to.name ≡ t → mark_under w size to (mark_under w size (cond t (record { name = here.name; bucket = to.bucket }) here) names) ≡ crowded_of w size new
    by_name true is =
        let one : here.name ≡ to.name = (same_name-decides here.name to.name).0 is in
        ap (λ (n : List Bool). mark_under w size (record { name = n; bucket = to.bucket }) (mark_under w size (record { name = here.name; bucket = to.bucket }) names)) (sym one)
        ∙ twice w size here.name here.bucket to.bucket old new names
        (moves.puts.leaves ∙ (λ i. replaced (sym one i) to.bucket (moves.takes.leaves i))) are.tile has had was
    by_name false is = put.crowded

    tile_new : tiles_from 0 (names_of new) ≡ true
    tile_new = ap (λ (ls : List Leaf). tiles_from 0 (names_of ls)) moves.puts.leaves ∙ ap (tiles_from 0) (names_of-replaced to.name to.bucket between) ∙ tile

    from_leaf : Leaf
    from_leaf = with_bucket to.name to.bucket here

    one_name : is_under to.name (key_of kept.at) ≡ true → here.name ≡ to.name
    one_name under =
        let at_from = find-among (λ (l : Leaf). is_under l.name (key_of kept.at)) new from_leaf from_is in
        let at_to = find-among (λ (l : Leaf). is_under l.name (key_of wanted.at)) new to to_is in
        sym (with_bucket-name to.name to.bucket here) ∙ ap (λ (l : Leaf). l.name) (one-leaf new from_leaf to (key_of kept.at) tile_new (key_of-lt kept.at) at_from.0 at_to.0 at_from.1 under)

    by_under : (u : Bool) → is_under to.name (key_of kept.at) ≡ u → mark_under w size to (cond u names (left_under w size from_leaf names)) ≡ crowded_of w size new
    by_under true under =
        let one : here.name ≡ to.name = one_name under in
        ap (λ (n : List Bool). mark_under w size (record { name = n; bucket = to.bucket }) names) (sym one)
        ∙ once w size here.name here.bucket to.bucket old new names
        (moves.puts.leaves ∙ (λ i. replaced (sym one i) to.bucket (moves.takes.leaves i))) are.tile has was
    by_under false other =
        ap (mark_under w size to) (by_same (same_name here.name to.name) refl) ∙ by_name (same_name here.name to.name) refl
      where
        from_under : same_name here.name to.name ≡ true → is_under to.name (key_of kept.at) ≡ true
        from_under is = ap (λ n. is_under n (key_of kept.at)) (sym ((same_name-decides here.name to.name).0 is)) ∙ (found_named (key_of kept.at) old moves.takes.leaf moves.takes.found).1

        by_same : (t : Bool) → same_name here.name to.name ≡ t
            → left_under w size (cond t (record { name = here.name; bucket = to.bucket }) here) names ≡ mark_under w size (cond t (record { name = here.name; bucket = to.bucket }) here) names
        by_same true is = absurd (true≢false (sym (from_under is) ∙ other))
        by_same false is = left_names w size (key_of kept.at) (change_of id kept.at from_keeps) moves.takes.leaf old names was moves.takes.found

-- a row of an object that is elsewhere isn't in its leaf
pub row_elsewhere : (places : List Placed) (leaves : List Leaf) (id : ℕ) (from at : Point) → AllByRecursion (HasRowsOf places) leaves → place_of places id ≡ Some from → (key_of from == key_of at) ≡ false
    → (l : Leaf) → leaf_under (key_of at) leaves ≡ Some l → has_row (record { key = key_of at; id = id }) l.bucket.rows ≡ false
row_elsewhere places leaves id from at rows there other l found =
    found_has (HasRowsOf places) (key_of at) leaves l found rows (record { key = key_of at; id = id })
    ∙ ap (λ o. is_at_key (key_of at) o && is_under l.name (key_of at)) there ∙ ap (λ b. b && is_under l.name (key_of at)) other
