-- A row that isn't there is not there after another one was taken out.
use Rattle.std.proofs.Common.{◌≡◌, ℕ, ◌≤◌, Bool, true, false, not, ◌&&◌, List, [], ◌∷◌, length, Option, Some, None, cond, refl, sym, ap, ◌∙◌, subst}
use Rattle.std.specs.Prelude.{IfSome}
use Rattle.std.specs.Option.{option_map}
use Rattle.zorder.specs.Key.{is_under}
use Rattle.zorder.specs.SameName.{same_name, same_name-decides}
use Rattle.zorder.specs.Name.{first_key}
use Rattle.zorder.specs.Tile.{tiles_from}
use Rattle.bucket_versions.specs.declared.row.Row.{Row}
use Rattle.bucket_versions.specs.declared.row.RowChange.{RowChange}
use Rattle.bucket_versions.specs.Rows.{Rows, has_row, after_gone, without_row, same_row}
use Rattle.index_layer.specs.Leaves.{Leaf, AreLeaves, names_of, leaf_under, replaced, with_bucket}
use Rattle.index_layer.specs.RowChanges.{Holds, ChangesAt}
use Rattle.index_layer.proofs.LeafChanges.{with_bucket-name}
use Rattle.index_layer.proofs.LeafKeys.{first_key-fits, first_key-under}
use Rattle.index_layer.proofs.LeafNames.{IsAmong, find-among, short-among, one-leaf}
use Rattle.index_layer.proofs.Standing.{has_row-without_row}

-- no two leaves have one name
pub one-named : (leaves : List Leaf) (l m : Leaf) → tiles_from 0 (names_of leaves) ≡ true → IsAmong leaves l → IsAmong leaves m → l.name ≡ m.name → l ≡ m
one-named leaves l m tile first second same =
    let short : length l.name ≤ 64 = short-among leaves l tile first in
    let under : is_under l.name (first_key l.name) ≡ true = first_key-under l.name short in
    one-leaf leaves l m (first_key l.name) tile (first_key-fits l.name short) first second under (ap (λ (n : List Bool). is_under n (first_key l.name)) (sym same) ∙ under)

-- the leaf that a key is under, with another bucket under a name
pub leaf_under-replaced : (key : ℕ) (name : List Bool) (b : Rows) (leaves : List Leaf) → leaf_under key (replaced name b leaves) ≡ option_map (with_bucket name b) (leaf_under key leaves)
leaf_under-replaced key name b [] = refl
leaf_under-replaced key name b (l ∷ leaves) =
    ap (λ (n : List Bool). cond (is_under n key) (Some (with_bucket name b l)) (leaf_under key (replaced name b leaves))) (with_bucket-name name b l)
    ∙ by_test (is_under l.name key) (leaf_under-replaced key name b leaves)
  where
    by_test : (t : Bool) → leaf_under key (replaced name b leaves) ≡ option_map (with_bucket name b) (leaf_under key leaves)
        → cond t (Some (with_bucket name b l)) (leaf_under key (replaced name b leaves)) ≡ option_map (with_bucket name b) (cond t (Some l) (leaf_under key leaves))
    by_test true rest = refl
    by_test false rest = rest

pub holds-after : (from : RowChange) (to : Row) (old new : List Leaf) → AreLeaves old → ChangesAt from.row.key (after_gone from) old new → Holds to old false → Holds to new false
holds-after from to old new are change none =
    let is : leaf_under to.key new ≡ option_map (with_bucket change.leaf.name (after_gone from change.leaf.bucket)) (leaf_under to.key old) =
    ap (leaf_under to.key) change.leaves ∙ leaf_under-replaced to.key change.leaf.name (after_gone from change.leaf.bucket) old in
    let P : Option Leaf → Type 0 = λ o. IfSome o (λ (l : Leaf). has_row to l.bucket.rows ≡ false) in
    subst P (sym is) (by_found (leaf_under to.key old) refl none)
  where
    from_pass : (s has : Bool) → has ≡ false → (not s && has) ≡ false
    from_pass true has e = refl
    from_pass false has e = e

    gone_too : (l : Leaf) → l ≡ change.leaf → has_row to l.bucket.rows ≡ false → has_row to (without_row from.row change.leaf.bucket.rows) ≡ false
    gone_too l same absent =
        has_row-without_row from.row change.leaf.bucket.rows to
        ∙ from_pass (same_row from.row to) (has_row to change.leaf.bucket.rows) (ap (λ (m : Leaf). has_row to m.bucket.rows) (sym same) ∙ absent)

    by_name : (l : Leaf) (t : Bool) → same_name l.name change.leaf.name ≡ t → leaf_under to.key old ≡ Some l → has_row to l.bucket.rows ≡ false
        → has_row to (cond t (record { name = l.name; bucket = after_gone from change.leaf.bucket }) l).bucket.rows ≡ false
    by_name l false test found absent = absent
    by_name l true test found absent =
        let same : l.name ≡ change.leaf.name = (same_name-decides l.name change.leaf.name).0 test in
        gone_too l (one-named old l change.leaf are.tile (find-among (λ (m : Leaf). is_under m.name to.key) old l found).0 (find-among (λ (m : Leaf). is_under m.name from.row.key) old change.leaf change.found).0 same) absent

    by_found : (o : Option Leaf) → leaf_under to.key old ≡ o → IfSome o (λ (l : Leaf). has_row to l.bucket.rows ≡ false)
        → IfSome (option_map (with_bucket change.leaf.name (after_gone from change.leaf.bucket)) o) (λ (l : Leaf). has_row to l.bucket.rows ≡ false)
    by_found None found absent = absent
    by_found (Some l) found absent = by_name l (same_name l.name change.leaf.name) refl found absent
