-- An index that stands for a world goes on to stand for it where a row is taken out with its object.
use Rattle.std.proofs.Common.{◌≡◌, ℕ, Bool, true, false, cond, not, List, Option, Some, None, refl, sym, ap, ◌∙◌}
use Rattle.std.specs.Prelude.{◌==◌, ◌&&◌}
use Rattle.std.specs.List.{AllByRecursion}
use Rattle.std.proofs.lemmas.Bool.{eqb-true as eqb-eq}
use Rattle.zorder.specs.declared.points.Point.{Point}
use Rattle.zorder.specs.declared.points.Placed.{Placed}
use Rattle.zorder.specs.Key.{key_of, is_under}
use Rattle.zorder.specs.SameName.{same_name}
use Rattle.bucket_versions.specs.declared.row.Row.{Row}
use Rattle.bucket_versions.specs.Rows.{Rows, has_row, without_row}
use Rattle.index_layer.specs.Leaves.{Leaf, names_of, replaced}
use Rattle.index_layer.specs.Stands.{places_have, is_at_key, HasRowsOf}
use Rattle.index_layer.proofs.Puts.{where_is}
use Rattle.index_layer.proofs.Standing.{HasLess}
use Rattle.table_share.proofs.FirstObjects.{has_row-less}
use Rattle.point_table.proofs.Standing.{rows_replaced}

and-true : (b : Bool) → (b && true) ≡ b
and-true true = refl
and-true false = refl

and-false : (b : Bool) → (b && false) ≡ false
and-false true = refl
and-false false = refl

-- the rows of a leaf from which an object's row was taken out
by_gone : (same_id same_key under : Bool) (key : ℕ) (p : Point) (was : Option Point) (had : Bool) → same_key ≡ (key_of p == key) → had ≡ (is_at_key key was && under)
    → (same_id ≡ true → was ≡ Some p)
    → (had && not (same_key && same_id)) ≡ (is_at_key key (cond same_id None was) && under)
by_gone false true under key p was had k h there = and-true had ∙ h
by_gone false false under key p was had k h there = and-true had ∙ h
by_gone true true under key p was had k h there = and-false had
by_gone true false under key p was had k h there = and-true had ∙ h ∙ ap (λ o. is_at_key key o && under) (there refl) ∙ ap (λ b. b && under) (sym k)

pub rows_without_gone : (old new : List Placed) (id : ℕ) (p : Point) (name : List Bool) (rows : List Row) → where_is old id ≡ Some p → HasLess old new id
    → ((q : Row) → has_row q rows ≡ (places_have old q && is_under name q.key))
    → (q : Row) → has_row q (without_row (record { key = key_of p; id = id }) rows) ≡ (places_have new q && is_under name q.key)
rows_without_gone old new id p name rows there less before q =
    has_row-less (record { key = key_of p; id = id }) rows q
    ∙ by_gone (id == q.id) (key_of p == q.key) (is_under name q.key) q.key p (where_is old q.id) (has_row q rows) refl (before q)
    (λ e. sym (ap (where_is old) (eqb-eq id q.id e)) ∙ there)
    ∙ ap (λ o. is_at_key q.key o && is_under name q.key) (sym (less q.id))

by_past : (same_id under same_key : Bool) (key : ℕ) (p : Point) (was : Option Point) → same_key ≡ (key_of p == key) → (same_id ≡ true → was ≡ Some p) → (same_key ≡ true → under ≡ false)
    → (is_at_key key was && under) ≡ (is_at_key key (cond same_id None was) && under)
by_past false under same_key key p was k there other = refl
by_past true true true key p was k there other = cc (other refl)
by_past true false true key p was k there other = and-false (is_at_key key was)
by_past true under false key p was k there other = ap (λ o. is_at_key key o && under) (there refl) ∙ ap (λ b. b && under) (sym k)

pub rows_past_gone : (old new : List Placed) (id : ℕ) (p : Point) (leaf : Leaf) → where_is old id ≡ Some p → HasLess old new id → is_under leaf.name (key_of p) ≡ false → HasRowsOf old leaf → HasRowsOf new leaf
rows_past_gone old new id p leaf there less other before q =
    before q
    ∙ by_past (id == q.id) (is_under leaf.name q.key) (key_of p == q.key) q.key p (where_is old q.id) refl
    (λ e. sym (ap (where_is old) (eqb-eq id q.id e)) ∙ there)
    (λ e. sym (ap (is_under leaf.name) (eqb-eq (key_of p) q.key e)) ∙ other)
    ∙ ap (λ o. is_at_key q.key o && is_under leaf.name q.key) (sym (less q.id))

-- the rows of all leaves after a removal
pub rows_after_gone : (old new : List Placed) (id : ℕ) (p : Point) (leaf : Leaf) (bucket : Rows) (leaves : List Leaf)
    → AllByRecursion (λ (n : List Bool). is_under n (key_of p) ≡ same_name n leaf.name) (names_of leaves)
    → where_is old id ≡ Some p → HasLess old new id → HasRowsOf old leaf → bucket.rows ≡ without_row (record { key = key_of p; id = id }) leaf.bucket.rows
    → AllByRecursion (HasRowsOf old) leaves → AllByRecursion (HasRowsOf new) (replaced leaf.name bucket leaves)
rows_after_gone old new id p leaf bucket leaves only there less here rows all =
    rows_replaced (HasRowsOf old) (HasRowsOf new) leaf.name bucket (key_of p) leaves only all
    (λ l is q. ap (has_row q) rows ∙ rows_without_gone old new id p leaf.name leaf.bucket.rows there less here q ∙ ap (λ n. places_have new q && is_under n q.key) (sym is))
    (λ l other before. rows_past_gone old new id p l there less other before)
