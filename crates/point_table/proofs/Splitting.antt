-- An index that stands for a world goes on to stand for it where a leaf is split into its children, each with the leaf's rows under its name.
use Rattle.std.proofs.Common.{◌≡◌, ℕ, ◌<◌, ◌≤◌, ◌^◌, Bool, true, false, cond, List, [], ◌∷◌, ◌++◌, length, Option, Some, None, refl, sym, ap, subst, ◌∙◌}
use Rattle.std.specs.Prelude.{nat_le, ◌&&◌}
use Rattle.std.specs.List.{starts_with, AllByRecursion}
use Rattle.std.specs.Cmp.{first_so, second_so}
use Rattle.std.specs.Cmp.Derive.{both_true}
use Rattle.std.proofs.lemmas.Bool.{eqb-true as eqb-eq}
use mathlib.Core.Bool.{beq, true≢false}
use Rattle.zorder.specs.declared.points.Point.{Point}
use Rattle.zorder.specs.declared.points.Placed.{Placed}
use Rattle.zorder.specs.Key.{key_of, key_bits, is_under}
use Rattle.zorder.specs.Name.{first_key}
use Rattle.zorder.specs.SameName.{same_name}
use Rattle.zorder.proofs.Places.{key_of-lt}
use Rattle.bucket_versions.specs.declared.row.Row.{Row}
use Rattle.bucket_versions.specs.Rows.{has_row}
use Rattle.bucket_versions.proofs.RowRanges.{has_row-rows_between}
use Rattle.split_prepare.specs.Cut.{last_key, rows_under}
use Rattle.split_prepare.proofs.CutLemmas.{under-between}
use Rattle.index_layer.specs.Leaves.{Leaf}
use Rattle.index_layer.specs.Stands.{places_have, is_at_key}
use Rattle.index_layer.proofs.Puts.{where_is}
use Rattle.point_table.proofs.CrowdLemmas.{spliced}

starts_with-front : (a b xs : List Bool) → starts_with beq xs (a ++ b) ≡ true → starts_with beq xs a ≡ true
starts_with-front [] b xs e = refl
starts_with-front (x ∷ a) b [] e = absurd (true≢false (sym e))
starts_with-front (x ∷ a) b (y ∷ xs) e =
    both_true (first_so (beq x y) (starts_with beq xs (a ++ b)) e) (starts_with-front a b xs (second_so (beq x y) (starts_with beq xs (a ++ b)) e))

-- a key under a child's name is under the name
pub under-front : (name bits : List Bool) (key : ℕ) → is_under (name ++ bits) key ≡ true → is_under name key ≡ true
under-front name bits key under = starts_with-front name bits (key_bits key) under

-- where a world has a row, its key is one of 64 bits
has-small : (places : List Placed) (q : Row) → places_have places q ≡ true → q.key < 2 ^ 64
has-small places q e = by_place (where_is places q.id) e
  where
    by_place : (o : Option Point) → is_at_key q.key o ≡ true → q.key < 2 ^ 64
    by_place None e = absurd (true≢false (sym e))
    by_place (Some p) e = subst (λ (k : ℕ). k < 2 ^ 64) (eqb-eq (key_of p) q.key e) (key_of-lt p)

cut_if : (has under between child : Bool) → (has ≡ true → child ≡ between) → (child ≡ true → under ≡ true) → ((has && under) && between) ≡ (has && child)
cut_if false under between child is up = refl
cut_if true true between child is up = sym (is refl)
cut_if true false between true is up = up refl
cut_if true false between false is up = refl

-- the rows of a leaf that lie under a child's name
pub rows_cut : (places : List Placed) (name bits : List Bool) (rows : List Row) → length (name ++ bits) ≤ 64 → ((q : Row) → has_row q rows ≡ (places_have places q && is_under name q.key))
    → (q : Row) → has_row q (rows_under (name ++ bits) rows) ≡ (places_have places q && is_under (name ++ bits) q.key)
rows_cut places name bits rows short before q =
    has_row-rows_between (first_key (name ++ bits)) (last_key (name ++ bits)) rows q
    ∙ ap (λ b. b && (nat_le (first_key (name ++ bits)) q.key && nat_le q.key (last_key (name ++ bits)))) (before q)
    ∙ cut_if (places_have places q) (is_under name q.key) (nat_le (first_key (name ++ bits)) q.key && nat_le q.key (last_key (name ++ bits))) (is_under (name ++ bits) q.key)
    (λ has. under-between (name ++ bits) q.key short (has-small places q has)) (under-front name bits q.key)

-- the leaves' rows after one leaf gave way to others
pub rows_spliced : (P : Leaf → Type 0) (name : List Bool) (parts leaves : List Leaf) → AllByRecursion P parts → AllByRecursion P leaves → AllByRecursion P (spliced name parts leaves)
rows_spliced P name parts [] new old = tt
rows_spliced P name parts (l ∷ leaves) new old = by_test (same_name l.name name) (rows_spliced P name parts leaves new old.1)
  where
    joined : (front back : List Leaf) → AllByRecursion P front → AllByRecursion P back → AllByRecursion P (front ++ back)
    joined [] back f b = b
    joined (x ∷ front) back f b = (f.0, joined front back f.1 b)

    by_test : (b : Bool) → AllByRecursion P (spliced name parts leaves) → AllByRecursion P (cond b (parts ++ leaves) (l ∷ spliced name parts leaves))
    by_test true rest = joined parts leaves new old.1
    by_test false rest = (old.0, rest)
