-- Below a name that passes bare leaves by are all rows, and no further leaves.
use Rattle.std.proofs.Common.{◌≡◌, ◌≤◌, Bool, true, false, List, [], ◌∷◌, ◌++◌, length, cond, refl, sym, ◌∙◌, ap, arith}
use Rattle.std.specs.List.{starts_with, AllByRecursion}
use mathlib.Core.Bool.{beq, true≢false}
use Rattle.bucket_versions.specs.declared.row.Row.{Row}
use Rattle.index_layer.specs.Leaves.{Leaf, all_rows}
use Rattle.index_layer.specs.Narrowed.{PassesBare}
use Rattle.index_layer.proofs.LeafNames.{front-from_test, front-test, front-trans}
use Rattle.table_share.specs.Subtree.{subtree, leaves_of}

module _ (name below : List Bool) (on : starts_with beq below name ≡ true) where
  both : (long : List Bool) → starts_with beq long below ≡ true → starts_with beq long name ≡ true
  both long e = front-test name long (front-trans name below long (front-from_test name below on) (front-from_test below long e))

  rows_below : (ls : List Leaf) → AllByRecursion (λ (l : Leaf). starts_with beq l.name name ≡ true → starts_with beq l.name below ≡ false → l.bucket.rows ≡ []) ls → all_rows (subtree below ls) ≡ all_rows (subtree name ls)
  rows_below [] bare = refl
  rows_below (l ∷ ls) bare = by_tests (starts_with beq l.name below) (starts_with beq l.name name) refl refl (rows_below ls bare.1)
    where
      by_tests : (c d : Bool) → starts_with beq l.name below ≡ c → starts_with beq l.name name ≡ d → all_rows (subtree below ls) ≡ all_rows (subtree name ls)
          → all_rows (cond c (l ∷ subtree below ls) (subtree below ls)) ≡ all_rows (cond d (l ∷ subtree name ls) (subtree name ls))
      by_tests true true e f rest = ap (λ (rs : List Row). l.bucket.rows ++ rs) rest
      by_tests true false e f rest = absurd (true≢false (sym (both l.name e) ∙ f))
      by_tests false true e f rest = rest ∙ ap (λ (rs : List Row). rs ++ all_rows (subtree name ls)) (sym (bare.0 f e))
      by_tests false false e f rest = rest

  fewer_below : (passes : List Bool → Bool) (ls : List Leaf) → length (leaves_of passes (subtree below ls)) ≤ length (leaves_of passes (subtree name ls))
  fewer_below passes [] = omega arith
  fewer_below passes (l ∷ ls) = by_tests (starts_with beq l.name below) (starts_with beq l.name name) (passes l.name) refl refl refl (fewer_below passes ls)
    where
      a : List Leaf
      a = subtree below ls

      b : List Leaf
      b = subtree name ls

      kept : (m : Leaf) (ms : List Leaf) (t : Bool) → passes m.name ≡ t → length (leaves_of passes (m ∷ ms)) ≡ length (cond t (m ∷ leaves_of passes ms) (leaves_of passes ms))
      kept m ms t e = ap (λ (u : Bool). length (cond u (m ∷ leaves_of passes ms) (leaves_of passes ms))) e

      by_tests : (c d t : Bool) → starts_with beq l.name below ≡ c → starts_with beq l.name name ≡ d → passes l.name ≡ t → length (leaves_of passes a) ≤ length (leaves_of passes b)
          → length (leaves_of passes (cond c (l ∷ a) a)) ≤ length (leaves_of passes (cond d (l ∷ b) b))
      by_tests true true true e f p rest = omega (arith, rest, kept l a true p, kept l b true p)
      by_tests true true false e f p rest = omega (arith, rest, kept l a false p, kept l b false p)
      by_tests true false t e f p rest = absurd (true≢false (sym (both l.name e) ∙ f))
      by_tests false true true e f p rest = omega (arith, rest, kept l b true p)
      by_tests false true false e f p rest = omega (arith, rest, kept l b false p)
      by_tests false false t e f p rest = rest

-- all rows below a name are below the one that it is narrowed to
pub narrowed-rows : (name below : List Bool) (leaves : List Leaf) → PassesBare name below leaves → all_rows (subtree below leaves) ≡ all_rows (subtree name leaves)
narrowed-rows name below leaves p = rows_below name below p.on leaves p.bare

-- and no more leaves there pass a test
pub narrowed-fewer : (passes : List Bool → Bool) (name below : List Bool) (leaves : List Leaf) → PassesBare name below leaves
    → length (leaves_of passes (subtree below leaves)) ≤ length (leaves_of passes (subtree name leaves))
narrowed-fewer passes name below leaves p = fewer_below name below p.on passes leaves
