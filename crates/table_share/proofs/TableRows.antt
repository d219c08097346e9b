-- The rows of all leaves, where the leaves stand for places.
use Rattle.std.proofs.Common.{◌≡◌, ◌<◌, ◌^◌, Bool, true, false, List, [], ◌∷◌, refl, sym, ap, ◌∙◌, arith}
use Rattle.std.specs.Prelude.{◌||◌}
use Rattle.std.specs.List.{AllByRecursion}
use Rattle.std.proofs.lemmas.Bool.Decides.{nat_tests}
use Rattle.std.proofs.lemmas.Grind.{common_steps}
use Rattle.zorder.specs.declared.points.Placed.{Placed}
use Rattle.bucket_versions.specs.declared.row.Row.{Row}
use Rattle.bucket_versions.specs.Rows.{IsRows, has_row, same_row}
use Rattle.index_layer.specs.Leaves.{Leaf, all_rows}
use Rattle.index_layer.specs.Stands.{Stands, places_have}
use Rattle.table_share.proofs.RowsInOrder.{IsRows-all_rows}
use Rattle.index_layer.proofs.Standing.{rows_of_places, placed_key-lt}

-- rows in order: those of the objects at these places, and no others
pub record IsTableOf (places : List Placed) (rows : List Row) : Type 0 where
  pub ordered : IsRows rows
  pub has : (q : Row) → has_row q rows ≡ places_have places q

pub table_of : (leaves : List Leaf) (places : List Placed) (names : List (List Bool)) → Stands leaves places names → IsTableOf places (all_rows leaves)
table_of leaves places names stands = record {
  ordered = IsRows-all_rows leaves places names stands;
  has = rows_of_places leaves places names stands;
}

-- what holds of each row that a list has holds of all its rows
first_of : (r : Row) (rows : List Row) → has_row r (r ∷ rows) ≡ true
first_of r rows = grind (arith, nat_tests, common_steps)

or-true : (b : Bool) → (b || true) ≡ true
or-true true = refl
or-true false = refl

pub all_from_has : (P : Row → Type 0) (rows : List Row) → ((q : Row) → has_row q rows ≡ true → P q) → AllByRecursion P rows
all_from_has P [] each = tt
all_from_has P (r ∷ rows) each = (each r (first_of r rows), all_from_has P rows (λ q e. each q (later q e)))
  where
    later : (q : Row) → has_row q rows ≡ true → has_row q (r ∷ rows) ≡ true
    later q e = ap (λ b. same_row r q || b) e ∙ or-true (same_row r q)

-- each key of their rows is one of 64 bits
pub keys_fit : (places : List Placed) (rows : List Row) → IsTableOf places rows → AllByRecursion (λ (r : Row). r.key < 2 ^ 64) rows
keys_fit places rows table = all_from_has (λ (r : Row). r.key < 2 ^ 64) rows (λ q e. placed_key-lt places q (sym (table.has q) ∙ e))
