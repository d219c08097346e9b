-- Worked values, computed.
use Rattle.std.specs.Prelude.{◌≡◌, ℕ, true, false, [], ◌∷◌}
use Rattle.std.proofs.Common.{refl}
use Rattle.bucket_versions.specs.declared.row.Row.{Row}
use Rattle.bucket_versions.specs.Rows.{has_row, with_row, without_row, rows_between, row_place}

row : ℕ → ℕ → Row
row key id = record { key = key; id = id }

put_between : with_row (row 2 4) (row 1 9 ∷ row 27 7 ∷ []) ≡ row 1 9 ∷ row 2 4 ∷ row 27 7 ∷ []
unfolding row
put_between = refl

-- of two rows with the same key, the lesser id comes first
put_by_id : with_row (row 1 4) (row 1 9 ∷ []) ≡ row 1 4 ∷ row 1 9 ∷ []
unfolding row
put_by_id = refl

is_there : has_row (row 27 7) (row 1 9 ∷ row 27 7 ∷ []) ≡ true
unfolding row
is_there = refl

-- a row with the same key and another id is another row
is_not_there : has_row (row 27 9) (row 1 9 ∷ row 27 7 ∷ []) ≡ false
unfolding row
is_not_there = refl

taken_out : without_row (row 27 7) (row 1 9 ∷ row 2 4 ∷ row 27 7 ∷ []) ≡ row 1 9 ∷ row 2 4 ∷ []
unfolding row
taken_out = refl

in_range : rows_between 2 27 (row 1 9 ∷ row 2 4 ∷ row 27 7 ∷ []) ≡ row 2 4 ∷ row 27 7 ∷ []
unfolding row
in_range = refl

place_behind_one : row_place (row 2 4) (row 1 9 ∷ row 27 7 ∷ []) ≡ 1
unfolding row
place_behind_one = refl
