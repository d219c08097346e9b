-- The fences of a text.
use Rattle.std.specs.Prelude.{ℕ, List, [], ◌∷◌, if◌then◌else◌, Result, Err, codes}
use Rattle.csv_rows.specs.declared.columns.Rule.{Rule}
use Rattle.csv_rows.specs.declared.columns.Rule.TheVariants.{Between}
use Rattle.csv_rows.specs.declared.rows.RowsFault.{RowsFault}
use Rattle.csv_rows.specs.declared.rows.Wrong.{Wrong}
use Rattle.csv_rows.specs.declared.rows.Wrong.TheVariants.{Length, Column}
use Rattle.csv_rows.specs.Columns.{keeps, number, id_rule, coordinate_rule, point_of}
use Rattle.csv_rows.specs.Fields.{first_fault, unless}
use Rattle.csv_rows.specs.Tables.{Table, rows_of_text}
use Rattle.fence_watch.specs.declared.fences.Fence.{Fence}
use Rattle.fence_watch.specs.Fences.{has_fence, most_fences}

-- The rules of columns 2 to 5, if columns 2 and 3 hold these numbers. The upper corner isn't below the lower one.
abbrev pub corner_rules : ℕ → ℕ → List Rule
corner_rules x y = coordinate_rule ∷ coordinate_rule ∷ Between x 4294967295 ∷ Between y 4294967295 ∷ []

-- The fence of an id and of columns 2 to 5, or the leftmost faulty column.
abbrev pub fence_at : ℕ → (x y a b : List ℕ) → Result Fence Wrong
fence_at id x y a b =
    unless (first_fault 2 (corner_rules (number x) (number y)) (x ∷ y ∷ a ∷ b ∷ []))
    (record { id = id; region = record { lo = point_of (number x) (number y); hi = point_of (number a) (number b) } })

-- The fence of a record's fields that comes after these fences. Or what is wrong with it: its length, or the leftmost
-- faulty column. The id of an earlier fence is a fault of column 1.
abbrev pub fence_of : List Fence → List (List ℕ) → Result Fence Wrong
fence_of earlier (id ∷ x ∷ y ∷ a ∷ b ∷ []) =
    if keeps id_rule id then (if has_fence (number id) earlier then Err (Column 1) else fence_at (number id) x y a b) else Err (Column 1)
fence_of earlier fields = Err Length

-- How fences are read.
abbrev pub fence_table : Table Fence
fence_table = record { header = codes "fence" ∷ codes "x" ∷ codes "y" ∷ codes "a" ∷ codes "b" ∷ []; most = most_fences; row_of = fence_of }

-- The fences of a text, or the first faulty record.
abbrev pub fences_of_text : List ℕ → Result (List Fence) RowsFault
fences_of_text bytes = rows_of_text fence_table bytes
