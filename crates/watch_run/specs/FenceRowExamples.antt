-- Worked texts of fences.
use Rattle.std.specs.Prelude.{◌≡◌, ℕ, List, [], ◌∷◌, ◌++◌, codes, Ok, Err}
use Rattle.std.proofs.Common.{refl}
use Rattle.csv.specs.Machine.{next_record}
use Rattle.csv.specs.Reading.{records_from}
use Rattle.csv_rows.specs.declared.rows.RowsFault.TheVariants as fault
use Rattle.csv_rows.specs.Numbers.{is_between, is_number}
use Rattle.csv_rows.specs.Tables.{rows_of_text}
use Rattle.fence_watch.specs.declared.fences.Fence.{Fence}
use Rattle.watch_run.specs.FenceRows.{fences_of_text}

abbrev header : List ℕ
header = codes "fence,x,y,a,b\n"

abbrev fence : (id x y a b : ℕ) → Fence
fence id x y a b = record { id = id; region = record { lo = record { x = x; y = y }; hi = record { x = a; y = b } } }

two_fences : fences_of_text (header ++ codes "1,0,0,5,5\n2,4,4,9,9\n") ≡ Ok (fence 1 0 0 5 5 ∷ fence 2 4 4 9 9 ∷ [])
unfolding rows_of_text records_from next_record is_between is_number
two_fences = refl

-- The id of an earlier fence is the fault, even if another column is faulty too.
again : fences_of_text (header ++ codes "1,0,0,5,5\n01,4,4,9,3\n") ≡ Err (fault.Field 2 1)
unfolding rows_of_text records_from next_record is_between is_number
again = refl

-- An upper corner below the lower one.
turned : fences_of_text (header ++ codes "1,5,0,4,5\n") ≡ Err (fault.Field 1 4)
unfolding rows_of_text records_from next_record is_between is_number
turned = refl

four_fields : fences_of_text (header ++ codes "1,5,0,4\n") ≡ Err (fault.Csv 1)
unfolding rows_of_text records_from next_record
four_fields = refl

-- A text of no fences, and one without a header.
none : fences_of_text header ≡ Ok []
unfolding rows_of_text records_from next_record
none = refl

no_header : fences_of_text (codes "1,0,0,5,5\n") ≡ Err fault.Header
unfolding rows_of_text records_from next_record
no_header = refl
