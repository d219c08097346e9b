-- Worked values, computed.
use Rattle.std.specs.Prelude.{◌≡◌, ℕ, List, [], ◌∷◌, ◌++◌, codes, Ok, Err, Some, None}
use Rattle.std.proofs.Common.{refl}
use Rattle.std.specs.Fmt.{digits}
use Rattle.csv.specs.Machine.{next_record}
use Rattle.csv.specs.Reading.{records_from}
use Rattle.zorder.specs.declared.points.Point.{Point}
use Rattle.zorder.specs.declared.points.Placed.{Placed}
use Rattle.plain_list.specs.declared.ops.Answer.TheVariants as ans
use Rattle.plain_list.specs.declared.ops.Op.TheVariants as op
use Rattle.plain_list.specs.declared.world.Stamped.{Stamped}
use Rattle.csv_rows.specs.declared.rows.InRow.{InRow}
use Rattle.csv_rows.specs.declared.rows.RowsFault.TheVariants as fault
use Rattle.csv_rows.specs.Lines.{line_text}
use Rattle.csv_rows.specs.RowLines.{rows_text}
use Rattle.csv_rows.specs.Numbers.{is_between, is_number, number_in}
use Rattle.csv_rows.specs.Rows.{rows_of}

abbrev header : List ℕ
header = codes "session,op,id,x,y,a,b,moment\n"

abbrev pt : ℕ → ℕ → Point
pt x y = record { x = x; y = y }

abbrev placed : ℕ → ℕ → ℕ → Placed
placed id x y = record { id = id; at = pt x y }

abbrev stamped : ℕ → ℕ → ℕ → Stamped
stamped x y moment = record { at = pt x y; moment = moment }

abbrev put_7 : InRow
put_7 = record { session = 1; op = op.Put 7 (pt 3 5) 10 }

abbrev where_7 : InRow
where_7 = record { session = 1; op = op.Find 7 }

leading_zeros : number_in 1 16 (codes "007") ≡ Some 7
unfolding is_between is_number
leading_zeros = refl

no_sign : number_in 0 16 (codes "+7") ≡ None
unfolding is_between is_number
no_sign = refl

two_rows : rows_of (header ++ codes "1,put,7,3,5,,,10\n1,where,7,,,,,\n") ≡ Ok (put_7 ∷ where_7 ∷ [])
unfolding rows_of records_from next_record is_between is_number
two_rows = refl

quoted : rows_of (header ++ codes "\"1\",\"put\",\"007\",\"3\",\"5\",\"\",\"\",\"10\"\r\n\n") ≡ Ok (put_7 ∷ [])
unfolding rows_of records_from next_record is_between is_number
quoted = refl

marked : rows_of (0xEF ∷ 0xBB ∷ 0xBF ∷ header) ≡ Ok []
unfolding rows_of records_from next_record
marked = refl

two_marks : rows_of (0xEF ∷ 0xBB ∷ 0xBF ∷ 0xEF ∷ 0xBB ∷ 0xBF ∷ header) ≡ Err fault.Header
unfolding rows_of records_from next_record
two_marks = refl

nothing : rows_of [] ≡ Err fault.Header
unfolding rows_of records_from next_record
nothing = refl

bad_session : rows_of (header ++ codes "17,put,7,3,5,,,0\n") ≡ Err (fault.Field 1 1)
unfolding rows_of records_from next_record is_between is_number
bad_session = refl

bad_box : rows_of (header ++ codes "1,put,7,3,5,,,0\n1,box,,4,5,3,5,\n") ≡ Err (fault.Field 2 6)
unfolding rows_of records_from next_record is_between is_number
bad_box = refl

no_moment : rows_of (header ++ codes "1,put,7,3,5,,,\n") ≡ Err (fault.Field 1 8)
unfolding rows_of records_from next_record is_between is_number
no_moment = refl

moment_of_drop : rows_of (header ++ codes "1,drop,7,,,,,0\n") ≡ Err (fault.Field 1 8)
unfolding rows_of records_from next_record is_between is_number
moment_of_drop = refl

old_header : rows_of (codes "session,op,id,x,y,a,b\n") ≡ Err fault.Header
unfolding rows_of records_from next_record
old_header = refl

seven_fields : rows_of (header ++ codes "1,put,7,3,5,,\n") ≡ Err (fault.Csv 1)
unfolding rows_of records_from next_record
seven_fields = refl

line_2 : line_text 2 2 (ans.Stale (stamped 3 5 10)) ≡ codes "2,2,stale,3:5:10\n"
unfolding line_text digits
line_2 = refl

line_3 : line_text 3 3 (ans.Found (placed 4 3 4 ∷ placed 9 0 5 ∷ [])) ≡ codes "3,3,found,4:3:4;9:0:5\n"
unfolding line_text digits
line_3 = refl

text_of_rows : rows_text (put_7 ∷ where_7 ∷ []) ≡ header ++ codes "1,put,7,3,5,,,10\n1,where,7,,,,,\n"
unfolding rows_text digits
text_of_rows = refl
