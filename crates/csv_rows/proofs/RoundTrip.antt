-- What rows are written as reads again as these rows.
use Rattle.std.proofs.Common.{◌≡◌, ◌∙◌, ◌==◌, ◌<◌, ◌≤◌, ◌+◌, ◌^◌, ℕ, true, false, List, [], ◌∷◌, ◌++◌, length, map, Some, Ok, refl, ap, arith, rules, lit<}
use Rattle.std.specs.Prelude.{codes, decimal}
use Rattle.std.specs.List.{AllByRecursion, flat_map, list_all, list_any}
use Rattle.std.specs.Char.{is_ascii_digit}
use Rattle.std.proofs.lemmas.Bool.{le-ltb, ne_eqb}
use Rattle.std.proofs.lemmas.Fmt.{decimal_is_IsNumeral, length-decimal-le}
use Rattle.std.proofs.lemmas.Str.Parse.{IsDigitsTest}
use Rattle.std.specs.Int.{IsInRange}
use Rattle.csv.specs.Machine.{next_record}
use Rattle.csv.specs.Reading.{Reached, default_config, records}
use Rattle.csv.specs.Writing.{default_writer, field_text, fields_text, is_blank, needs_byte, row_text}
use Rattle.csv.specs.declared.parser.State.TheVariants as st
use Rattle.csv.proofs.RoundTrip.{read-write-many}
use Rattle.plain_list.specs.Answer.{IsValid, FitsOp}
use Rattle.plain_list.specs.declared.ops.Op.{Op}
use Rattle.plain_list.specs.declared.ops.Op.TheVariants as op
use Rattle.csv_rows.specs.declared.rows.InRow.{InRow}
use Rattle.csv_rows.specs.Fields.{row_of}
use Rattle.csv_rows.specs.InRows.{AreInRows, IsInRow}
use Rattle.csv_rows.specs.Numbers.{is_between, is_number, number}
use Rattle.csv_rows.specs.RowLines.{fields_line, header_line, op_fields, row_fields, row_line, rows_text}
use Rattle.csv_rows.specs.Columns.{header_fields}
use Rattle.csv_rows.specs.Rows.{rows_behind_header, rows_from, rows_of}
use Rattle.csv_rows.proofs.NumbersFacts.{is_between-yes, is_number-digits, numerals}
use Rattle.csv_rows.proofs.RecordsFacts.{all_records}

-- a field that the default writer puts without quotes
abbrev Plain : List ℕ → Type 0
Plain field = list_any (needs_byte default_writer) field ≡ false

digit-plain : (b : ℕ) → IsInRange 48 57 b → needs_byte default_writer b ≡ false
digit-plain b h =
    let comma : (b == 44) ≡ false = ne_eqb b 44 (λ e. omega (arith, e, h.0)) in
    let quote : (b == 34) ≡ false = ne_eqb b 34 (λ e. omega (arith, e, h.0)) in
    let return : (b == 13) ≡ false = ne_eqb b 13 (λ e. omega (arith, e, h.0)) in
    let feed : (b == 10) ≡ false = ne_eqb b 10 (λ e. omega (arith, e, h.0)) in
    rw (comma, quote, return, feed) refl

tells_digits : IsDigitsTest (λ ds. list_all is_ascii_digit ds ≡ true)
tells_digits = search rules

digits-plain : (ds : List ℕ) → list_all is_ascii_digit ds ≡ true → Plain ds
digits-plain [] h = refl
digits-plain (b ∷ ds) h =
    let parts = tells_digits.parts b ds h in
    rw (digit-plain b parts.0, digits-plain ds parts.1) refl

decimal-digits : (n : ℕ) → n < 2 ^ 64 → list_all is_ascii_digit (decimal n) ≡ true
decimal-digits n lt = numerals.from (decimal n) (decimal_is_IsNumeral n lt).0.1

decimal-plain : (n : ℕ) → n < 2 ^ 64 → Plain (decimal n)
decimal-plain n lt = digits-plain (decimal n) (decimal-digits n lt)

number-decimal : (n : ℕ) → n < 2 ^ 64 → number (decimal n) ≡ n
number-decimal n lt = (decimal_is_IsNumeral n lt).1

between-decimal : (low high n : ℕ) → n < 2 ^ 64 → low ≤ n → n ≤ high → is_between low high (decimal n) ≡ true
between-decimal low high n lt l h =
    let some : 1 ≤ length (decimal n) = omega (arith, (decimal_is_IsNumeral n lt).0.0) in
    let below : n < 10 ^ 20 = omega (arith, lt) in
    let short : length (decimal n) ≤ 20 = length-decimal-le 20 n (lit< tt) below lt in
    let digits : is_number (decimal n) ≡ true = is_number-digits (decimal n) some short ∙ decimal-digits n lt in
    let value : number (decimal n) ≡ n = number-decimal n lt in
    is_between-yes low high (decimal n) digits (omega (arith, value, l)) (omega (arith, value, h))

-- fields that no one has to quote, with commas between them
abbrev rest_text : List (List ℕ) → List ℕ
rest_text fields = flat_map (λ (field : List ℕ). codes "," ++ field) fields

field_text-plain : (field : List ℕ) → Plain field → field_text default_writer field ≡ field
field_text-plain field h = rw h refl

fields_text-plain : (fields : List (List ℕ)) → AllByRecursion Plain fields → fields_text default_writer fields ≡ rest_text fields
unfolding fields_text
fields_text-plain [] h = refl
fields_text-plain (field ∷ fields) h = rw (field_text-plain field h.0, fields_text-plain fields h.1) refl

line-written : (x y : List ℕ) (ys : List (List ℕ)) → AllByRecursion Plain (x ∷ y ∷ ys) → fields_line (x ∷ y ∷ ys) ≡ row_text default_writer (x ∷ y ∷ ys)
unfolding is_blank
line-written x y ys h = rw (field_text-plain x h.0, fields_text-plain (y ∷ ys) h.1) refl

coordinate-plain : (n : ℕ) → n < 2 ^ 32 → Plain (decimal n)
coordinate-plain n lt = decimal-plain n (omega (arith, lt))

op-plain : (o : Op) → FitsOp o → IsValid o → AllByRecursion Plain (op_fields o)
op-plain (op.Put id at moment) f v = (refl, (decimal-plain id f.0, (coordinate-plain at.x f.1.x, (coordinate-plain at.y f.1.y, (refl, (refl, (decimal-plain moment f.2, tt)))))))
op-plain (op.Move id at moment) f v = (refl, (decimal-plain id f.0, (coordinate-plain at.x f.1.x, (coordinate-plain at.y f.1.y, (refl, (refl, (decimal-plain moment f.2, tt)))))))
op-plain (op.Remove id) f v = (refl, (decimal-plain id f, (refl, (refl, (refl, (refl, (refl, tt)))))))
op-plain (op.Find id) f v = (refl, (decimal-plain id f, (refl, (refl, (refl, (refl, (refl, tt)))))))
op-plain (op.Within region) f v = (refl, (refl, (coordinate-plain region.lo.x f.0.x, (coordinate-plain region.lo.y f.0.y, (coordinate-plain region.hi.x f.1.x, (coordinate-plain region.hi.y f.1.y, (refl, tt)))))))
op-plain (op.Near at k) f v = (refl, (refl, (coordinate-plain at.x f.x, (coordinate-plain at.y f.y, (decimal-plain k (omega (arith, v.1)), (refl, (refl, tt)))))))

-- the rest of a text behind a row is read next
row-next : (session : ℕ) (o : Op) (tail : List ℕ) → session ≤ 16 → FitsOp o → IsValid o
    → next_record default_config st.StartRecord [] [] (fields_line (decimal session ∷ op_fields o) ++ tail) ≡ Some (decimal session ∷ op_fields o, st.StartRecord, tail)
row-next session o tail le f v = by_op o f v
  where
    of : (x y : List ℕ) (ys : List (List ℕ)) → AllByRecursion Plain (x ∷ y ∷ ys) → next_record default_config st.StartRecord [] [] (fields_line (x ∷ y ∷ ys) ++ tail) ≡ Some (x ∷ y ∷ ys, st.StartRecord, tail)
    of x y ys h = ap (λ (l : List ℕ). next_record default_config st.StartRecord [] [] (l ++ tail)) (line-written x y ys h) ∙ read-write-many x y ys tail

    by_op : (o : Op) → FitsOp o → IsValid o → next_record default_config st.StartRecord [] [] (fields_line (decimal session ∷ op_fields o) ++ tail) ≡ Some (decimal session ∷ op_fields o, st.StartRecord, tail)
    by_op (op.Put id at moment) f v = of (decimal session) _ _ (decimal-plain session (omega (arith, le)), op-plain (op.Put id at moment) f v)
    by_op (op.Move id at moment) f v = of (decimal session) _ _ (decimal-plain session (omega (arith, le)), op-plain (op.Move id at moment) f v)
    by_op (op.Remove id) f v = of (decimal session) _ _ (decimal-plain session (omega (arith, le)), op-plain (op.Remove id) f v)
    by_op (op.Find id) f v = of (decimal session) _ _ (decimal-plain session (omega (arith, le)), op-plain (op.Find id) f v)
    by_op (op.Within region) f v = of (decimal session) _ _ (decimal-plain session (omega (arith, le)), op-plain (op.Within region) f v)
    by_op (op.Near at k) f v = of (decimal session) _ _ (decimal-plain session (omega (arith, le)), op-plain (op.Near at k) f v)

lines-reached : (rows : List InRow) → AllByRecursion IsInRow rows → Reached default_config st.StartRecord (flat_map row_line rows) (map row_fields rows) st.StartRecord []
unfolding Reached
lines-reached [] h = (refl, refl)
lines-reached (row ∷ rows) h =
    ((row_fields row, st.StartRecord, flat_map row_line rows), row-next row.session row.op (flat_map row_line rows) h.0.last h.0.fits h.0.valid, refl, lines-reached rows h.1)

text-records : (rows : List InRow) → AllByRecursion IsInRow rows → records default_config (rows_text rows) ≡ header_fields ∷ map row_fields rows
unfolding Reached rows_text next_record
text-records rows h =
    let first : next_record default_config st.StartRecord [] [] (header_line ++ flat_map row_line rows) ≡ Some (header_fields, st.StartRecord, flat_map row_line rows) = refl in
    all_records default_config (rows_text rows) (header_fields ∷ map row_fields rows) (st.StartRecord, [], ((header_fields, st.StartRecord, flat_map row_line rows), first, refl, lines-reached rows h), refl)

-- the fields of a row keep the rules of their columns
session-kept : (n : ℕ) → 1 ≤ n → n ≤ 16 → is_between 1 16 (decimal n) ≡ true
session-kept n low high = between-decimal 1 16 n (omega (arith, high)) low high

id-kept : (n : ℕ) → n < 2 ^ 64 → is_between 0 18446744073709551615 (decimal n) ≡ true
id-kept n lt = between-decimal 0 18446744073709551615 n lt (omega arith) (omega (arith, lt))

corner-kept : (low n : ℕ) → low ≤ n → n < 2 ^ 32 → is_between low 4294967295 (decimal n) ≡ true
corner-kept low n le lt = between-decimal low 4294967295 n (omega (arith, lt)) le (omega (arith, lt))

coordinate-kept : (n : ℕ) → n < 2 ^ 32 → is_between 0 4294967295 (decimal n) ≡ true
coordinate-kept n lt = corner-kept 0 n (omega arith) lt

-- the fields of a row are read as that row
row_of-fields : (session : ℕ) (o : Op) → 1 ≤ session → session ≤ 16 → FitsOp o → IsValid o → row_of (decimal session ∷ op_fields o) ≡ Ok (record { session = session; op = o })
row_of-fields session (op.Put id at moment) low high f v =
    rw (session-kept session low high, id-kept id f.0, coordinate-kept at.x f.1.x, coordinate-kept at.y f.1.y, id-kept moment f.2, number-decimal session (omega (arith, high)), number-decimal id f.0, number-decimal at.x (omega (arith, f.1.x)), number-decimal at.y (omega (arith, f.1.y)), number-decimal moment f.2) refl
row_of-fields session (op.Move id at moment) low high f v =
    rw (session-kept session low high, id-kept id f.0, coordinate-kept at.x f.1.x, coordinate-kept at.y f.1.y, id-kept moment f.2, number-decimal session (omega (arith, high)), number-decimal id f.0, number-decimal at.x (omega (arith, f.1.x)), number-decimal at.y (omega (arith, f.1.y)), number-decimal moment f.2) refl
row_of-fields session (op.Remove id) low high f v = rw (session-kept session low high, id-kept id f, number-decimal session (omega (arith, high)), number-decimal id f) refl
row_of-fields session (op.Find id) low high f v = rw (session-kept session low high, id-kept id f, number-decimal session (omega (arith, high)), number-decimal id f) refl
row_of-fields session (op.Within region) low high f v =
    rw (
      session-kept session low high,
      coordinate-kept region.lo.x f.0.x,
      coordinate-kept region.lo.y f.0.y,
      number-decimal session (omega (arith, high)),
      number-decimal region.lo.x (omega (arith, f.0.x)),
      number-decimal region.lo.y (omega (arith, f.0.y)),
      corner-kept region.lo.x region.hi.x v.x f.1.x,
      corner-kept region.lo.y region.hi.y v.y f.1.y,
      number-decimal region.hi.x (omega (arith, f.1.x)),
      number-decimal region.hi.y (omega (arith, f.1.y)),
    ) refl
row_of-fields session (op.Near at k) low high f v =
    rw (session-kept session low high, coordinate-kept at.x f.x, coordinate-kept at.y f.y, between-decimal 1 2048 k (omega (arith, v.1)) v.0 v.1, number-decimal session (omega (arith, high)), number-decimal at.x (omega (arith, f.x)), number-decimal at.y (omega (arith, f.y)), number-decimal k (omega (arith, v.1))) refl

rows_from-fields : (n : ℕ) (rows : List InRow) → n + length rows ≤ 65537 → AllByRecursion IsInRow rows → rows_from n (map row_fields rows) ≡ Ok rows
rows_from-fields n [] le h = refl
rows_from-fields n (row ∷ rows) le h =
    let fits : n ≤ 65536 = omega (arith, le) in
    rw (le-ltb 65536 n fits, row_of-fields row.session row.op h.0.first h.0.last h.0.fits h.0.valid, rows_from-fields (n + 1) rows (omega (arith, le)) h.1) refl

-- rows are what their text reads as
pub rows_of-rows_text : (rows : List InRow) → AreInRows rows → rows_of (rows_text rows) ≡ Ok rows
unfolding rows_of rows_text
rows_of-rows_text rows h =
    let read = text-records rows h.each in
    ap rows_behind_header read ∙ rows_from-fields 1 rows (omega (arith, h.most)) h.each
