-- Rows as text, in the form in which they are read: no quotes, and numbers without leading zeros.
use Rattle.std.specs.Prelude.{ℕ, List, [], ◌∷◌, ◌++◌, codes}
use Rattle.std.specs.List.{flat_map, join_by}
use Rattle.std.specs.Fmt.{decimal}
use Rattle.plain_list.specs.declared.ops.Op.{Op}
use Rattle.csv_rows.specs.Columns.{column_texts, columns_of, header_fields, word_by, word_text}
use Rattle.csv_rows.specs.declared.rows.InRow.{InRow}

-- columns 2 to 8 of an operation
abbrev pub op_fields : Op → List (List ℕ)
op_fields op = word_text (word_by op) ∷ column_texts (word_by op) (columns_of op)

-- the eight columns of a row
abbrev pub row_fields : InRow → List (List ℕ)
row_fields row = decimal row.session ∷ op_fields row.op

-- fields with commas between them, and the end of the line
abbrev pub fields_line : List (List ℕ) → List ℕ
fields_line fields = join_by (λ field. field) (codes ",") fields ++ codes "\n"

-- fields with a comma before each, then the end of the line and the text after it
abbrev pub line_then : List (List ℕ) → List ℕ → List ℕ
line_then [] rest = codes "\n" ++ rest
line_then (field ∷ fields) rest = codes "," ++ (field ++ line_then fields rest)

-- the line of a row after its session
abbrev pub op_tail : Op → List ℕ
op_tail op = flat_map (λ (field : List ℕ). codes "," ++ field) (op_fields op) ++ codes "\n"

-- the line of a row
abbrev pub row_line : InRow → List ℕ
row_line row = fields_line (row_fields row)

-- the header line
abbrev pub header_line : List ℕ
header_line = fields_line header_fields

-- the header and the rows
unfoldable pub rows_text : List InRow → List ℕ
rows_text rows = header_line ++ flat_map row_line rows
