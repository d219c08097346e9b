-- The meaning of the fields of a row.
use Rattle.std.specs.Prelude.{ℕ, ◌+◌, Bool, List, [], ◌∷◌, if◌then◌else◌, Option, Some, None, Result, Ok, Err, nat_eq, find}
use Rattle.std.specs.Borrow.{Bor}
use Rattle.std.specs.Cmp.Lexicographic.{pointwise}
use Rattle.csv_rows.specs.declared.columns.Columns.{Columns}
use Rattle.csv_rows.specs.declared.columns.Rule.{Rule}
use Rattle.csv_rows.specs.declared.columns.Word.{Word}
use Rattle.csv_rows.specs.declared.rows.InRow.{InRow}
use Rattle.csv_rows.specs.declared.rows.Wrong.{Wrong}
use Rattle.csv_rows.specs.declared.rows.Wrong.TheVariants.{Length, Column}
use Rattle.csv_rows.specs.Columns.{in_order, keeps, number, op_of, rules_of, session_rule, word_text, words}

-- whether two texts have the same bytes
abbrev pub is_text : List ℕ → List ℕ → Bool
is_text = pointwise nat_eq

-- the word that a field spells
abbrev pub word_of : List ℕ → Option Word
word_of field = find (λ (word : Word). is_text field (word_text word)) words

-- the texts of slices
abbrev pub texts : Columns (Bor (List ℕ)) → Columns (List ℕ)
texts c = record { id = c.id.now; x = c.x.now; y = c.y.now; a = c.a.now; b = c.b.now; moment = c.moment.now }

-- the numbers of texts; an empty text counts as 0
abbrev pub numbers : Columns (List ℕ) → Columns ℕ
numbers c = record { id = number c.id; x = number c.x; y = number c.y; a = number c.a; b = number c.b; moment = number c.moment }

-- the first column that breaks its rule, if the first field is that of this column
abbrev pub first_fault : ℕ → List Rule → List (List ℕ) → Option ℕ
first_fault column [] fields = None
first_fault column (rule ∷ rules) [] = None
first_fault column (rule ∷ rules) (field ∷ fields) = if keeps rule field then first_fault (column + 1) rules fields else Some column

-- the value if no column breaks its rule
abbrev pub unless : {T : Type 0} → Option ℕ → T → Result T Wrong
unless None value = Ok value
unless (Some column) value = Err (Column column)

-- the number of a field, or its column if it breaks the rule
abbrev pub number_by : ℕ → Rule → List ℕ → Result ℕ Wrong
number_by column rule field = if keeps rule field then Ok (number field) else Err (Column column)

-- the numbers of columns 3 to 8 after this word, or the leftmost column that breaks its rule
abbrev pub numbers_by : Word → Columns (List ℕ) → Result (Columns ℕ) Wrong
numbers_by word c = unless (first_fault 3 (in_order (rules_of word (number c.x) (number c.y))) (in_order c)) (numbers c)

-- the row that a word and its columns say
abbrev pub row_with : ℕ → Word → Result (Columns ℕ) Wrong → Result InRow Wrong
row_with session word (Ok c) = Ok (record { session = session; op = op_of word c })
row_with session word (Err wrong) = Err wrong

-- the row that a session, the word of column 2 and columns 3 to 8 say, or what is wrong with it
abbrev pub row_by : ℕ → Option Word → Columns (List ℕ) → Result InRow Wrong
row_by session None c = Err (Column 2)
row_by session (Some word) c = row_with session word (numbers_by word c)

-- the row of a record's fields, or what is wrong: the number of fields, or else the leftmost column that breaks its
-- rule
abbrev pub row_of : List (List ℕ) → Result InRow Wrong
row_of (session ∷ word ∷ id ∷ x ∷ y ∷ a ∷ b ∷ moment ∷ []) =
    if keeps session_rule session then row_by (number session) (word_of word) (record { id = id; x = x; y = y; a = a; b = b; moment = moment }) else Err (Column 1)
row_of fields = Err Length
