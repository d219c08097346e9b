-- Texts that are as rows are written.
use Rattle.std.proofs.Common.{◌≡◌, ◌∙◌, ◌<◌, ◌≤◌, ◌+◌, ◌^◌, ℕ, ◌-◌, true, false, List, [], ◌∷◌, ◌++◌, length, take, drop, get_or, Ok, refl, sym, ap, inl, inr, arith, append_assoc, length-append, take-append-drop}
use Rattle.std.specs.Prelude.{◌⊎◌, codes, decimal, slice_index_or}
use Rattle.std.specs.Char.{is_ascii_digit}
use Rattle.std.specs.List.{AllByRecursion, flat_map, list_all}
use Rattle.std.specs.Str.Parse.{digits_value}
use Rattle.std.proofs.lemmas.Fmt.{decimal-digits_value}
use Rattle.std.proofs.lemmas.List.{append-nil, flat_map_more, length-drop, length-take}
use Rattle.std.proofs.Math.Seq.{take-length}
use Rattle.plain_list.specs.declared.ops.Op.{Op}
use Rattle.csv_rows.specs.declared.rows.InRow.{InRow}
use Rattle.csv_rows.specs.InRows.{AreInRows, IsInRow}
use Rattle.csv_rows.specs.RowLines.{header_line, line_then, op_fields, op_tail, row_line, rows_text}
use Rattle.csv_rows.specs.Records.{rows_in}
use Rattle.csv_rows.specs.Rows.{behind_mark, has_mark, rows_of}
use Rattle.csv_rows.proofs.NumbersFacts.{numerals}
use Rattle.csv_rows.proofs.RoundTrip.{rows_of-rows_text}
use Rattle.csv_rows.proofs.RowsFacts.{all_by_recursion-push, rows_of-unmarked}

fields-then : (fields : List (List ℕ)) (rest : List ℕ) → (flat_map (λ (field : List ℕ). codes "," ++ field) fields ++ codes "\n") ++ rest ≡ line_then fields rest
fields-then [] rest = refl
fields-then (field ∷ fields) rest =
    let more = flat_map (λ (f : List ℕ). codes "," ++ f) fields in
    ap (λ l. codes "," ++ l) (ap (λ l. l ++ rest) (append_assoc field more (codes "\n")) ∙ append_assoc field (more ++ codes "\n") rest ∙ ap (λ l. field ++ l) (fields-then fields rest))

-- a text of an operation's fields is what is written of it
pub op-written : (op : Op) (text rest : List ℕ) → text ≡ line_then (op_fields op) rest → text ≡ op_tail op ++ rest
op-written op text rest e = e ∙ sym (fields-then (op_fields op) rest)

-- what is written of an operation is its fields, each behind a comma, and the end of the line
pub op_tail-line : (op : Op) → op_tail op ≡ line_then (op_fields op) []
op_tail-line op = sym (append-nil (op_tail op)) ∙ fields-then (op_fields op) []

first-taken : (text : List ℕ) (len : ℕ) → 0 < len → get_or (take len text) 0 0 ≡ get_or text 0 0
first-taken text len some = grind (arith, some)

only-zero : (first len : ℕ) → ((first ≡ 48) × (len ≤ 1)) ⊎ (first ≡ 48 → ⊥) → first ≡ 48 → len ≤ 1
only-zero first len (inl zero) e = zero.1
only-zero first len (inr other) e = absurd (other e)

-- digits with no leading zero are what is written of their value
pub front-written : (text : List ℕ) (number len : ℕ) → number ≡ digits_value 10 (take len text) → list_all is_ascii_digit (take len text) ≡ true → number < 2 ^ 64 → 0 < len → len ≤ length text → ((slice_index_or text 0 0 ≡ 48) × (len ≤ 1)) ⊎ (slice_index_or text 0 0 ≡ 48 → ⊥)
    → text ≡ decimal number ++ take (length text - len) (drop len text)
front-written text number len value digits fits some within either =
    let leading = only-zero (slice_index_or text 0 0) len either in
    let long : length (take len text) ≡ len = length-take len text ∙ omega (arith, within) in
    let written : decimal (digits_value 10 (take len text)) ≡ take len text =
    decimal-digits_value numerals (take len text) digits (omega (arith, long, some)) (λ e. omega (arith, long, some, leading (sym (first-taken text len some) ∙ e))) (omega (arith, value, fits)) in
    let rest : take (length text - len) (drop len text) ≡ drop len text = ap (λ n. take n (drop len text)) (sym (length-drop len text)) ∙ take-length (drop len text) in
    sym (take-append-drop len text) ∙ ap (λ l. l ++ drop len text) (sym written ∙ ap decimal (sym value)) ∙ ap (λ l. decimal number ++ l) (sym rest)

-- rows were taken off the front of a text, and this is what is left
pub record HasTaken (text rest : List ℕ) (rows : List InRow) (count : ℕ) : Type 0 where
  pub whole : text ≡ rows_text rows ++ rest
  pub each : AllByRecursion IsInRow rows
  pub many : length rows ≡ count

pub taken-none : (text rest : List ℕ) → text ≡ header_line ++ rest → HasTaken text rest [] 0
unfolding rows_text
taken-none text rest e = record { whole = e; each = tt; many = refl }

pub taken-more : (text rest more : List ℕ) (rows : List InRow) (row : InRow) (count : ℕ) → HasTaken text rest rows count → rest ≡ row_line row ++ more → IsInRow row → HasTaken text more (rows ++ row ∷ []) (count + 1)
unfolding rows_text
taken-more text rest more rows row count h line good = record {
  whole = h.whole ∙ ap (λ l. rows_text rows ++ l) line ∙ sym (append_assoc (rows_text rows) (row_line row) more) ∙ ap (λ l. l ++ more) (flat_map_more row_line header_line rows row);
  each = all_by_recursion-push rows row h.each good;
  many = length-append rows (row ∷ []) ∙ ap (λ n. n + 1) h.many;
}

nothing : (rest : List ℕ) → length rest ≡ 0 → rest ≡ []
nothing [] e = refl
nothing (b ∷ rest) e = cc e

-- all of the text was taken
pub taken-all : (text rest : List ℕ) (rows : List InRow) (count : ℕ) → HasTaken text rest rows count → length rest ≡ 0 → count ≤ 65536 → (text ≡ rows_text rows) × AreInRows rows
taken-all text rest rows count h none few =
    (h.whole ∙ ap (λ l. rows_text rows ++ l) (nothing rest none) ∙ append-nil (rows_text rows), record { each = h.each; most = omega (arith, h.many, few) })

-- the rows of a text that is written of them
pub written-rows : (bytes text : List ℕ) (rows : List InRow) → text ≡ behind_mark bytes → has_mark text ≡ false → text ≡ rows_text rows → AreInRows rows → rows_of bytes ≡ Ok rows
written-rows bytes text rows is unmarked written good =
    let behind : behind_mark text ≡ text = rw unmarked refl in
    rows_of-unmarked bytes (ap has_mark (sym is) ∙ unmarked)
    ∙ ap rows_in (sym is ∙ sym behind)
    ∙ sym (rows_of-unmarked text (ap has_mark behind ∙ unmarked))
    ∙ ap rows_of written
    ∙ rows_of-rows_text rows good
