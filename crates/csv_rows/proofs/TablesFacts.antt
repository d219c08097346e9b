-- Rows of a table so far, and what is left of a text.
use Rattle.std.proofs.Common.{◌≡◌, ℕ, ◌+◌, ◌<◌, ◌≤◌, Bool, true, false, List, [], ◌∷◌, ◌++◌, length, Result, Ok, Err, refl, sym, ◌∙◌, ap, cond, subst, append_assoc}
use Rattle.std.proofs.lemmas.Bool.{le-leb, leb-false, lt-leb}
use Rattle.std.specs.Prelude.{nat_le}
use Rattle.std.proofs.lemmas.List.{append-nil}
use Rattle.std.specs.Borrow.{Bor}
use Rattle.csv.specs.Reading.{default_config, records}
use Rattle.csv.specs.declared.reader.Reader.{Reader}
use Rattle.csv_rows.specs.Records.{StandsBehind, TakesRecord}
use Rattle.csv_rows.specs.Rows.{has_mark, behind_mark, fault_at}
use Rattle.csv_rows.specs.Tables.{Table, HasReadRows, with_row_at, read_one, read_more, is_header_of, rows_of_records, rows_of_text, rows_in_table}
use Rattle.csv_rows.specs.declared.rows.RowsFault.{RowsFault}
use Rattle.csv_rows.specs.declared.rows.RowsFault.TheVariants.{Header, TooMany}
use Rattle.csv_rows.specs.declared.rows.Wrong.{Wrong}
use Rattle.csv_rows.proofs.RecordsFacts.{so_far_first}
use Rattle.csv_rows.proofs.RowsFacts.{took, ended, strip_bom-unmarked}

module _ {T : Type 0} (table : Table T) where
  read_more-err : (e : RowsFault) (more : List (List (List ℕ))) → read_more table (Err e) more ≡ Err e
  read_more-err e [] = refl
  read_more-err e (f ∷ more) = read_more-err e more

  read_one-within : (rows : List T) (f : List (List ℕ)) → length rows < table.most → read_one table (Ok rows) f ≡ with_row_at (length rows + 1) rows (table.row_of rows f)
  read_one-within rows f lt = ap (λ b. cond b (Err TooMany) (with_row_at (length rows + 1) rows (table.row_of rows f))) (lt-leb table.most (length rows) lt)

  read_one-over : (rows : List T) (f : List (List ℕ)) → table.most ≤ length rows → read_one table (Ok rows) f ≡ Err TooMany
  read_one-over rows f le = ap (λ b. cond b (Err TooMany) (with_row_at (length rows + 1) rows (table.row_of rows f))) (le-leb table.most (length rows) le)

  titled : (f : List (List ℕ)) (more : List (List (List ℕ))) → is_header_of table f ≡ true → rows_of_records table (f ∷ more) ≡ read_more table (Ok []) more
  titled f more good = ap (λ b. cond b (read_more table (Ok []) more) (Err Header)) good

  untitled : (f : List (List ℕ)) (more : List (List (List ℕ))) → is_header_of table f ≡ false → rows_of_records table (f ∷ more) ≡ Err Header
  untitled f more bad = ap (λ b. cond b (read_more table (Ok []) more) (Err Header)) bad

  -- without a record there is no header
  pub table-empty : (text : List ℕ) (old new : Reader (Bor (List ℕ))) (found : Bool) (f : List (List ℕ)) → StandsBehind text [] old → TakesRecord old new found f → found ≡ false → rows_in_table table text ≡ Err Header
  table-empty text old new found f h t e = ap (rows_of_records table) (ended _ _ found e (t text [] h))

  pub table-untitled : (text : List ℕ) (old new : Reader (Bor (List ℕ))) (found : Bool) (f : List (List ℕ)) → StandsBehind text [] old → TakesRecord old new found f → found ≡ true → is_header_of table f ≡ false
      → rows_in_table table text ≡ Err Header
  table-untitled text old new found f h t e bad =
      let all = so_far_first text (f ∷ []) new (took _ _ found e (t text [] h)) in
      ap (rows_of_records table) all.1 ∙ untitled f all.0 bad

  pub table-begins : (text : List ℕ) (old new : Reader (Bor (List ℕ))) (found : Bool) (f : List (List ℕ)) → StandsBehind text [] old → TakesRecord old new found f → found ≡ true → is_header_of table f ≡ true
      → HasReadRows table text new []
  table-begins text old new found f h t e good = record {
    records = f ∷ [];
    stands = took _ _ found e (t text [] h);
    so_far = λ more. titled f more good;
  }

  -- what comes behind a record more
  behind : (text : List ℕ) (reader : Reader (Bor (List ℕ))) (rows : List T) (h : HasReadRows table text reader rows) (f : List (List ℕ)) (more : List (List (List ℕ)))
      → rows_of_records table ((h.records ++ f ∷ []) ++ more) ≡ read_more table (read_one table (Ok rows) f) more
  behind text reader rows h f more = ap (rows_of_records table) (append_assoc h.records (f ∷ []) more) ∙ h.so_far (f ∷ more)

  pub table-more : (text : List ℕ) (old new : Reader (Bor (List ℕ))) (rows : List T) (found : Bool) (f : List (List ℕ)) (row : T) → HasReadRows table text old rows → TakesRecord old new found f → found ≡ true
      → length rows < table.most → table.row_of rows f ≡ Ok row → HasReadRows table text new (rows ++ row ∷ [])
  table-more text old new rows found f row h t e lt is = record {
    records = h.records ++ f ∷ [];
    stands = took _ _ found e (t text h.records h.stands);
    so_far = λ more. behind text old rows h f more ∙ ap (λ r. read_more table r more) (read_one-within rows f lt ∙ ap (with_row_at (length rows + 1) rows) is);
  }

  -- a record at fault is the first
  stops : (text : List ℕ) (old new : Reader (Bor (List ℕ))) (rows : List T) (found : Bool) (f : List (List ℕ)) (e : RowsFault) → HasReadRows table text old rows → TakesRecord old new found f → found ≡ true
      → read_one table (Ok rows) f ≡ Err e → rows_in_table table text ≡ Err e
  stops text old new rows found f e h t is bad =
      let all = so_far_first text (h.records ++ f ∷ []) new (took _ _ found is (t text h.records h.stands)) in
      ap (rows_of_records table) all.1 ∙ behind text old rows h f all.0 ∙ ap (λ r. read_more table r all.0) bad ∙ read_more-err e all.0

  pub table-wrong : (text : List ℕ) (old new : Reader (Bor (List ℕ))) (rows : List T) (found : Bool) (f : List (List ℕ)) (wrong : Wrong) → HasReadRows table text old rows → TakesRecord old new found f → found ≡ true
      → length rows < table.most → table.row_of rows f ≡ Err wrong → rows_in_table table text ≡ Err (fault_at (length rows + 1) wrong)
  table-wrong text old new rows found f wrong h t e lt bad =
      stops text old new rows found f (fault_at (length rows + 1) wrong) h t e (read_one-within rows f lt ∙ ap (with_row_at (length rows + 1) rows) bad)

  pub table-over : (text : List ℕ) (old new : Reader (Bor (List ℕ))) (rows : List T) (found : Bool) (f : List (List ℕ)) → HasReadRows table text old rows → TakesRecord old new found f → found ≡ true
      → table.most ≤ length rows → rows_in_table table text ≡ Err TooMany
  table-over text old new rows found f h t e le = stops text old new rows found f TooMany h t e (read_one-over rows f le)

  pub table-all : (text : List ℕ) (old new : Reader (Bor (List ℕ))) (rows : List T) (found : Bool) (f : List (List ℕ)) → HasReadRows table text old rows → TakesRecord old new found f → found ≡ false
      → rows_in_table table text ≡ Ok rows
  table-all text old new rows found f h t e =
      ap (rows_of_records table) (ended _ _ found e (t text h.records h.stands)) ∙ ap (rows_of_records table) (sym (append-nil h.records)) ∙ h.so_far []

  -- a text without a second mark is what the reader reads
  pub table-marked : (bytes : List ℕ) → has_mark (behind_mark bytes) ≡ true → rows_of_text table bytes ≡ Err Header
  unfolding rows_of_text
  table-marked bytes e = rw e refl

  pub table-unmarked : (bytes text : List ℕ) (marked : Bool) → text ≡ behind_mark bytes → marked ≡ has_mark text → marked ≡ false → rows_of_text table bytes ≡ rows_in_table table text
  unfolding rows_of_text
  table-unmarked bytes text marked is test e =
      let bare : has_mark (behind_mark bytes) ≡ false = ap has_mark (sym is) ∙ sym test ∙ e in
      rw bare (ap (λ t. rows_of_records table (records default_config t)) (sym (strip_bom-unmarked (behind_mark bytes) bare)) ∙ ap (rows_in_table table) (sym is))

  abbrev read : List T → Result (List T) RowsFault
  read rows = Ok rows

  ok-same : (x y : List T) → read x ≡ read y → x ≡ y
  ok-same x y e = cc e

  err-ok : (e : RowsFault) (x : List T) → Err e ≡ read x → ⊥
  err-ok e x is = cc is

  -- what a record more did, seen from the rows that it left
  row-taken : (b : Bool) (rows next : List T) (r : Result T Wrong) → cond b (Err TooMany) (with_row_at (length rows + 1) rows r) ≡ Ok next → (b ≡ false) × ((row : T) × (r ≡ Ok row) × (next ≡ rows ++ row ∷ []))
  row-taken true rows next r e = absurd (err-ok TooMany next e)
  row-taken false rows next (Ok row) e = (refl, (row, refl, sym (ok-same (rows ++ row ∷ []) next e)))
  row-taken false rows next (Err wrong) e = absurd (err-ok (fault_at (length rows + 1) wrong) next e)

  module _ (P : List T → Type 0) (step : (rows : List T) (f : List (List ℕ)) (row : T) → length rows < table.most → table.row_of rows f ≡ Ok row → P rows → P (rows ++ row ∷ [])) where
    more-keeps : (rows all : List T) (more : List (List (List ℕ))) → P rows → read_more table (Ok rows) more ≡ Ok all → P all
    more-keeps rows all [] h e = subst P (ok-same rows all e) h
    more-keeps rows all (f ∷ more) h e = by_one (λ next kept gives. more-keeps next all more kept gives) (read_one table (Ok rows) f) refl e
      where
        by_one : ((next : List T) → P next → read_more table (Ok next) more ≡ Ok all → P all) → (r : Result (List T) RowsFault) → read_one table (Ok rows) f ≡ r → read_more table r more ≡ Ok all → P all
        by_one go (Err fault) is gives = absurd (err-ok fault all (sym (read_more-err fault more) ∙ gives))
        by_one go (Ok next) is gives =
            let row = row-taken (nat_le table.most (length rows)) rows next (table.row_of rows f) is in
            go next (subst P (sym row.1.2) (step rows f row.1.0 (leb-false table.most (length rows) row.0) row.1.1 h)) gives

    -- what holds of no rows, and goes on holding with each row more, holds of the rows of a text
    pub table-keeps : (bytes : List ℕ) (all : List T) → P [] → rows_of_text table bytes ≡ Ok all → P all
    unfolding rows_of_text
    table-keeps bytes all none e = by_mark (has_mark (behind_mark bytes)) e
      where
        by_header : (b : Bool) (more : List (List (List ℕ))) → cond b (read_more table (Ok []) more) (Err Header) ≡ Ok all → P all
        by_header true more is = more-keeps [] all more none is
        by_header false more is = absurd (err-ok Header all is)

        by_records : (rs : List (List (List ℕ))) → rows_of_records table rs ≡ Ok all → P all
        by_records [] is = absurd (err-ok Header all is)
        by_records (f ∷ more) is = by_header (is_header_of table f) more is

        by_mark : (b : Bool) → cond b (Err Header) (rows_of_records table (records default_config (behind_mark bytes))) ≡ Ok all → P all
        by_mark true is = absurd (err-ok Header all is)
        by_mark false is = by_records (records default_config (behind_mark bytes)) is
