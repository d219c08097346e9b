-- Rows so far, and what is left of a text.
use Rattle.std.proofs.Common.{◌≡◌, ℕ, ◌+◌, ◌<◌, ◌≤◌, Bool, true, false, List, [], ◌∷◌, ◌++◌, length, Result, Ok, Err, refl, sym, ◌∙◌, ap, subst, arith, cond, append_assoc, length-append}
use Rattle.std.proofs.lemmas.Bool.{le-ltb, lt-ltb}
use Rattle.std.proofs.lemmas.List.{append-nil}
use Rattle.std.specs.Bool.{MatchBool}
use Rattle.std.specs.Borrow.{Bor}
use Rattle.std.specs.List.{AllByRecursion}
use Rattle.csv.specs.Reading.{default_config, is_bom, records, strip_bom}
use Rattle.csv.specs.declared.reader.Reader.{Reader}
use Rattle.csv_rows.specs.InRows.{AreInRows, IsInRow}
use Rattle.csv_rows.specs.Records.{HasRead, SoFar, StandsBehind, TakesRecord, rows_in}
use Rattle.csv_rows.proofs.RecordsFacts.{so_far_first}
use Rattle.csv_rows.specs.declared.rows.InRow.{InRow}
use Rattle.csv_rows.specs.declared.rows.RowsFault.{RowsFault}
use Rattle.csv_rows.specs.declared.rows.RowsFault.TheVariants.{Header, TooMany}
use Rattle.csv_rows.specs.declared.rows.Wrong.{Wrong}
use Rattle.csv_rows.specs.Fields.{row_of}
use Rattle.csv_rows.specs.Rows.{has_mark, behind_mark, rows_of, is_header, rows_behind_header, rows_from, row_then, with_row, with_rows, fault_at}

with_rows-push : (rows : List InRow) (row : InRow) (more : Result (List InRow) RowsFault) → with_rows rows (with_row row more) ≡ with_rows (rows ++ row ∷ []) more
with_rows-push [] row more = refl
with_rows-push (r ∷ rows) row more = ap (with_row r) (with_rows-push rows row more)

with_rows-err : (rows : List InRow) (e : RowsFault) → with_rows rows (Err e) ≡ Err e
with_rows-err [] e = refl
with_rows-err (r ∷ rows) e = ap (with_row r) (with_rows-err rows e)

pub with_rows-ok : (rows : List InRow) → with_rows rows (Ok []) ≡ Ok rows
with_rows-ok [] = refl
with_rows-ok (r ∷ rows) = ap (with_row r) (with_rows-ok rows)

pub header_first : (f : List (List ℕ)) (rows : List InRow) → is_header f ≡ true → SoFar [] rows → SoFar (f ∷ []) rows
header_first f rows good none more = ap (λ b. cond b (rows_from 1 more) (Err Header)) good ∙ ap (λ (l : List InRow). with_rows l (rows_from 1 more)) (sym none)

pub header_bad : (f : List (List ℕ)) (more : List (List (List ℕ))) → is_header f ≡ false → rows_behind_header (f ∷ more) ≡ Err Header
header_bad f more bad = ap (λ b. cond b (rows_from 1 more) (Err Header)) bad

within : (n : ℕ) (f : List (List ℕ)) (more : List (List (List ℕ))) → n ≤ 65536 → rows_from n (f ∷ more) ≡ row_then n (row_of f) (rows_from (n + 1) more)
within n f more le = ap (λ b. cond b (Err TooMany) (row_then n (row_of f) (rows_from (n + 1) more))) (le-ltb 65536 n le)

pub row_more : (r f : List (List ℕ)) (rs : List (List (List ℕ))) (rows : List InRow) (row : InRow) → length (r ∷ rs) ≤ 65536 → row_of f ≡ Ok row → SoFar (r ∷ rs) rows
    → SoFar ((r ∷ rs) ++ f ∷ []) (rows ++ row ∷ [])
row_more r f rs rows row le good so_far more =
    let n : ℕ = length (r ∷ rs) in
    let long : length ((r ∷ rs) ++ f ∷ []) ≡ n + 1 = length-append (r ∷ rs) (f ∷ []) in
    ap rows_behind_header (append_assoc (r ∷ rs) (f ∷ []) more)
    ∙ so_far (f ∷ more)
    ∙ ap (with_rows rows) (within n f more le ∙ ap (λ w. row_then n w (rows_from (n + 1) more)) good)
    ∙ with_rows-push rows row (rows_from (n + 1) more)
    ∙ ap (λ k. with_rows (rows ++ row ∷ []) (rows_from k more)) (sym long)

pub row_bad : (r f : List (List ℕ)) (rs more : List (List (List ℕ))) (rows : List InRow) (wrong : Wrong) → length (r ∷ rs) ≤ 65536 → row_of f ≡ Err wrong → SoFar (r ∷ rs) rows
    → rows_behind_header (((r ∷ rs) ++ f ∷ []) ++ more) ≡ Err (fault_at (length (r ∷ rs)) wrong)
row_bad r f rs more rows wrong le bad so_far =
    let n : ℕ = length (r ∷ rs) in
    ap rows_behind_header (append_assoc (r ∷ rs) (f ∷ []) more)
    ∙ so_far (f ∷ more)
    ∙ ap (with_rows rows) (within n f more le ∙ ap (λ w. row_then n w (rows_from (n + 1) more)) bad)
    ∙ with_rows-err rows (fault_at n wrong)

pub row_over : (r f : List (List ℕ)) (rs more : List (List (List ℕ))) (rows : List InRow) → 65536 < length (r ∷ rs) → SoFar (r ∷ rs) rows
    → rows_behind_header (((r ∷ rs) ++ f ∷ []) ++ more) ≡ Err TooMany
row_over r f rs more rows lt so_far =
    let n : ℕ = length (r ∷ rs) in
    ap rows_behind_header (append_assoc (r ∷ rs) (f ∷ []) more)
    ∙ so_far (f ∷ more)
    ∙ ap (with_rows rows) (ap (λ b. cond b (Err TooMany) (row_then n (row_of f) (rows_from (n + 1) more))) (lt-ltb 65536 n lt))
    ∙ with_rows-err rows TooMany

-- what a read that found a record did, and one that found none
abbrev pub took : (P Q : Type 0) (found : Bool) → found ≡ true → MatchBool found P Q → P
took P Q found e h = let F : Bool → Type 0 = λ b. MatchBool b P Q in subst F e h

abbrev pub ended : (P Q : Type 0) (found : Bool) → found ≡ false → MatchBool found P Q → Q
ended P Q found e h = let F : Bool → Type 0 = λ b. MatchBool b P Q in subst F e h

pub no_record : (text : List ℕ) (old new : Reader (Bor (List ℕ))) (found : Bool) (f : List (List ℕ)) → StandsBehind text [] old → TakesRecord old new found f → found ≡ false → rows_in text ≡ Err Header
no_record text old new found f h t e = ap rows_behind_header (ended _ _ found e (t text [] h))

pub no_header : (text : List ℕ) (old new : Reader (Bor (List ℕ))) (found : Bool) (f : List (List ℕ)) → StandsBehind text [] old → TakesRecord old new found f → found ≡ true → is_header f ≡ false → rows_in text ≡ Err Header
no_header text old new found f h t e bad =
    let all = so_far_first text (f ∷ []) new (took _ _ found e (t text [] h)) in
    ap rows_behind_header all.1 ∙ header_bad f all.0 bad

pub begins : (text : List ℕ) (old new : Reader (Bor (List ℕ))) (found : Bool) (f : List (List ℕ)) → StandsBehind text [] old → TakesRecord old new found f → found ≡ true → is_header f ≡ true → HasRead text new [] 1
begins text old new found f h t e good = record {
  first = f;
  rest = [];
  stands = took _ _ found e (t text [] h);
  count = refl;
  so_far = header_first f [] good refl;
  good = tt;
  fewer = refl;
}

pub all_by_recursion-push : (rows : List InRow) (row : InRow) → AllByRecursion IsInRow rows → IsInRow row → AllByRecursion IsInRow (rows ++ row ∷ [])
all_by_recursion-push [] row h good = (good, tt)
all_by_recursion-push (r ∷ rows) row h good = (h.0, all_by_recursion-push rows row h.1 good)

pub has_more : (text : List ℕ) (old new : Reader (Bor (List ℕ))) (rows : List InRow) (number : ℕ) (found : Bool) (f : List (List ℕ)) (row : InRow) → HasRead text old rows number → TakesRecord old new found f → found ≡ true
    → number ≤ 65536 → row_of f ≡ Ok row → IsInRow row → HasRead text new (rows ++ row ∷ []) (number + 1)
has_more text old new rows number found f row h t e le is good = record {
  first = h.first;
  rest = h.rest ++ f ∷ [];
  stands = took _ _ found e (t text (h.first ∷ h.rest) h.stands);
  count = omega (arith, h.count, length-append (h.first ∷ h.rest) (f ∷ []));
  so_far = row_more h.first f h.rest rows row (omega (arith, h.count, le)) is h.so_far;
  good = all_by_recursion-push rows row h.good good;
  fewer = omega (arith, h.fewer, length-append rows (row ∷ []));
}

pub has_wrong : (text : List ℕ) (old new : Reader (Bor (List ℕ))) (rows : List InRow) (number : ℕ) (found : Bool) (f : List (List ℕ)) (wrong : Wrong) → HasRead text old rows number → TakesRecord old new found f → found ≡ true
    → number ≤ 65536 → row_of f ≡ Err wrong → rows_in text ≡ Err (fault_at number wrong)
has_wrong text old new rows number found f wrong h t e le bad =
    let all = so_far_first text ((h.first ∷ h.rest) ++ f ∷ []) new (took _ _ found e (t text (h.first ∷ h.rest) h.stands)) in
    ap rows_behind_header all.1 ∙ row_bad h.first f h.rest all.0 rows wrong (omega (arith, h.count, le)) bad h.so_far ∙ ap (λ n. Err (fault_at n wrong)) (sym h.count)

pub has_over : (text : List ℕ) (old new : Reader (Bor (List ℕ))) (rows : List InRow) (number : ℕ) (found : Bool) (f : List (List ℕ)) → HasRead text old rows number → TakesRecord old new found f → found ≡ true
    → 65536 < number → rows_in text ≡ Err TooMany
has_over text old new rows number found f h t e lt =
    let all = so_far_first text ((h.first ∷ h.rest) ++ f ∷ []) new (took _ _ found e (t text (h.first ∷ h.rest) h.stands)) in
    ap rows_behind_header all.1 ∙ row_over h.first f h.rest all.0 rows (omega (arith, h.count, lt)) h.so_far

pub has_all : (text : List ℕ) (old new : Reader (Bor (List ℕ))) (rows : List InRow) (number : ℕ) (found : Bool) (f : List (List ℕ)) → HasRead text old rows number → TakesRecord old new found f → found ≡ false
    → rows_in text ≡ Ok rows
has_all text old new rows number found f h t e =
    ap rows_behind_header (ended _ _ found e (t text (h.first ∷ h.rest) h.stands)) ∙ ap rows_behind_header (sym (append-nil (h.first ∷ h.rest))) ∙ h.so_far [] ∙ with_rows-ok rows

-- the rows that a reader has read are as few as an input may hold
pub all_rules : (text : List ℕ) (reader : Reader (Bor (List ℕ))) (rows : List InRow) (number : ℕ) → HasRead text reader rows number → number ≤ 65537 → AreInRows rows
all_rules text reader rows number h few = record { each = h.good; most = omega (arith, h.fewer, few) }

-- a text without a mark is what the reader reads
mark-none : (a b c : ℕ) (rest : List ℕ) → has_mark (a ∷ b ∷ c ∷ rest) ≡ false → is_bom a b c ≡ false
mark-none a b c rest e = grind (arith, e)

pub strip_bom-unmarked : (text : List ℕ) → has_mark text ≡ false → strip_bom text ≡ text
unfolding strip_bom
strip_bom-unmarked [] e = refl
strip_bom-unmarked (a ∷ []) e = refl
strip_bom-unmarked (a ∷ b ∷ []) e = refl
strip_bom-unmarked (a ∷ b ∷ c ∷ rest) e = rw (mark-none a b c rest e) refl

pub rows_of-marked : (bytes : List ℕ) → has_mark (behind_mark bytes) ≡ true → rows_of bytes ≡ Err Header
unfolding rows_of
rows_of-marked bytes e = rw e refl

pub rows_of-unmarked : (bytes : List ℕ) → has_mark (behind_mark bytes) ≡ false → rows_of bytes ≡ rows_in (behind_mark bytes)
unfolding rows_of
rows_of-unmarked bytes e = rw e (ap (λ t. rows_behind_header (records default_config t)) (sym (strip_bom-unmarked (behind_mark bytes) e)))
