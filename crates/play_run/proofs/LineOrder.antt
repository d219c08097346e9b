-- Lines in the order of rows, from what the lanes of their sessions kept.
use Rattle.std.proofs.Common.{◌≡◌, ℕ, zero, suc, ◌+◌, ◌<◌, ◌≤◌, Bool, true, false, cond, ◌==◌, List, [], ◌∷◌, ◌++◌, length, length-append, take, drop, get_or, replicate, set, map, Option, None, Result, refl, sym, ◌∙◌, ap, subst, arith}
use Rattle.std.specs.List.{flat_map, range_with_len}
use Rattle.std.specs.Result.{IsErr}
use Rattle.std.proofs.lemmas.Bool.{eqb-true, eqb-false}
use Rattle.std.proofs.lemmas.Bool.Decides.{Decides-eqb}
use Rattle.std.proofs.lemmas.List.{append-nil, drop_more, take_more, length-set, length-replicate, get_or-replicate, get_or-set_other}
use Rattle.std.proofs.lemmas.List.FromFn.{length-range_with_len}
use Rattle.std.proofs.lemmas.Grind.{get_or-set_at}
use Rattle.plain_list.specs.World.{World}
use Rattle.plain_list.specs.declared.ops.Op.{Op}
use Rattle.plain_list.specs.declared.entries.Entry.{Entry}
use Rattle.std.specs.List.{AllByRecursion}
use Rattle.plain_list.specs.declared.ops.Answer.TheVariants.{Done}
use Rattle.csv_rows.specs.declared.rows.InRow.{InRow}
use Rattle.csv_rows.specs.InRows.{IsInRow, AreInRows}
use Rattle.csv_rows.specs.Lines.{line_text, title_line}
use Rattle.csv_rows.specs.Pieces.{Moves}
use Rattle.csv_rows.proofs.PiecesFacts.{HasAdded, added-moved, added-behind, added-all, moves-is, puts-is, puts-fault, puts-last}
use Rattle.io_edge.specs.Puts.{Puts}
use Rattle.sessions.specs.declared.store.lanes.KeptRow.{KeptRow}
use Rattle.lane_history.specs.SessionRows.{session_rows, session_rows_from, row_place}
use Rattle.lane_history.specs.Kept.{IsRight, AreRight}
use Rattle.play_run.specs.declared.lanes.LaneEnd.{LaneEnd}
use Rattle.play_run.specs.Lines.{line_at, line_if, lines_of}
use Rattle.play_run.specs.inside.Answered.{kept_of, HasNumbers, HasAnswers}

length-take-most : (i : ℕ) (xs : List InRow) → length (take i xs) ≤ length xs
length-take-most zero xs = omega arith
length-take-most (suc i) [] = omega arith
length-take-most (suc i) (x ∷ xs) = let more = length-take-most i xs in omega (arith, more)

-- how many rows of a session stand before this one
abbrev pub before : List InRow → ℕ → ℕ → ℕ
before rows i s = length (session_rows_from 1 s (take i rows))

rows-split : (n s : ℕ) (rows : List InRow) (i : ℕ) → session_rows_from n s rows ≡ session_rows_from n s (take i rows) ++ session_rows_from (n + i) s (drop i rows)
rows-split n s rows zero = ap (λ (k : ℕ). session_rows_from k s rows) same
  where
    same : n ≡ n + 0
    same = omega arith
rows-split n s [] (suc i) = refl
rows-split n s (r ∷ rows) (suc i) = by_test (rows-split (n + 1) s rows i) (r.session == s)
  where
    one : n + 1 + i ≡ n + suc i
    one = omega arith

    by_test : session_rows_from (n + 1) s rows ≡ session_rows_from (n + 1) s (take i rows) ++ session_rows_from (n + 1 + i) s (drop i rows) → (b : Bool)
        → cond b ((n, r.op) ∷ session_rows_from (n + 1) s rows) (session_rows_from (n + 1) s rows)
        ≡ cond b ((n, r.op) ∷ session_rows_from (n + 1) s (take i rows)) (session_rows_from (n + 1) s (take i rows)) ++ session_rows_from (n + suc i) s (drop i rows)
    by_test more true = ap (λ (l : List (ℕ × Op)). (n, r.op) ∷ l) (more ∙ ap (λ (k : ℕ). session_rows_from (n + 1) s (take i rows) ++ session_rows_from k s (drop i rows)) one)
    by_test more false = more ∙ ap (λ (k : ℕ). session_rows_from (n + 1) s (take i rows) ++ session_rows_from k s (drop i rows)) one

get-behind : (xs ys : List (ℕ × Op)) (y d : ℕ × Op) → get_or (xs ++ y ∷ ys) (length xs) d ≡ y
get-behind [] ys y d = refl
get-behind (x ∷ xs) ys y d = get-behind xs ys y d

-- the next row of its session
next-row : (rows : List InRow) (i : ℕ) (row : InRow) (d : ℕ × Op) → i < length rows → (before rows i (get_or rows i row).session < length (session_rows rows (get_or rows i row).session))
    × ((get_or (session_rows rows (get_or rows i row).session) (before rows i (get_or rows i row).session) d).0 ≡ i + 1)
next-row rows i row d lt = (
  omega (arith, ap length whole, length-append (session_rows_from 1 s (take i rows)) ((1 + i, r.op) ∷ rest)),
  ap (λ (l : List (ℕ × Op)). (get_or l (before rows i s) d).0) whole ∙ ap (λ (x : ℕ × Op). x.0) (get-behind (session_rows_from 1 s (take i rows)) rest (1 + i, r.op) d) ∙ one,
)
  where
    r : InRow
    r = get_or rows i row

    s : ℕ
    s = r.session

    rest : List (ℕ × Op)
    rest = session_rows_from (1 + i + 1) s (drop (i + 1) rows)

    one : 1 + i ≡ i + 1
    one = omega arith

    here : session_rows_from (1 + i) s (drop i rows) ≡ (1 + i, r.op) ∷ rest
    here = ap (λ (l : List InRow). session_rows_from (1 + i) s l) (drop_more rows i row lt) ∙ ap (λ (b : Bool). cond b ((1 + i, r.op) ∷ rest) rest) ((Decides-eqb s s).1 refl)

    whole : session_rows rows s ≡ session_rows_from 1 s (take i rows) ++ (1 + i, r.op) ∷ rest
    whole = rows-split 1 s rows i ∙ ap (λ (l : List (ℕ × Op)). session_rows_from 1 s (take i rows) ++ l) here

numbers-at : (kept : List KeptRow) (own : List (ℕ × Op)) → map (λ (k : KeptRow). k.row) kept ≡ map (λ (r : ℕ × Op). r.0) own → (c : ℕ) (d : KeptRow) (e : ℕ × Op) → c < length own
    → (c < length kept) × ((get_or kept c d).row ≡ (get_or own c e).0)
numbers-at [] [] same c d e lt = absurd (omega (arith, lt))
numbers-at [] (r ∷ own) same c d e lt = absurd (cc same)
numbers-at (k ∷ kept) [] same c d e lt = absurd (cc same)
numbers-at (k ∷ kept) (r ∷ own) same zero d e lt = (omega arith, cc same)
numbers-at (k ∷ kept) (r ∷ own) same (suc c) d e lt =
    let rest : map (λ (x : KeptRow). x.row) kept ≡ map (λ (x : ℕ × Op). x.0) own = cc same in
    let at = numbers-at kept own rest c d e (omega (arith, lt)) in
    (omega (arith, at.0), at.1)

-- what the lane of a row's session kept next is of that row
pub next-kept : (rows : List InRow) (ends : List LaneEnd) (i : ℕ) (row : InRow) (d : KeptRow) → HasNumbers rows ends → i < length rows
    → (before rows i (get_or rows i row).session < length (kept_of (get_or rows i row).session ends)) × ((get_or (kept_of (get_or rows i row).session ends) (before rows i (get_or rows i row).session) d).row ≡ i + 1)
next-kept rows ends i row d numbers lt =
    let s = (get_or rows i row).session in
    let e : ℕ × Op = (0, (get_or rows i row).op) in
    let next = next-row rows i row e lt in
    let at = numbers-at (kept_of s ends) (session_rows rows s) (numbers s) (before rows i s) d e next.0 in
    (at.0, at.1 ∙ next.1)

right-at : (world : World) (h : List Entry) (kept : List KeptRow) → AreRight world h kept → (c : ℕ) (d : KeptRow) → c < length kept → IsRight world h (get_or kept c d)
right-at world h [] right c d lt = absurd (omega (arith, lt))
right-at world h (k ∷ kept) (first, right) zero d lt = first
right-at world h (k ∷ kept) (first, right) (suc c) d lt = right-at world h kept right c d (omega (arith, lt))

line-right : (world : World) (h : List Entry) (k : KeptRow) (row : ℕ) → k.row ≡ row → IsRight world h k → line_at world h row (row_place row h) ≡ line_text k.row k.place k.answer
line-right world h k row at right =
    ap (λ (n : ℕ). line_at world h n (row_place n h)) (sym at) ∙ ap (λ p. line_at world h k.row p) right.place ∙ ap (λ a. line_if k.row k.place a) right.answer

-- the line of a row is that of what its lane kept next
pub next-line : (world : World) (h : List Entry) (rows : List InRow) (ends : List LaneEnd) (i : ℕ) (row : InRow) (k : KeptRow) → HasAnswers world h rows ends → i < length rows
    → get_or (kept_of (get_or rows i row).session ends) (before rows i (get_or rows i row).session) k ≡ k → line_at world h (i + 1) (row_place (i + 1) h) ≡ line_text k.row k.place k.answer
next-line world h rows ends i row k answers lt is =
    let s = (get_or rows i row).session in
    let next = next-kept rows ends i row k (λ t. (answers t).numbers) lt in
    line-right world h k (i + 1) (ap (λ (x : KeptRow). x.row) (sym is) ∙ next.1)
    (subst (λ (x : KeptRow). IsRight world h x) is (right-at world h (kept_of s ends) (answers s).right (before rows i s) k next.0))

before-last : (n t : ℕ) (xs : List InRow) (r : InRow) → length (session_rows_from n t (xs ++ r ∷ [])) ≡ length (session_rows_from n t xs) + cond (r.session == t) 1 0
before-last n t [] r = by_test (r.session == t)
  where
    by_test : (b : Bool) → length {A = ℕ × Op} (cond b ((n, r.op) ∷ []) []) ≡ 0 + cond b 1 0
    by_test true = refl
    by_test false = refl
before-last n t (x ∷ xs) r = by_test (before-last (n + 1) t xs r) (x.session == t)
  where
    by_test : length (session_rows_from (n + 1) t (xs ++ r ∷ [])) ≡ length (session_rows_from (n + 1) t xs) + cond (r.session == t) 1 0 → (b : Bool)
        → length (cond b ((n, x.op) ∷ session_rows_from (n + 1) t (xs ++ r ∷ [])) (session_rows_from (n + 1) t (xs ++ r ∷ [])))
        ≡ length (cond b ((n, x.op) ∷ session_rows_from (n + 1) t xs) (session_rows_from (n + 1) t xs)) + cond (r.session == t) 1 0
    by_test more true = omega (arith, more)
    by_test more false = more

-- a row is behind one row more of its session
pub before-more : (rows : List InRow) (i t : ℕ) (row : InRow) → i < length rows → before rows (i + 1) t ≡ before rows i t + cond ((get_or rows i row).session == t) 1 0
before-more rows i t row lt = ap (λ (l : List InRow). length (session_rows_from 1 t l)) (take_more rows i row lt) ∙ before-last 1 t (take i rows) (get_or rows i row)

before-few : (n t : ℕ) (xs : List InRow) → length (session_rows_from n t xs) ≤ length xs
before-few n t [] = omega arith
before-few n t (x ∷ xs) = by_test (before-few (n + 1) t xs) (x.session == t)
  where
    by_test : length (session_rows_from (n + 1) t xs) ≤ length xs → (b : Bool) → length (cond b ((n, x.op) ∷ session_rows_from (n + 1) t xs) (session_rows_from (n + 1) t xs)) ≤ suc (length xs)
    by_test more true = omega (arith, more)
    by_test more false = omega (arith, more)

-- how many rows of each session were told
pub record HasTold (rows : List InRow) (i : ℕ) (told : List ℕ) : Type 0 where
  pub size : length told ≡ 17
  pub each : (t : ℕ) → t ≤ 16 → get_or told t 0 ≡ before rows i t

-- none were told so far
pub told-none : (rows : List InRow) → HasTold rows 0 (replicate 17 0)
told-none rows = record { size = length-replicate {A = ℕ} 17 0; each = λ t le. get_or-replicate {A = ℕ} 17 t 0 0 (omega (arith, le)) }

-- one row more was told
pub told-more : (rows : List InRow) (i : ℕ) (row : InRow) (told : List ℕ) (value : ℕ) → HasTold rows i told → i < length rows → (get_or rows i row).session ≤ 16 → value ≡ get_or told (get_or rows i row).session 0 + 1
    → HasTold rows (i + 1) (set told (get_or rows i row).session value)
told-more rows i row told value has lt few is = record { size = length-set told s value ∙ has.size; each = each }
  where
    s : ℕ
    s = (get_or rows i row).session

    each : (t : ℕ) → t ≤ 16 → get_or (set told s value) t 0 ≡ before rows (i + 1) t
    each t le = by_test (s == t) refl
      where
        by_test : (b : Bool) → (s == t) ≡ b → get_or (set told s value) t 0 ≡ before rows (i + 1) t
        by_test true e =
            let at : t ≡ s = sym (eqb-true s t e) in
            let now : get_or (set told s value) t 0 ≡ value = get_or-set_at told s t value 0 at (omega (arith, has.size, few)) in
            let more : before rows (i + 1) t ≡ before rows i t + 1 = before-more rows i t row lt ∙ ap (λ (b : Bool). before rows i t + cond b 1 0) e in
            let old : get_or told s 0 ≡ before rows i t = ap (λ (k : ℕ). get_or told k 0) (sym at) ∙ has.each t le in
            omega (arith, now, more, old, is)
        by_test false e =
            let now : get_or (set told s value) t 0 ≡ get_or told t 0 = get_or-set_other told s t value 0 (λ (same : t ≡ s). eqb-false s t e (sym same)) in
            let more : before rows (i + 1) t ≡ before rows i t + 0 = before-more rows i t row lt ∙ ap (λ (b : Bool). before rows i t + cond b 1 0) e in
            omega (arith, now, more, has.each t le)

range-at : (start n i d : ℕ) → i < n → get_or (range_with_len start n) i d ≡ i + start
range-at start zero i d lt = absurd (omega (arith, lt))
range-at start (suc n) zero d lt = omega arith
range-at start (suc n) (suc i) d lt = omega (arith, range-at (start + 1) n i d (omega (arith, lt)))

-- a row's line, by its number
abbrev pub line_of : World → List Entry → ℕ → List ℕ
line_of world h row = line_at world h row (row_place row h)

module _ (world : World) (h : List Entry) (rows : List InRow) (ends : List LaneEnd) (answers : HasAnswers world h rows ends) (old mid now : Option (List ℕ)) (faults later : ℕ) (i : ℕ) (row : InRow) (k : KeptRow) (held more : List ℕ)
    (lt : i < length rows) (is : get_or (kept_of (get_or rows i row).session ends) (before rows i (get_or rows i row).session) k ≡ k)
    (has : HasAdded (line_of world h) old mid faults later title_line (range_with_len 1 (length rows)) i held) (moved : Moves mid now (held ++ line_text k.row k.place k.answer) more) where
  abbrev items : List ℕ
  items = range_with_len 1 (length rows)

  same : line_text k.row k.place k.answer ≡ line_of world h (get_or items i 0)
  same = sym (next-line world h rows ends i row k answers lt is) ∙ ap (line_of world h) (sym (range-at 1 (length rows) i 0 lt))

  here : Moves mid now (held ++ line_of world h (get_or items i 0)) more
  here = subst (λ (l : List ℕ). Moves mid now (held ++ l) more) same moved

  within : i < length items
  within = omega (arith, length-range_with_len 1 (length rows), lt)

  -- the line was added
  pub line-added : (last : ℕ) → last ≡ later → HasAdded (line_of world h) old now faults last title_line items (i + 1) more
  line-added last calm = added-moved (line_of world h) old faults title_line items mid now later last i held more 0 has here calm within

  -- a fault came on its way
  pub line-lost : {T E : Type 0} (result : Result T E) → IsErr result → Puts old now (lines_of world (length rows) h) result
  line-lost result err =
      let lost = added-behind (line_of world h) old faults title_line items mid now later i held more 0 has here within in
      puts-is old now ((title_line ++ flat_map (line_of world h) items) ++ []) (lines_of world (length rows) h) result (append-nil (title_line ++ flat_map (line_of world h) items))
      (puts-fault old now (title_line ++ flat_map (line_of world h) items) (more ++ flat_map (line_of world h) (drop (i + 1) items)) [] result err lost)

-- a fault came on the way of the title
pub title-lost : {T E : Type 0} (world : World) (h : List Entry) (rows : List InRow) (old now : Option (List ℕ)) (empty lost : List ℕ) (result : Result T E) → empty ≡ [] → Moves old now (empty ++ title_line) lost → IsErr result
    → Puts old now (lines_of world (length rows) h) result
title-lost world h rows old now empty lost result none moved err =
    puts-fault old now title_line lost (flat_map (line_of world h) (range_with_len 1 (length rows))) result err (moves-is old now (empty ++ title_line) title_line lost (ap (λ (l : List ℕ). l ++ title_line) none) moved)

-- the title was added, and no line
pub title-added : (world : World) (h : List Entry) (all : List ℕ) (old now : Option (List ℕ)) (faults later : ℕ) (empty held : List ℕ) → empty ≡ [] → Moves old now (empty ++ title_line) held → later ≡ faults
    → HasAdded (line_of world h) old now faults later title_line all 0 held
title-added world h all old now faults later empty held none moved same =
    record { moved = moves-is old now (empty ++ title_line) (title_line ++ []) held (ap (λ (l : List ℕ). l ++ title_line) none ∙ sym (append-nil title_line)) moved; same = same }

-- all lines were added, and what was held back is put
pub lines-put : {T E : Type 0} (world : World) (h : List Entry) (rows : List InRow) (old mid now : Option (List ℕ)) (faults later i : ℕ) (held : List ℕ) (result : Result T E)
    → HasAdded (line_of world h) old mid faults later title_line (range_with_len 1 (length rows)) i held → i ≡ length rows → Puts mid now held result → Puts old now (lines_of world (length rows) h) result
lines-put world h rows old mid now faults later i held result has end puts =
    let items : List ℕ = range_with_len 1 (length rows) in
    puts-last old mid now (lines_of world (length rows) h) held result (added-all (line_of world h) old faults title_line items mid later i held has (end ∙ sym (length-range_with_len 1 (length rows)))) puts

-- where a row's session is, and how many of its rows were told
pub told-is : (rows : List InRow) (i : ℕ) (row : InRow) (told : List ℕ) → HasTold rows i told → (get_or rows i row).session ≤ 16 → get_or told (get_or rows i row).session 0 ≡ before rows i (get_or rows i row).session
told-is rows i row told has few = has.each (get_or rows i row).session few

-- each row keeps the rules of its columns
pub row-in : (rows : List InRow) → AllByRecursion IsInRow rows → (i : ℕ) (d : InRow) → i < length rows → IsInRow (get_or rows i d)
row-in [] all i d lt = absurd (omega (arith, lt))
row-in (r ∷ rows) (first, all) zero d lt = first
row-in (r ∷ rows) (first, all) (suc i) d lt = row-in rows all i d (omega (arith, lt))

-- a row's session is one of 1 to 16
pub row-few : (rows : List InRow) → AllByRecursion IsInRow rows → (i : ℕ) (d : InRow) → i < length rows → (get_or rows i d).session ≤ 16
row-few rows all i d lt = (row-in rows all i d lt).last

abbrev pub no_kept : KeptRow
no_kept = record { row = 0; place = 0; answer = Done; split = None }

-- how many rows of a session were told is fewer than its lane kept, and not too many
pub told-few : (rows : List InRow) (ends : List LaneEnd) (i : ℕ) (row : InRow) (told : List ℕ) → AreInRows rows → HasNumbers rows ends → HasTold rows i told → i < length rows
    → (get_or told (get_or rows i row).session 0 < length (kept_of (get_or rows i row).session ends)) × (get_or told (get_or rows i row).session 0 ≤ 65536)
told-few rows ends i row told are numbers has lt =
    let is = told-is rows i row told has (row-few rows are.each i row lt) in
    let next = next-kept rows ends i row no_kept numbers lt in
    let least = before-few 1 (get_or rows i row).session (take i rows) in
    let front = length-take-most i rows in
    (omega (arith, is, next.0), omega (arith, is, least, front, are.most))
