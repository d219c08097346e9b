-- The records, the calls and the failed appends of a batch.
use Rattle.std.proofs.Common.{◌≡◌, ◌≢◌, ◌⊎◌, inl, inr, ℕ, zero, suc, ◌+◌, ◌<◌, ◌≤◌, Bool, true, false, cond, not, List, [], ◌∷◌, ◌++◌, length, length-append, append_assoc, map, take, get_or, Some, None, refl, sym, ap, ◌∙◌, arith}
use Rattle.std.specs.List.{list_any}
use mathlib.Core.Bool.{true≢false}
use Rattle.std.proofs.lemmas.List.{append-nil, length-take}
use Rattle.std.proofs.lemmas.List.Sums.{sum_by-cons}
use Rattle.cell_format.specs.declared.cell.Cell.{Cell}
use Rattle.plain_list.specs.declared.ops.Op.{Op}
use Rattle.plain_list.specs.declared.ops.Op.TheVariants.{Put, Move, Remove, Find, Within, Near}
use Rattle.plain_list.specs.declared.entries.Entry.{Entry}
use Rattle.plain_list.specs.declared.entries.Entry.TheVariants.{Fail, Call, Begin, Install, Abandon}
use Rattle.plain_list.specs.declared.entries.Lost.TheVariants as lost
use Rattle.plain_list.specs.World.{World}
use Rattle.plain_list.specs.Answer.{answer_of, after_of, is_change}
use Rattle.plain_list.specs.Batch.{answers_to, batch_calls, batch_fails}
use Rattle.plain_list.specs.History.{failed_cell}
use Rattle.plain_list.specs.State.{are_fails}
use Rattle.plain_list.proofs.Batches.{batch_calls-length, batch_fails-some}
use Rattle.log_state.specs.Changes.{cells_of, change_cells, failed_cells}
use Rattle.commit_book.specs.Answers.{is_ask}
use Rattle.commit_book.specs.BatchSteps.{flagged_cells, flagged_fails}
use Rattle.commit_book.specs.Batches.{most_changes}

-- by the flags of a batch's changes, its records are those of its calls
pub flagged_cells-calls : (world : World) (session row : ℕ) (ops : List Op) → flagged_cells (map is_change (answers_to world ops)) ops ≡ cells_of world (batch_calls session row ops)
flagged_cells-calls world session row [] = refl
flagged_cells-calls world session row (op ∷ ops) =
    ap (λ (l : List Cell). cond (is_change (answer_of world op)) (change_cells op) [] ++ l) (flagged_cells-calls (after_of world op) session (row + 1) ops)

-- and its failed appends are its lost changes
pub flagged_fails-lost : (cell : ℕ) (world : World) (session row : ℕ) (ops : List Op)
    → flagged_fails cell session row (map is_change (answers_to world ops)) ops ≡ batch_fails cell world session row ops
flagged_fails-lost cell world session row [] = refl
flagged_fails-lost cell world session row (op ∷ ops) =
    ap (λ (l : List Entry). cond (is_change (answer_of world op)) (Fail cell (lost.Call session row op) ∷ []) [] ++ l) (flagged_fails-lost cell (after_of world op) session (row + 1) ops)

-- the lost changes of a batch have the records of its calls
pub batch_fails-cells : (cell : ℕ) (world : World) (session row : ℕ) (ops : List Op) → failed_cells (batch_fails cell world session row ops) ≡ cells_of world (batch_calls session row ops)
batch_fails-cells cell world session row [] = refl
batch_fails-cells cell world session row (op ∷ ops) = by_test (is_change (answer_of world op)) (batch_fails-cells cell (after_of world op) session (row + 1) ops)
  where
    by_test : (b : Bool) → failed_cells (batch_fails cell (after_of world op) session (row + 1) ops) ≡ cells_of (after_of world op) (batch_calls session (row + 1) ops)
        → failed_cells (cond b (Fail cell (lost.Call session row op) ∷ []) [] ++ batch_fails cell (after_of world op) session (row + 1) ops)
        ≡ cond b (change_cells op) [] ++ cells_of (after_of world op) (batch_calls session (row + 1) ops)
    by_test true rest = ap (λ (l : List Cell). change_cells op ++ l) rest
    by_test false rest = rest

-- a batch with a change has lost one
pub batch_fails-any : (cell : ℕ) (world : World) (session row : ℕ) (ops : List Op) → list_any is_change (answers_to world ops) ≡ true → batch_fails cell world session row ops ≢ []
batch_fails-any cell world session row ops some none = absurd (no_cell (sym (ap failed_cell none) ∙ batch_fails-some cell world session row ops some))
  where
    no_cell : None ≡ Some cell → ⊥
    no_cell e = cc e

-- a put, move or removal has one record, and nothing else has one
pub change_cells-few : (op : Op) → length (change_cells op) ≡ cond (not (is_ask op)) 1 0
change_cells-few (Put id at moment) = refl
change_cells-few (Move id at moment) = refl
change_cells-few (Remove id) = refl
change_cells-few (Find id) = refl
change_cells-few (Within region) = refl
change_cells-few (Near at k) = refl

-- a batch has no more records than it may need
pub flagged_cells-few : (changes : List Bool) (ops : List Op) → length (flagged_cells changes ops) ≤ most_changes ops
flagged_cells-few [] ops = omega arith
flagged_cells-few (change ∷ changes) [] = omega arith
flagged_cells-few (change ∷ changes) (op ∷ ops) =
    let one = at_most_one change in
    let rest = flagged_cells-few changes ops in
    let most : most_changes (op ∷ ops) ≡ cond (not (is_ask op)) 1 0 + most_changes ops = sum_by-cons (λ (o : Op). cond (not (is_ask o)) 1 0) op ops in
    let all : length (flagged_cells (change ∷ changes) (op ∷ ops)) ≡ length (cond change (change_cells op) []) + length (flagged_cells changes ops) =
    length-append (cond change (change_cells op) []) (flagged_cells changes ops) in
    omega (arith, one, rest, most, all)
  where
    at_most_one : (b : Bool) → length (cond b (change_cells op) []) ≤ cond (not (is_ask op)) 1 0
    at_most_one true = omega (arith, change_cells-few op)
    at_most_one false = omega arith

-- neither a batch's calls nor failed appends begin a split

pub batch_calls-no_begin : (session row : ℕ) (ops : List Op) (before after : List Entry) (number : ℕ) (name : List Bool) → batch_calls session row ops ≡ before ++ Begin number name ∷ after → ⊥
batch_calls-no_begin session row [] [] after number name same = cc same
batch_calls-no_begin session row [] (b ∷ before) after number name same = cc same
batch_calls-no_begin session row (op ∷ ops) [] after number name same = cc same
batch_calls-no_begin session row (op ∷ ops) (b ∷ before) after number name same = batch_calls-no_begin session (row + 1) ops before after number name (cc same)

pub fails-no_begin : (fs before after : List Entry) (number : ℕ) (name : List Bool) → are_fails fs ≡ true → fs ≡ before ++ Begin number name ∷ after → ⊥
fails-no_begin [] [] after number name all same = cc same
fails-no_begin [] (b ∷ before) after number name all same = cc same
fails-no_begin (Fail cell lost ∷ fs) [] after number name all same = cc same
fails-no_begin (Fail cell lost ∷ fs) (b ∷ before) after number name all same = fails-no_begin fs before after number name all (cc same)
fails-no_begin (Call session row op ∷ fs) before after number name all same = true≢false (sym all)
fails-no_begin (Begin n m ∷ fs) before after number name all same = true≢false (sym all)
fails-no_begin (Install n ∷ fs) before after number name all same = true≢false (sym all)
fails-no_begin (Abandon n ∷ fs) before after number name all same = true≢false (sym all)

-- an entry of a history with more is among these, or was there
pub more_or_earlier : (h es before after : List Entry) (f : Entry) → h ++ es ≡ before ++ f ∷ after → ((rest : List Entry) × (es ≡ rest ++ f ∷ after)) ⊎ ((rest : List Entry) × (h ≡ before ++ f ∷ rest))
more_or_earlier [] es before after f same = inl (before, same)
more_or_earlier (x ∷ h) es [] after f same = inr (h, ap (λ (y : Entry). y ∷ h) (head x f (h ++ es) after same))
  where
    head : (a b : Entry) (xs ys : List Entry) → a ∷ xs ≡ b ∷ ys → a ≡ b
    head a b xs ys e = cc e
more_or_earlier (x ∷ h) es (b ∷ before) after f same = by_rest (head x b (h ++ es) (before ++ f ∷ after) same) (more_or_earlier h es before after f (rest x b (h ++ es) (before ++ f ∷ after) same))
  where
    head : (a b : Entry) (xs ys : List Entry) → a ∷ xs ≡ b ∷ ys → a ≡ b
    head a b xs ys e = cc e

    rest : (a b : Entry) (xs ys : List Entry) → a ∷ xs ≡ b ∷ ys → xs ≡ ys
    rest a b xs ys e = cc e

    by_rest : x ≡ b → ((more : List Entry) × (es ≡ more ++ f ∷ after)) ⊎ ((more : List Entry) × (h ≡ before ++ f ∷ more)) → ((more : List Entry) × (es ≡ more ++ f ∷ after)) ⊎ ((more : List Entry) × (x ∷ h ≡ b ∷ (before ++ f ∷ more)))
    by_rest first (inl more) = inl more
    by_rest first (inr more) = inr (more.0, λ i. first i ∷ more.1 i)

-- one operation more

pub batch_calls-take : (session row i n : ℕ) (ops : List Op) (d : Op) → i < length ops → n ≡ row + i
    → batch_calls session row (take (suc i) ops) ≡ batch_calls session row (take i ops) ++ Call session n (get_or ops i d) ∷ []
batch_calls-take session row i n [] d below is = absurd (omega (arith, below))
batch_calls-take session row zero n (op ∷ ops) d below is =
    let same : row ≡ n = omega (arith, is) in
    ap (λ (m : ℕ). Call session m op ∷ []) same
batch_calls-take session row (suc i) n (op ∷ ops) d below is =
    ap (λ (l : List Entry). Call session row op ∷ l) (batch_calls-take session (row + 1) i n ops d (omega (arith, below)) (omega (arith, is)))

pub flagged_cells-take : (i : ℕ) (changes : List Bool) (ops : List Op) (b : Bool) (d : Op) → i < length changes → i < length ops
    → flagged_cells (take (suc i) changes) (take (suc i) ops) ≡ flagged_cells (take i changes) (take i ops) ++ cond (get_or changes i b) (change_cells (get_or ops i d)) []
flagged_cells-take i [] ops b d below within = absurd (omega (arith, below))
flagged_cells-take i (change ∷ changes) [] b d below within = absurd (omega (arith, within))
flagged_cells-take zero (change ∷ changes) (op ∷ ops) b d below within = append-nil (cond change (change_cells op) [])
flagged_cells-take (suc i) (change ∷ changes) (op ∷ ops) b d below within =
    ap (λ (l : List Cell). cond change (change_cells op) [] ++ l) (flagged_cells-take i changes ops b d (omega (arith, below)) (omega (arith, within)))
    ∙ sym (append_assoc (cond change (change_cells op) []) (flagged_cells (take i changes) (take i ops)) (cond (get_or changes i b) (change_cells (get_or ops i d)) []))

pub flagged_fails-take : (cell session row i n : ℕ) (changes : List Bool) (ops : List Op) (b : Bool) (d : Op) → i < length changes → i < length ops → n ≡ row + i
    → flagged_fails cell session row (take (suc i) changes) (take (suc i) ops)
    ≡ flagged_fails cell session row (take i changes) (take i ops) ++ cond (get_or changes i b) (Fail cell (lost.Call session n (get_or ops i d)) ∷ []) []
flagged_fails-take cell session row i n [] ops b d below within is = absurd (omega (arith, below))
flagged_fails-take cell session row i n (change ∷ changes) [] b d below within is = absurd (omega (arith, within))
flagged_fails-take cell session row zero n (change ∷ changes) (op ∷ ops) b d below within is =
    let same : row ≡ n = omega (arith, is) in
    append-nil (cond change (Fail cell (lost.Call session row op) ∷ []) []) ∙ ap (λ (m : ℕ). cond change (Fail cell (lost.Call session m op) ∷ []) []) same
flagged_fails-take cell session row (suc i) n (change ∷ changes) (op ∷ ops) b d below within is =
    ap (λ (l : List Entry). cond change (Fail cell (lost.Call session row op) ∷ []) [] ++ l) (flagged_fails-take cell session (row + 1) i n changes ops b d (omega (arith, below)) (omega (arith, within)) (omega (arith, is)))
    ∙ sym (append_assoc (cond change (Fail cell (lost.Call session row op) ∷ []) []) (flagged_fails cell session (row + 1) (take i changes) (take i ops)) (cond (get_or changes i b) (Fail cell (lost.Call session n (get_or ops i d)) ∷ []) []))

-- no more entries than operations
pub flagged_fails-few : (cell session row : ℕ) (changes : List Bool) (ops : List Op) → length (flagged_fails cell session row changes ops) ≤ length ops
flagged_fails-few cell session row [] ops = omega arith
flagged_fails-few cell session row (change ∷ changes) [] = omega arith
flagged_fails-few cell session row (change ∷ changes) (op ∷ ops) = by_test change (flagged_fails-few cell session (row + 1) changes ops)
  where
    by_test : (b : Bool) → length (flagged_fails cell session (row + 1) changes ops) ≤ length ops
        → length (cond b (Fail cell (lost.Call session row op) ∷ []) [] ++ flagged_fails cell session (row + 1) changes ops) ≤ suc (length ops)
    by_test true le = omega (arith, le)
    by_test false le = omega (arith, le)

pub first_calls-few : (session row i : ℕ) (ops : List Op) → length (batch_calls session row (take i ops)) ≤ i
first_calls-few session row i ops = omega (arith, batch_calls-length session row (take i ops), length-take i ops)

pub first_fails-few : (cell session row i : ℕ) (changes : List Bool) (ops : List Op) → length (flagged_fails cell session row (take i changes) (take i ops)) ≤ i
first_fails-few cell session row i changes ops = omega (arith, flagged_fails-few cell session row (take i changes) (take i ops), length-take i ops)
