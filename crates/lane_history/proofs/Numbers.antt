-- The numbers of the rows of sessions: each row has one of its own.
use Rattle.std.proofs.Common.{◌≡◌, ◌≢◌, ℕ, ◌+◌, ◌<◌, ◌≤◌, Bool, true, false, cond, List, [], ◌∷◌, ◌++◌, refl, sym, ap, ◌∙◌, arith, eq-eqb, ne_eqb}
use Rattle.std.specs.Prelude.{◌==◌}
use Rattle.std.proofs.lemmas.Bool.{eqb-true}
use mathlib.Core.List.{IsPrefix}
use Rattle.plain_list.specs.declared.ops.Op.{Op}
use Rattle.csv_rows.specs.declared.rows.InRow.{InRow}
use Rattle.book_lock.specs.Own.{times}
use Rattle.book_lock.proofs.Positions.{one_if, times-append}
use Rattle.lane_history.specs.SessionRows.{session_rows_from}

-- the numbers of rows
abbrev pub numbers : List (ℕ × Op) → List ℕ
numbers [] = []
numbers (r ∷ rows) = r.0 ∷ numbers rows

pub numbers-append : (xs ys : List (ℕ × Op)) → numbers (xs ++ ys) ≡ numbers xs ++ numbers ys
numbers-append [] ys = refl
numbers-append (x ∷ xs) ys = ap (λ (l : List ℕ). x.0 ∷ l) (numbers-append xs ys)

-- a prefix has a number no more often
pub times-prefix : (p : ℕ) (xs ys : List (ℕ × Op)) → IsPrefix xs ys → times p (numbers xs) ≤ times p (numbers ys)
times-prefix p xs ys (rest, is) =
    let e : times p (numbers ys) ≡ times p (numbers xs) + times p (numbers rest) = ap (λ (l : List (ℕ × Op)). times p (numbers l)) (sym is) ∙ ap (times p) (numbers-append xs rest) ∙ times-append p (numbers xs) (numbers rest) in
    omega arith

-- rows from this number on have no lesser one
pub numbers-above : (p n s : ℕ) (rows : List InRow) → p < n → times p (numbers (session_rows_from n s rows)) ≡ 0
numbers-above p n s [] less = refl
numbers-above p n s (r ∷ rows) less = by_test (numbers-above p (n + 1) s rows (omega arith)) (r.session == s)
  where
    by_test : times p (numbers (session_rows_from (n + 1) s rows)) ≡ 0 → (b : Bool) → times p (numbers (cond b ((n, r.op) ∷ session_rows_from (n + 1) s rows) (session_rows_from (n + 1) s rows))) ≡ 0
    by_test rest true = let o : one_if n p ≡ 0 = ap (λ (b : Bool). cond b 1 0) (ne_eqb n p (λ e. omega arith)) in omega arith
    by_test rest false = rest

-- a number is of one row of one session
pub numbers-once : (p n s t : ℕ) (rows : List InRow) → t ≢ s → times p (numbers (session_rows_from n s rows)) + times p (numbers (session_rows_from n t rows)) ≤ 1
numbers-once p n s t [] apart = omega arith
numbers-once p n s t (r ∷ rows) apart = by_tests (numbers-once p (n + 1) s t rows apart) (numbers-above p (n + 1) s rows) (numbers-above p (n + 1) t rows) (r.session == s) (r.session == t) refl refl
  where
    one : (n ≡ p → one_if n p ≡ 1) × (n ≢ p → one_if n p ≡ 0)
    one = ((λ e. ap (λ (b : Bool). cond b 1 0) (eq-eqb n p e)), (λ e. ap (λ (b : Bool). cond b 1 0) (ne_eqb n p e)))

    either : (a b : ℕ) → a + b ≤ 1 → (p < n + 1 → a ≡ 0) → (p < n + 1 → b ≡ 0) → (one_if n p + a) + b ≤ 1
    either a b few none other = by_place (n == p) refl
      where
        by_place : (c : Bool) → (n == p) ≡ c → (cond c 1 0 + a) + b ≤ 1
        by_place true is = let e = eqb-true n p is in let x = none (omega arith) in let y = other (omega arith) in omega arith
        by_place false is = omega arith

    by_tests : times p (numbers (session_rows_from (n + 1) s rows)) + times p (numbers (session_rows_from (n + 1) t rows)) ≤ 1
        → (p < n + 1 → times p (numbers (session_rows_from (n + 1) s rows)) ≡ 0) → (p < n + 1 → times p (numbers (session_rows_from (n + 1) t rows)) ≡ 0) → (a b : Bool) → (r.session == s) ≡ a → (r.session == t) ≡ b
        → times p (numbers (cond a ((n, r.op) ∷ session_rows_from (n + 1) s rows) (session_rows_from (n + 1) s rows))) + times p (numbers (cond b ((n, r.op) ∷ session_rows_from (n + 1) t rows) (session_rows_from (n + 1) t rows))) ≤ 1
    by_tests few none other true true is also = let e = eqb-true r.session s is in let f = eqb-true r.session t also in absurd (apart (sym f ∙ e))
    by_tests few none other true false is also = either _ _ few none other
    by_tests few none other false true is also = let e = either (times p (numbers (session_rows_from (n + 1) s rows))) (times p (numbers (session_rows_from (n + 1) t rows))) few none other in omega arith
    by_tests few none other false false is also = few

-- and of it once
pub numbers-single : (p n s : ℕ) (rows : List InRow) → times p (numbers (session_rows_from n s rows)) ≤ 1
numbers-single p n s rows = let e = numbers-once p n s (s + 1) rows (λ e. omega arith) in omega arith
