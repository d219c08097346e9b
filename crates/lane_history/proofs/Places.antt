-- The place of a row's call, and the reply there.
use Rattle.std.proofs.Common.{◌≡◌, ◌≢◌, ℕ, suc, ◌+◌, ◌≤◌, Bool, true, false, cond, List, [], ◌∷◌, ◌++◌, length, Some, refl, sym, ap, ◌∙◌, arith, eq-eqb, append_assoc}
use Rattle.std.specs.Prelude.{◌==◌, slice_get}
use Rattle.std.proofs.lemmas.Bool.{eqb-true}
use mathlib.Core.Logic.{dite}
use native.Mathlib.Decide.{ℕ_discrete}
use mathlib.Core.List.{IsPrefix}
use Rattle.plain_list.specs.declared.ops.Op.{Op}
use Rattle.plain_list.specs.declared.ops.Answer.{Answer}
use Rattle.plain_list.specs.declared.entries.Entry.{Entry}
use Rattle.plain_list.specs.declared.entries.Entry.TheVariants.{Fail, Call, Begin, Install, Abandon}
use Rattle.plain_list.specs.World.{World}
use Rattle.plain_list.specs.Answer.{answer_of, after_of}
use Rattle.plain_list.specs.History.{world_after, replies, reply_at, call_count}
use Rattle.plain_list.specs.Played.{calls_of, IsPlayed}
use Rattle.plain_list.proofs.Histories.{replies-append, length-replies, call_count-append}
use Rattle.csv_rows.specs.declared.rows.InRow.{InRow}
use Rattle.book_lock.specs.Own.{times}
use Rattle.book_lock.proofs.Positions.{one_same, times-append}
use Rattle.book_lock.proofs.Histories.{prefix_trans}
use Rattle.lane_history.specs.SessionRows.{session_rows}
use Rattle.lane_history.specs.SessionRows.{row_place, row_place_from}
use Rattle.lane_history.proofs.CallsOf.{calls-append, calls-prefix, calls-one}
use Rattle.lane_history.proofs.Numbers.{numbers, numbers-append, numbers-once, numbers-single, times-prefix}

-- no call of any session has this number
abbrev pub HasNone : ℕ → List Entry → Type 0
HasNone row h = (t : ℕ) → times row (numbers (calls_of t h)) ≡ 0

none-later : (row : ℕ) (e : Entry) (h : List Entry) → HasNone row (e ∷ h) → HasNone row h
none-later row e h none t =
    let a = none t in
    let b : times row (numbers (calls_of t (e ∷ h))) ≡ times row (numbers (calls_of t (e ∷ []))) + times row (numbers (calls_of t h)) =
    ap (λ (l : List (ℕ × Op)). times row (numbers l)) (calls-append t (e ∷ []) h) ∙ ap (times row) (numbers-append (calls_of t (e ∷ [])) (calls_of t h)) ∙ times-append row (numbers (calls_of t (e ∷ []))) (numbers (calls_of t h)) in
    omega arith

none-here : (row session r : ℕ) (op : Op) (h : List Entry) → HasNone row (Call session r op ∷ h) → (r == row) ≡ false
none-here row session r op h none = by_test (r == row) refl
  where
    by_test : (b : Bool) → (r == row) ≡ b → (r == row) ≡ false
    by_test false is = is
    by_test true is =
        let a = none session in
        let calls : calls_of session (Call session r op ∷ h) ≡ (r, op) ∷ calls_of session h = ap (λ (b : Bool). cond b ((r, op) ∷ calls_of session h) (calls_of session h)) (eq-eqb session session refl) in
        let b : times row (numbers (calls_of session (Call session r op ∷ h))) ≡ (cond (r == row) 1 0) + times row (numbers (calls_of session h)) = ap (λ (l : List (ℕ × Op)). times row (numbers l)) calls in
        let c = one_same r row (eqb-true r row is) in
        absurd (omega arith)

-- so the first one has the place of its call
pub first-place : (n row s : ℕ) (op : Op) (before rest : List Entry) → HasNone row before → row_place_from n row (before ++ Call s row op ∷ rest) ≡ Some (n + call_count before + 1)
first-place n row s op [] rest none =
    ap (λ (b : Bool). cond b (Some (n + 1)) (row_place_from (n + 1) row rest)) (eq-eqb row row refl) ∙ ap (λ (k : ℕ). Some (k + 1)) (let e : n ≡ n + 0 = omega arith in e)
first-place n row s op (Call session r o ∷ before) rest none =
    ap (λ (b : Bool). cond b (Some (n + 1)) (row_place_from (n + 1) row (before ++ Call s row op ∷ rest))) (none-here row session r o before none)
    ∙ first-place (n + 1) row s op before rest (none-later row (Call session r o) before none)
    ∙ ap (λ (k : ℕ). Some (k + 1)) (let e : n + 1 + call_count before ≡ n + suc (call_count before) = omega arith in e)
first-place n row s op (Begin number name ∷ before) rest none = first-place n row s op before rest (none-later row (Begin number name) before none)
first-place n row s op (Install number ∷ before) rest none = first-place n row s op before rest (none-later row (Install number) before none)
first-place n row s op (Abandon number ∷ before) rest none = first-place n row s op before rest (none-later row (Abandon number) before none)
first-place n row s op (Fail cell lost ∷ before) rest none = first-place n row s op before rest (none-later row (Fail cell lost) before none)

module _ (rows : List InRow) (h before : List Entry) (s row : ℕ) (op : Op) (played : IsPlayed (session_rows rows) h) (stands : IsPrefix (before ++ Call s row op ∷ []) h) where
  -- where each session's calls are a prefix of its rows, no call before this one has its number
  mine : times row (numbers (calls_of s before)) + 1 ≤ times row (numbers (session_rows rows s))
  mine =
      let front = prefix_trans (calls_of s (before ++ Call s row op ∷ [])) (calls_of s h) (session_rows rows s) (calls-prefix s (before ++ Call s row op ∷ []) h stands) (played s) in
      let a = times-prefix row (calls_of s (before ++ Call s row op ∷ [])) (session_rows rows s) front in
      let b : times row (numbers (calls_of s (before ++ Call s row op ∷ []))) ≡ times row (numbers (calls_of s before)) + (one row + 0) =
      ap (λ (l : List (ℕ × Op)). times row (numbers l)) (calls-append s before (Call s row op ∷ []) ∙ ap (λ (l : List (ℕ × Op)). calls_of s before ++ l) (calls-one s row op))
      ∙ ap (times row) (numbers-append (calls_of s before) ((row, op) ∷ [])) ∙ times-append row (numbers (calls_of s before)) (row ∷ []) in
      let c = one_same row row refl in
      omega arith
    where
      one : ℕ → ℕ
      one r = cond (r == r) 1 0

  none-before : HasNone row before
  none-before t = dite (ℕ_discrete t s)
      (λ (same : t ≡ s).
      let a = mine in
      let b = numbers-single row 1 s rows in
      let c : times row (numbers (calls_of s before)) ≡ 0 = omega arith in
      ap (λ (u : ℕ). times row (numbers (calls_of u before))) same ∙ c)
      (λ (apart : t ≢ s).
      let a = mine in
      let b = numbers-once row 1 s t rows apart in
      let front = prefix_trans (calls_of t before) (calls_of t h) (session_rows rows t) (calls-prefix t before h (prefix_trans before (before ++ Call s row op ∷ []) h (Call s row op ∷ [], refl) stands)) (played t) in
      let c = times-prefix row (calls_of t before) (session_rows rows t) front in
      omega arith)

  -- so the row has the place of this call
  pub place-of : row_place row h ≡ Some (call_count (before ++ Call s row op ∷ []))
  place-of =
      ap (row_place row) (sym stands.1 ∙ append_cons)
      ∙ first-place 0 row s op before stands.0 none-before
      ∙ ap Some (let e = call_count-append before (Call s row op ∷ []) in let f : 0 + call_count before + 1 ≡ call_count (before ++ Call s row op ∷ []) = omega arith in f)
    where
      append_cons : (before ++ Call s row op ∷ []) ++ stands.0 ≡ before ++ Call s row op ∷ stands.0
      append_cons = append_assoc before (Call s row op ∷ []) stands.0

get-behind : (xs : List Answer) (a : Answer) (ys : List Answer) → slice_get (xs ++ a ∷ ys) (length xs) ≡ Some a
get-behind [] a ys = refl
get-behind (x ∷ xs) a ys = get-behind xs a ys

-- the reply there is the answer behind what stands before
pub reply-of : (world : World) (h before : List Entry) (s row : ℕ) (op : Op) → IsPrefix (before ++ Call s row op ∷ []) h
    → reply_at world h (call_count (before ++ Call s row op ∷ [])) ≡ Some (answer_of (world_after world before) op)
reply-of world h before s row op (rest, is) =
    ap (reply_at world h) place ∙ ap (λ (l : List Entry). slice_get (replies world l) (call_count before)) (sym is ∙ append_assoc before (Call s row op ∷ []) rest)
    ∙ ap (λ (l : List Answer). slice_get l (call_count before)) (replies-append world before (Call s row op ∷ rest))
    ∙ ap (slice_get (replies world before ++ answer_of (world_after world before) op ∷ replies (after_of (world_after world before) op) rest)) (sym (length-replies world before))
    ∙ get-behind (replies world before) (answer_of (world_after world before) op) (replies (after_of (world_after world before) op) rest)
  where
    place : call_count (before ++ Call s row op ∷ []) ≡ suc (call_count before)
    place = let e = call_count-append before (Call s row op ∷ []) in omega arith
