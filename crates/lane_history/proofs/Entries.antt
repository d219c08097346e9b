-- How many begins, calls, ends and failed appends a history has, and what a legal one has of them.
use Rattle.std.proofs.Common.{◌≡◌, ℕ, ◌+◌, ◌≤◌, List, [], ◌∷◌, ◌++◌, length, Bool, true, false, not, ◌&&◌, cond, refl, sym, arith, length-append}
use mathlib.Core.Bool.{true≢false}
use Rattle.std.specs.Prelude.{Some, is_some, ◌==◌}
use Rattle.std.specs.List.{filter}
use Rattle.std.specs.Cmp.{first_so, second_so}
use Rattle.std.specs.Cmp.Derive.{both_true}
use Rattle.zorder.specs.SameName.{same_name}
use Rattle.plain_list.specs.declared.entries.Entry.{Entry}
use Rattle.plain_list.specs.declared.entries.Entry.TheVariants.{Fail, Call, Begin, Install, Abandon}
use Rattle.plain_list.specs.History.{call_count}
use Rattle.plain_list.specs.State.{State, OpenSplit, split_name, without_number, without_name, is_possible, is_free, is_fail, are_fails, step, state_after, is_legal_history, IsLegal}
use Rattle.plain_list.proofs.Histories.{legal-rest}
use Rattle.plain_list.proofs.SplitHistories.{first_step}
use Rattle.lane_history.proofs.Weights.{sum_of}

abbrev pub begins : Entry → ℕ
begins (Begin number name) = 1
begins (Fail cell lost) = 0
begins (Call session row op) = 0
begins (Install number) = 0
begins (Abandon number) = 0

abbrev pub calls : Entry → ℕ
calls (Call session row op) = 1
calls (Fail cell lost) = 0
calls (Begin number name) = 0
calls (Install number) = 0
calls (Abandon number) = 0

abbrev pub ends : Entry → ℕ
ends (Install number) = 1
ends (Abandon number) = 1
ends (Fail cell lost) = 0
ends (Call session row op) = 0
ends (Begin number name) = 0

abbrev pub fails : Entry → ℕ
fails (Fail cell lost) = 1
fails (Call session row op) = 0
fails (Begin number name) = 0
fails (Install number) = 0
fails (Abandon number) = 0

-- each entry is one of these
pub one-kind : (e : Entry) → begins e + calls e + ends e + fails e ≡ 1
one-kind (Begin number name) = refl
one-kind (Fail cell lost) = refl
one-kind (Call session row op) = refl
one-kind (Install number) = refl
one-kind (Abandon number) = refl

pub calls-count : (h : List Entry) → call_count h ≡ sum_of calls h
calls-count [] = refl
calls-count (Call session row op ∷ h) = let rest = calls-count h in omega arith
calls-count (Begin number name ∷ h) = let rest = calls-count h in omega arith
calls-count (Install number ∷ h) = let rest = calls-count h in omega arith
calls-count (Abandon number ∷ h) = let rest = calls-count h in omega arith
calls-count (Fail cell lost ∷ h) = let rest = calls-count h in omega arith

pub sum-append : (f : Entry → ℕ) (h g : List Entry) → sum_of f (h ++ g) ≡ sum_of f h + sum_of f g
sum-append f [] g = omega arith
sum-append f (e ∷ h) g = let rest = sum-append f h g in omega arith

fails-front : (g t : List Entry) → are_fails (g ++ t) ≡ true → are_fails g ≡ true
fails-front [] t all = refl
fails-front (Fail cell lost ∷ g) t all = fails-front g t all
fails-front (Call session row op ∷ g) t all = all
fails-front (Begin number name ∷ g) t all = all
fails-front (Install number ∷ g) t all = all
fails-front (Abandon number ∷ g) t all = all

-- a beginning of a legal history is legal
pub legal-begin : (w : ℕ) (s : State) (g t : List Entry) → IsLegal w s (g ++ t) → IsLegal w s g
legal-begin w s [] t legal = refl
legal-begin w s (e ∷ g) t legal = both_true (first_so (is_possible w s e && is_free s e) (cond (is_fail e) (are_fails (g ++ t)) (is_legal_history w (step w s e) (g ++ t))) legal)
    (by_test (is_fail e) (second_so (is_possible w s e && is_free s e) (cond (is_fail e) (are_fails (g ++ t)) (is_legal_history w (step w s e) (g ++ t))) legal) (legal-begin w (step w s e) g t))
  where
    by_test : (b : Bool) → cond b (are_fails (g ++ t)) (is_legal_history w (step w s e) (g ++ t)) ≡ true → (is_legal_history w (step w s e) (g ++ t) ≡ true → is_legal_history w (step w s e) g ≡ true)
        → cond b (are_fails g) (is_legal_history w (step w s e) g) ≡ true
    by_test true rest more = fails-front g t rest
    by_test false rest more = more rest

-- fewer splits
pub filter-few : (keep : OpenSplit → Bool) (splits : List OpenSplit) → length (filter keep splits) ≤ length splits
filter-few keep [] = omega arith
filter-few keep (s ∷ splits) = by_test (keep s) (filter-few keep splits)
  where
    by_test : (b : Bool) → length (filter keep splits) ≤ length splits → length (cond b (s ∷ filter keep splits) (filter keep splits)) ≤ length (s ∷ splits)
    by_test true less = omega arith
    by_test false less = omega arith

pub without-fewer : (number : ℕ) (splits : List OpenSplit) → is_some (split_name splits number) ≡ true → length (without_number number splits) + 1 ≤ length splits
without-fewer number [] is = absurd (true≢false (sym is))
without-fewer number (s ∷ splits) is = by_test (s.number == number) is (without-fewer number splits) (filter-few (λ (o : OpenSplit). not (o.number == number)) splits)
  where
    by_test : (b : Bool) → is_some (cond b (Some s.name) (split_name splits number)) ≡ true → (is_some (split_name splits number) ≡ true → length (without_number number splits) + 1 ≤ length splits)
        → length (without_number number splits) ≤ length splits → length (cond (not b) (s ∷ without_number number splits) (without_number number splits)) + 1 ≤ length (s ∷ splits)
    by_test true is more less = omega arith
    by_test false is more less = let fewer = more is in omega arith

-- the splits that are open behind a legal history, and those that ended, are no more than those that were open and those that began
pub open-few : (w : ℕ) (s : State) (h : List Entry) → IsLegal w s h → length (state_after w s h).splits + sum_of ends h ≤ length s.splits + sum_of begins h
open-few w s [] legal = omega arith
open-few w s (Fail cell lost ∷ h) legal = let rest = open-few w s h (legal-rest w s (Fail cell lost) h legal) in omega arith
open-few w s (Call session row op ∷ h) legal = let rest = open-few w (step w s (Call session row op)) h (legal-rest w s (Call session row op) h legal) in omega arith
open-few w s (Begin number name ∷ h) legal =
    let rest = open-few w (step w s (Begin number name)) h (legal-rest w s (Begin number name) h legal) in
    let less = filter-few (λ (o : OpenSplit). not (same_name o.name name)) s.splits in
    let more = length-append (without_name name s.splits) (record { number = number; name = name } ∷ []) in
    omega arith
open-few w s (Install number ∷ h) legal =
    let rest = open-few w (step w s (Install number)) h (legal-rest w s (Install number) h legal) in
    let less = without-fewer number s.splits (first_step w s (Install number) h legal).possible in
    omega arith
open-few w s (Abandon number ∷ h) legal =
    let rest = open-few w (step w s (Abandon number)) h (legal-rest w s (Abandon number) h legal) in
    let less = without-fewer number s.splits (first_step w s (Abandon number) h legal).possible in
    omega arith
