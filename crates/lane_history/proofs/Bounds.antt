-- A size that each entry makes larger by one at most, and that was small at each begin.
use Rattle.std.proofs.Common.{◌≡◌, ℕ, zero, suc, ◌+◌, ◌*◌, ◌<◌, ◌≤◌, arith}
use Rattle.lane_history.proofs.Weights.{all_below}

-- Below a position there are so many begins, calls, ends and failed appends, one at each position. The size was at most this where a split
-- began, and then begins are at most the calls and ends, and one more.
pub record AreFew (most : ℕ) (size begins calls ends fails : ℕ → ℕ) (count : ℕ) : Type 0 where
  pub first : size 0 ≤ most
  pub next : (n : ℕ) → n < count → size (suc n) ≤ size n + 1
  pub one : (n : ℕ) → n < count → begins n + calls n + ends n + fails n ≡ 1
  pub room : (n : ℕ) → n < count → 1 ≤ begins n → size n ≤ most
  pub fair : (n : ℕ) → n ≤ count → all_below begins n ≤ all_below calls n + all_below ends n + 1

-- so it is never much more
pub size-few : (most : ℕ) (size begins calls ends fails : ℕ → ℕ) (count : ℕ) → AreFew most size begins calls ends fails count → (n : ℕ) → n ≤ count
    → size n + all_below begins n ≤ most + 2 + 2 * all_below calls n + all_below ends n + all_below fails n
size-few most size begins calls ends fails count few zero le = let first = few.first in omega arith
size-few most size begins calls ends fails count few (suc n) le =
    let h = size-few most size begins calls ends fails count few n (omega arith) in
    let next = few.next n (omega arith) in
    let one = few.one n (omega arith) in
    let fair = few.fair (suc n) le in
    by_begin (begins n) (few.room n (omega arith)) h next one fair
  where
    by_begin : (b : ℕ) → (1 ≤ b → size n ≤ most) → size n + all_below begins n ≤ most + 2 + 2 * all_below calls n + all_below ends n + all_below fails n → size (suc n) ≤ size n + 1
        → b + calls n + ends n + fails n ≡ 1 → all_below begins n + b ≤ all_below calls n + calls n + (all_below ends n + ends n) + 1
        → size (suc n) + (all_below begins n + b) ≤ most + 2 + 2 * (all_below calls n + calls n) + (all_below ends n + ends n) + (all_below fails n + fails n)
    by_begin zero room h next one fair = omega arith
    by_begin (suc b) room h next one fair = let small = room (omega arith) in omega arith
