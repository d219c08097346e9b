-- The entries of a batch, and a history with them.
use Rattle.std.proofs.Common.{◌≡◌, ◌≢◌, ℕ, suc, ◌+◌, ◌≤◌, Bool, true, false, List, [], ◌∷◌, ◌++◌, length, Some, None, refl, sym, ◌∙◌, ap, cond, arith, ◌||◌}
use mathlib.Core.Bool.{true≢false}
use Rattle.std.specs.List.{list_any}
use Rattle.plain_list.specs.declared.ops.Op.{Op}
use Rattle.plain_list.specs.declared.entries.Entry.{Entry}
use Rattle.plain_list.specs.declared.entries.Entry.TheVariants.{Fail, Call, Begin, Install, Abandon}
use Rattle.plain_list.specs.declared.entries.Lost.TheVariants as lost
use Rattle.plain_list.specs.World.{World}
use Rattle.plain_list.specs.Answer.{answer_of, after_of, changed, is_change}
use Rattle.plain_list.specs.History.{world_after, failed_cell}
use Rattle.plain_list.specs.State.{State, step, state_after, are_fails, is_legal_history}
use Rattle.plain_list.specs.Batch.{answers_to, after_all, batch_calls, batch_fails, AreFailsOf}
use Rattle.plain_list.proofs.Histories.{has_failed, fails-legal, legal-append, failed_cell-append, state_after-append}

-- an operation that changes nothing leaves the world as it is
pub after_of-same : (world : World) (op : Op) → is_change (answer_of world op) ≡ false → after_of world op ≡ world
after_of-same world op none = ap (λ b. cond b (changed world op) world) none

pub answers_to-length : (world : World) (ops : List Op) → length (answers_to world ops) ≡ length ops
answers_to-length world [] = refl
answers_to-length world (op ∷ ops) = ap suc (answers_to-length (after_of world op) ops)

-- a batch without a change leaves the world as it is
pub after_all-same : (world : World) (ops : List Op) → list_any is_change (answers_to world ops) ≡ false → after_all world ops ≡ world
after_all-same world [] none = refl
after_all-same world (op ∷ ops) none =
    let same : after_of world op ≡ world = after_of-same world op (neither (is_change (answer_of world op)) (list_any is_change (answers_to (after_of world op) ops)) none).0 in
    after_all-same (after_of world op) ops (neither (is_change (answer_of world op)) (list_any is_change (answers_to (after_of world op) ops)) none).1 ∙ same
  where
    neither : (a b : Bool) → (a || b) ≡ false → (a ≡ false) × (b ≡ false)
    neither true b e = absurd (true≢false e)
    neither false b e = (refl, e)

-- the calls of a batch have its answers, and lead to its world

pub batch_calls-world : (world : World) (session row : ℕ) (ops : List Op) → world_after world (batch_calls session row ops) ≡ after_all world ops
batch_calls-world world session row [] = refl
batch_calls-world world session row (op ∷ ops) = batch_calls-world (after_of world op) session (row + 1) ops

pub batch_calls-state : (w : ℕ) (s : State) (session row : ℕ) (ops : List Op) → state_after w s (batch_calls session row ops) ≡ record s { world = after_all s.world ops }
batch_calls-state w s session row [] = refl
batch_calls-state w s session row (op ∷ ops) = batch_calls-state w (step w s (Call session row op)) session (row + 1) ops

pub batch_calls-length : (session row : ℕ) (ops : List Op) → length (batch_calls session row ops) ≡ length ops
batch_calls-length session row [] = refl
batch_calls-length session row (op ∷ ops) = ap suc (batch_calls-length session (row + 1) ops)

pub batch_calls-sound : (session row : ℕ) (ops : List Op) → failed_cell (batch_calls session row ops) ≡ None
batch_calls-sound session row [] = refl
batch_calls-sound session row (op ∷ ops) = batch_calls-sound session (row + 1) ops

pub batch_calls-legal : (w : ℕ) (s : State) (session row : ℕ) (ops : List Op) → is_legal_history w s (batch_calls session row ops) ≡ true
batch_calls-legal w s session row [] = refl
batch_calls-legal w s session row (op ∷ ops) = batch_calls-legal w (step w s (Call session row op)) session (row + 1) ops

-- a legal history without a failed append goes on by the calls of a batch
pub legal-batch_calls : (w : ℕ) (s : State) (h : List Entry) (session row : ℕ) (ops : List Op) → has_failed h ≡ false → is_legal_history w s h ≡ true
    → is_legal_history w s (h ++ batch_calls session row ops) ≡ true
legal-batch_calls w s h session row ops sound legal = legal-append w s h (batch_calls session row ops) sound legal (batch_calls-legal w (state_after w s h) session row ops)

-- failed appends change nothing

pub fails-of : (cell : ℕ) (fs : List Entry) → AreFailsOf cell fs → are_fails fs ≡ true
fails-of cell [] all = refl
fails-of cell (Fail number lost ∷ fs) all = fails-of cell fs all.1
fails-of cell (Call session row op ∷ fs) all = absurd all.0
fails-of cell (Begin number name ∷ fs) all = absurd all.0
fails-of cell (Install number ∷ fs) all = absurd all.0
fails-of cell (Abandon number ∷ fs) all = absurd all.0

pub fails-state : (w : ℕ) (s : State) (fs : List Entry) → are_fails fs ≡ true → state_after w s fs ≡ s
fails-state w s [] all = refl
fails-state w s (Fail cell lost ∷ fs) all = fails-state w s fs all
fails-state w s (Call session row op ∷ fs) all = absurd (true≢false (sym all))
fails-state w s (Begin number name ∷ fs) all = absurd (true≢false (sym all))
fails-state w s (Install number ∷ fs) all = absurd (true≢false (sym all))
fails-state w s (Abandon number ∷ fs) all = absurd (true≢false (sym all))

pub fails-world : (world : World) (fs : List Entry) → are_fails fs ≡ true → world_after world fs ≡ world
fails-world world [] all = refl
fails-world world (Fail cell lost ∷ fs) all = fails-world world fs all
fails-world world (Call session row op ∷ fs) all = absurd (true≢false (sym all))
fails-world world (Begin number name ∷ fs) all = absurd (true≢false (sym all))
fails-world world (Install number ∷ fs) all = absurd (true≢false (sym all))
fails-world world (Abandon number ∷ fs) all = absurd (true≢false (sym all))

-- the first of some failed appends has the number of them all
pub fails-cell : (cell : ℕ) (fs : List Entry) → AreFailsOf cell fs → fs ≢ [] → failed_cell fs ≡ Some cell
fails-cell cell [] all some = absurd (some refl)
fails-cell cell (Fail number lost ∷ fs) all some = ap Some all.0
fails-cell cell (Call session row op ∷ fs) all some = absurd all.0
fails-cell cell (Begin number name ∷ fs) all some = absurd all.0
fails-cell cell (Install number ∷ fs) all some = absurd all.0
fails-cell cell (Abandon number ∷ fs) all some = absurd all.0

-- a legal history without a failed append goes on by failed appends
pub legal-fails : (w : ℕ) (s : State) (h fs : List Entry) → has_failed h ≡ false → is_legal_history w s h ≡ true → are_fails fs ≡ true → is_legal_history w s (h ++ fs) ≡ true
legal-fails w s h fs sound legal all = legal-append w s h fs sound legal (fails-legal w (state_after w s h) fs all)

-- the lost changes of a batch are failed appends with its number
pub batch_fails-of : (cell : ℕ) (world : World) (session row : ℕ) (ops : List Op) → AreFailsOf cell (batch_fails cell world session row ops)
batch_fails-of cell world session row [] = tt
batch_fails-of cell world session row (op ∷ ops) = by_test (is_change (answer_of world op)) (batch_fails-of cell (after_of world op) session (row + 1) ops)
  where
    by_test : (b : Bool) → AreFailsOf cell (batch_fails cell (after_of world op) session (row + 1) ops)
        → AreFailsOf cell (cond b (Fail cell (lost.Call session row op) ∷ []) [] ++ batch_fails cell (after_of world op) session (row + 1) ops)
    by_test true rest = (refl, rest)
    by_test false rest = rest

pub batch_fails-are : (cell : ℕ) (world : World) (session row : ℕ) (ops : List Op) → are_fails (batch_fails cell world session row ops) ≡ true
batch_fails-are cell world session row ops = fails-of cell (batch_fails cell world session row ops) (batch_fails-of cell world session row ops)

pub batch_fails-length : (cell : ℕ) (world : World) (session row : ℕ) (ops : List Op) → length (batch_fails cell world session row ops) ≤ length ops
batch_fails-length cell world session row [] = omega arith
batch_fails-length cell world session row (op ∷ ops) = by_test (is_change (answer_of world op)) (batch_fails-length cell (after_of world op) session (row + 1) ops)
  where
    by_test : (b : Bool) → length (batch_fails cell (after_of world op) session (row + 1) ops) ≤ length ops
        → length (cond b (Fail cell (lost.Call session row op) ∷ []) [] ++ batch_fails cell (after_of world op) session (row + 1) ops) ≤ suc (length ops)
    by_test true le = omega (arith, le)
    by_test false le = omega (arith, le)

-- a batch with a change has lost one
pub batch_fails-some : (cell : ℕ) (world : World) (session row : ℕ) (ops : List Op) → list_any is_change (answers_to world ops) ≡ true → failed_cell (batch_fails cell world session row ops) ≡ Some cell
batch_fails-some cell world session row [] some = absurd (true≢false (sym some))
batch_fails-some cell world session row (op ∷ ops) some = by_test (is_change (answer_of world op)) some (batch_fails-some cell (after_of world op) session (row + 1) ops)
  where
    by_test : (b : Bool) → (b || list_any is_change (answers_to (after_of world op) ops)) ≡ true
        → (list_any is_change (answers_to (after_of world op) ops) ≡ true → failed_cell (batch_fails cell (after_of world op) session (row + 1) ops) ≡ Some cell)
        → failed_cell (cond b (Fail cell (lost.Call session row op) ∷ []) [] ++ batch_fails cell (after_of world op) session (row + 1) ops) ≡ Some cell
    by_test true some rest = refl
    by_test false some rest = rest some

-- a legal history without a failed append goes on by the lost changes of a batch
pub legal-batch_fails : (w : ℕ) (s : State) (h : List Entry) (cell : ℕ) (world : World) (session row : ℕ) (ops : List Op) → has_failed h ≡ false → is_legal_history w s h ≡ true
    → is_legal_history w s (h ++ batch_fails cell world session row ops) ≡ true
legal-batch_fails w s h cell world session row ops sound legal = legal-fails w s h (batch_fails cell world session row ops) sound legal (batch_fails-are cell world session row ops)

-- then the history names the record of the batch
pub failed_cell-batch_fails : (h : List Entry) (cell : ℕ) (world : World) (session row : ℕ) (ops : List Op) → has_failed h ≡ false → list_any is_change (answers_to world ops) ≡ true
    → failed_cell (h ++ batch_fails cell world session row ops) ≡ Some cell
failed_cell-batch_fails h cell world session row ops sound some = failed_cell-append h (batch_fails cell world session row ops) sound ∙ batch_fails-some cell world session row ops some

-- After a history with failed appends at its end, the state is the same as without them.

pub state_after-fails : (w : ℕ) (s : State) (h fs : List Entry) → are_fails fs ≡ true → state_after w s (h ++ fs) ≡ state_after w s h
state_after-fails w s h fs all = state_after-append w s h fs ∙ fails-state w (state_after w s h) fs all
