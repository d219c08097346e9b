-- The operations of a batch, which are one step: their answers, and their entries in a history.
use Rattle.std.specs.Prelude.{◌≡◌, ℕ, ◌+◌, List, [], ◌∷◌, ◌++◌, if◌then◌else◌}
use Rattle.std.specs.List.{AllByRecursion}
use Rattle.plain_list.specs.declared.ops.Op.{Op}
use Rattle.plain_list.specs.declared.ops.Answer.{Answer}
use Rattle.plain_list.specs.declared.entries.Entry.{Entry}
use Rattle.plain_list.specs.declared.entries.Entry.TheVariants.{Fail, Call, Begin, Install, Abandon}
use Rattle.plain_list.specs.declared.entries.Lost.TheVariants as lost
use Rattle.plain_list.specs.World.{World}
use Rattle.plain_list.specs.Answer.{answer_of, after_of, is_change}

-- the answer to each operation, in a world after those before it
abbrev pub answers_to : World → List Op → List Answer
answers_to world [] = []
answers_to world (op ∷ ops) = answer_of world op ∷ answers_to (after_of world op) ops

-- the world after all operations
abbrev pub after_all : World → List Op → World
after_all world [] = world
after_all world (op ∷ ops) = after_all (after_of world op) ops

-- the calls of a session for these operations; the first has this row, and each of the others the next one
abbrev pub batch_calls : ℕ → ℕ → List Op → List Entry
batch_calls session row [] = []
batch_calls session row (op ∷ ops) = Call session row op ∷ batch_calls session (row + 1) ops

-- the failed append of this record for each operation that would have changed the world
abbrev pub batch_fails : ℕ → World → ℕ → ℕ → List Op → List Entry
batch_fails cell world session row [] = []
batch_fails cell world session row (op ∷ ops) =
    (if is_change (answer_of world op) then Fail cell (lost.Call session row op) ∷ [] else []) ++ batch_fails cell (after_of world op) session (row + 1) ops

-- the entry is a failed append of the log record with this number
abbrev pub IsFailOf : ℕ → Entry → Type 0
IsFailOf cell (Fail number lost) = number ≡ cell
IsFailOf cell (Call session row op) = ⊥
IsFailOf cell (Begin number name) = ⊥
IsFailOf cell (Install number) = ⊥
IsFailOf cell (Abandon number) = ⊥

-- all entries are failed appends of the log record with this number
abbrev pub AreFailsOf : ℕ → List Entry → Type 0
AreFailsOf cell fs = AllByRecursion (IsFailOf cell) fs
