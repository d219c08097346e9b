-- The cells of one entry after a history.
use Rattle.std.proofs.Common.{◌≡◌, ℕ, false, List, [], ◌∷◌, ◌++◌, cond, ◌∙◌, ap}
use Rattle.std.proofs.lemmas.List.{append-nil}
use Rattle.plain_list.specs.declared.ops.Op.{Op}
use Rattle.plain_list.specs.declared.entries.Entry.{Entry}
use Rattle.plain_list.specs.declared.entries.Entry.TheVariants.{Fail, Call}
use Rattle.plain_list.specs.declared.entries.Lost.{Lost}
use Rattle.plain_list.specs.World.{World}
use Rattle.plain_list.specs.Answer.{answer_of, is_change}
use Rattle.log_state.specs.Changes.{cells_of, change_cells}
use Rattle.log_state.proofs.PlacedChanges.{cells_of-append}

-- A call that changes nothing has none.
pub call-no_cells : (world : World) (session row : ℕ) (op : Op) → is_change (answer_of world op) ≡ false
    → cells_of world (Call session row op ∷ []) ≡ []
call-no_cells world session row op change = ap (λ b. cond b (change_cells op) [] ++ []) change
