-- The cells of a history with more entries.
use Rattle.std.proofs.Common.{◌≡◌, false, cond, List, [], ◌∷◌, ◌++◌, refl, sym, ◌∙◌, ap, append_assoc}
use Rattle.cell_format.specs.declared.cell.Cell.TheVariants as cell
use Rattle.plain_list.specs.declared.entries.Entry.{Entry}
use Rattle.plain_list.specs.declared.entries.Entry.TheVariants.{Fail, Call, Begin, Install, Abandon}
use Rattle.plain_list.specs.World.{World}
use Rattle.plain_list.specs.Answer.{answer_of, after_of, is_change}
use Rattle.plain_list.specs.History.{world_after}
use Rattle.plain_list.proofs.Histories.{has_failed}
use Rattle.log_state.specs.Changes.{cells_of, change_cells, failed_cells}

pub cells_of-append : (world : World) (h g : List Entry) → cells_of world (h ++ g) ≡ cells_of world h ++ cells_of (world_after world h) g
cells_of-append world [] g = refl
cells_of-append world (Call session row op ∷ h) g =
    ap (λ l. (cond (is_change (answer_of world op)) (change_cells op) []) ++ l) (cells_of-append (after_of world op) h g)
    ∙ sym (append_assoc (cond (is_change (answer_of world op)) (change_cells op) []) (cells_of (after_of world op) h) (cells_of (world_after (after_of world op) h) g))
cells_of-append world (Begin number name ∷ h) g = ap (λ l. cell.Begin number name ∷ l) (cells_of-append world h g)
cells_of-append world (Install number ∷ h) g = ap (λ l. cell.Install number ∷ l) (cells_of-append world h g)
cells_of-append world (Abandon number ∷ h) g = ap (λ l. cell.Abandon number ∷ l) (cells_of-append world h g)
cells_of-append world (Fail cell lost ∷ h) g = cells_of-append world h g

pub failed_cells-none : (h : List Entry) → has_failed h ≡ false → failed_cells h ≡ []
failed_cells-none [] sound = refl
failed_cells-none (Call session row op ∷ h) sound = failed_cells-none h sound
failed_cells-none (Begin number name ∷ h) sound = failed_cells-none h sound
failed_cells-none (Install number ∷ h) sound = failed_cells-none h sound
failed_cells-none (Abandon number ∷ h) sound = failed_cells-none h sound
failed_cells-none (Fail cell lost ∷ h) sound = absurd (cc sound)

-- If no append of the first part failed, the failed cells are those of the second part.
pub failed_cells-append : (h g : List Entry) → has_failed h ≡ false → failed_cells (h ++ g) ≡ failed_cells g
failed_cells-append [] g sound = refl
failed_cells-append (Call session row op ∷ h) g sound = failed_cells-append h g sound
failed_cells-append (Begin number name ∷ h) g sound = failed_cells-append h g sound
failed_cells-append (Install number ∷ h) g sound = failed_cells-append h g sound
failed_cells-append (Abandon number ∷ h) g sound = failed_cells-append h g sound
failed_cells-append (Fail cell lost ∷ h) g sound = absurd (cc sound)
