-- The own history of a log that has replaced another one.
use Rattle.std.proofs.Common.{◌≡◌, ℕ, ◌≤◌, ◌<◌, true, List, [], ◌∷◌, ◌++◌, sym, ◌∙◌, ap, subst, append_assoc}
use Rattle.std.specs.Prelude.{map}
use Rattle.std.specs.List.{AllByRecursion}
use Rattle.std.proofs.lemmas.List.{map-append}
use Rattle.cell_format.specs.declared.cell.Cell.{Cell}
use Rattle.plain_list.specs.declared.entries.Entry.{Entry}
use Rattle.plain_list.specs.World.{World}
use Rattle.plain_list.specs.History.{world_after}
use Rattle.plain_list.specs.State.{State, OpenSplit, step, state_after, is_legal_history, IsLegal}
use Rattle.plain_list.proofs.Histories.{legal-rest, world_after-append, state_after-world}
use Rattle.log_state.specs.Changes.{cells_of}
use Rattle.kept_log.specs.KeptView.{Earlier}
use Rattle.kept_log.specs.Moved.{lessen, lessen_cell, own_state, own_entries}
use Rattle.kept_log.specs.Steps.{AreNext}
use Rattle.kept_log.proofs.LesserNumbers.{IsAbove, legal-less, world-less, cells-less, failed_cell-less}

-- What follows in a legal history is legal from the state after what it follows.
pub legal-tail : (w : ℕ) (s : State) (h g : List Entry) → is_legal_history w s (h ++ g) ≡ true → is_legal_history w (state_after w s h) g ≡ true
legal-tail w s [] g legal = legal
legal-tail w s (e ∷ h) g legal = legal-tail w (step w s e) h g (legal-rest w s e (h ++ g) legal)

module _ {D : Type 0} (w : ℕ) (s : State) (h es : List Entry) (b : Earlier D) (after : List Entry) (parts : h ≡ b.entries ++ after) where
  -- The log's own cells tell of these entries.
  pub own-cells : cells_of (world_after (own_state w s b).world (own_entries b after)) (own_entries b es) ≡ map (lessen_cell b.skipped) (cells_of (world_after s.world h) es)
  own-cells =
      cells-less b.skipped (world_after (own_state w s b).world (own_entries b after)) es
      ∙ ap (λ (world : World). map (lessen_cell b.skipped) (cells_of world es))
      (world-less b.skipped (state_after w s b.entries).world after
      ∙ ap (λ (world : World). world_after world after) (state_after-world w s b.entries)
      ∙ sym (world_after-append s.world b.entries after) ∙ ap (world_after s.world) (sym parts))

  module _ (rests : (state_after w s b.entries).splits ≡ []) (begun : b.skipped ≤ (state_after w s b.entries).begun) where
    above : IsAbove b.skipped (state_after w s b.entries)
    above = record { begun = begun; splits = subst (λ (l : List OpenSplit). AllByRecursion (λ (o : OpenSplit). b.skipped < o.number) l) (sym rests) tt }

    -- They may come next in the log's own history.
    pub own-legal : IsLegal w s (h ++ es) → IsLegal w (own_state w s b) (own_entries b after ++ own_entries b es)
    own-legal legal =
        subst (IsLegal w (own_state w s b)) (map-append (lessen b.skipped) after es)
        (legal-less b.skipped w (state_after w s b.entries) (after ++ es) above
        (legal-tail w s b.entries (after ++ es) (subst (IsLegal w s) (ap (λ (l : List Entry). l ++ es) parts ∙ append_assoc b.entries after es) legal)))

    pub own-next : (more : List Cell) → AreNext w s h es more → AreNext w (own_state w s b) (own_entries b after) (own_entries b es) (map (lessen_cell b.skipped) more)
    own-next more next = record {
      legal = own-legal next.legal;
      sound = failed_cell-less b.skipped es ∙ next.sound;
      cells = own-cells ∙ ap (map (lessen_cell b.skipped)) next.cells;
    }
