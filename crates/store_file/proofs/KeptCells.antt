-- What the file of a log has that keeps a history, and has replaced no other log.
use Rattle.std.proofs.Common.{◌≡◌, ◌∙◌, ℕ, true, List, ◌++◌, Option, Some, None, is_some, refl, sym, ap, subst}
use mathlib.Core.Bool.{true≢false}
use Rattle.cell_format.specs.declared.cell.Cell.{Cell}
use Rattle.disk_trait.specs.Drive.{Drive}
use Rattle.plain_list.specs.declared.entries.Entry.{Entry}
use Rattle.plain_list.specs.State.{State, IsLegal, at_rest, is_legal_history}
use Rattle.plain_list.proofs.Histories.{state_after-world}
use Rattle.plain_list.specs.History.{world_after, failed_cell}
use Rattle.split_log.specs.LogText.{IsLog}
use Rattle.log_state.specs.Recovers.{IsLegalCells, state_of}
use Rattle.log_state.specs.Changes.{cells_of}
use Rattle.log_state.proofs.LegalBehind.{legal_behind, rest_behind}
use Rattle.kept_log.specs.KeptView.{KeptView}
use Rattle.kept_log.specs.Kept.{RecoversTo, renewed_state}
use Rattle.kept_log.specs.Journal.{KeepsLog}

pub some_of : (o : Option (List ℕ)) → is_some o ≡ true → (bytes : List ℕ) × (o ≡ Some bytes)
some_of None is = absurd (true≢false (sym is))
some_of (Some bytes) is = (bytes, refl)

module _ {D : Type 0} (drive : D → Drive) (w : ℕ) (s : State) (h : List Entry) (log : KeptView D) (keeps : KeepsLog drive w s h log) (legal : IsLegal w s h)
    (told : is_some (drive log.disk).bytes ≡ true) (good : failed_cell h ≡ None) where
  -- The bytes of the log at the beginning, and the cells that these bytes recover to.
  pub bytes-first : (bytes : List ℕ) × ((drive log.start).bytes ≡ Some bytes)
  bytes-first = some_of (drive log.start).bytes (sym keeps.told ∙ told)

  pub cells-first : RecoversTo w s bytes-first.0
  cells-first = keeps.from bytes-first.0 bytes-first.1

  -- These cells, and then those of the history.
  abbrev pub cells-kept : List Cell
  cells-kept = cells-first.cells ++ cells_of s.world h

  -- The file is the text of these cells, and a crash leaves that text.
  pub text-kept : IsLog w cells-kept (drive log.disk)
  text-kept = keeps.keeps.text cells-first.cells bytes-first.0 bytes-first.1 cells-first.recovers (keeps.failed ∙ good)

  legal-history : is_legal_history w (at_rest (state_of w cells-first.cells)) h ≡ true
  legal-history = subst (λ (t : State). is_legal_history w t h ≡ true) (sym cells-first.state) legal

  pub legal-kept : IsLegalCells w cells-kept
  legal-kept =
      subst (λ (t : State). IsLegalCells w (cells-first.cells ++ cells_of t.world h)) cells-first.state
      (legal_behind w cells-first.cells h cells-first.recovers.legal legal-history)

  -- These cells leave what the history left, with no open split.
  pub state-kept : at_rest (state_of w cells-kept) ≡ renewed_state w s h
  state-kept =
      subst (λ (t : State). at_rest (state_of w (cells-first.cells ++ cells_of t.world h)) ≡ renewed_state w t h) cells-first.state
      (rest_behind w cells-first.cells h cells-first.recovers.legal legal-history)

  pub world-kept : (state_of w cells-kept).world ≡ world_after s.world h
  world-kept = ap (λ (t : State). t.world) state-kept ∙ state_after-world w s h
