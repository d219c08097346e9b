-- What the next opening of a file finds, after a store over it was closed whose log a fresh one could replace.
use Rattle.std.proofs.Common.{◌≡◌, ◌∙◌, ℕ, ◌<◌, true, cond, List, [], ◌∷◌, Option, Some, None, is_some, refl, sym, ap, subst, arith}
use Rattle.std.specs.Prelude.{◌&&◌, ◌-◌, map}
use Rattle.std.specs.Cmp.{first_so}
use Rattle.std.specs.List.{AllByRecursion}
use Rattle.atomic_table.specs.Seated.{TableId}
use Rattle.cell_format.specs.declared.cell.Cell.{Cell}
use Rattle.disk_trait.specs.Drive.{Drive}
use Rattle.plain_list.specs.declared.entries.Entry.{Entry}
use Rattle.plain_list.specs.State.{OpenSplit, State, IsLegal, are_fails, at_rest, is_fail, is_free, is_legal_history, is_possible, state_after, step}
use Rattle.plain_list.specs.History.{world_after, failed_cell}
use Rattle.plain_list.proofs.Histories.{failed_cell-append, has_failed-none, legal-rest, state_after-append, state_after-world}
use Rattle.split_log.specs.LogText.{IsLog}
use Rattle.log_state.specs.Recovers.{IsLegalCells, state_of}
use Rattle.kept_log.specs.KeptView.{Earlier, KeptView}
use Rattle.kept_log.specs.Moved.{fewer, lessen, own_entries, own_state, own_view}
use Rattle.kept_log.specs.Journal.{KeepsFrom, KeepsIn, KeepsMoved, KeepsWaiting}
use Rattle.kept_log.proofs.LesserNumbers.{IsAbove, above-step, failed_cell-less, legal-less, step-less}
use Rattle.kept_log.proofs.OwnHistory.{legal-tail}
use Rattle.kept_log.proofs.Waiting.{keeps-synced}
use Rattle.book_lock.specs.Pass.{Known}
use Rattle.sessions.specs.Shared.{start_of}
use Rattle.store_file.specs.Again.{GoesOnFrom}
use Rattle.store_file.specs.Opened.{OpensStore}
use Rattle.store_file.specs.Rotating.{ClosesMoved}
use Rattle.store_file.proofs.Again.{finds-image}
use Rattle.store_file.proofs.KeptCells.{cells-kept, legal-kept, state-kept, text-kept}

-- The drive has the text of these cells, and a crash leaves that text. The cells leave this state, once open splits are
-- given up. But the cells tell of fewer splits, by `skipped`.
pub record HasCellsOf (w : ℕ) (s : State) (drive : Drive) : Type 0 where
  pub cells : List Cell
  pub text : IsLog w cells drive
  pub legal : IsLegalCells w cells
  pub skipped : ℕ
  pub leave : at_rest (state_of w cells) ≡ at_rest (fewer skipped s)

none-skipped : (s : State) → at_rest s ≡ at_rest (fewer 0 s)
none-skipped s =
    let same : s.begun ≡ s.begun - 0 = omega arith in
    λ i. record { world = s.world; leaves = s.leaves; splits = []; begun = same i }

-- A legal history leaves the same state with lesser numbers.
state-less : (n w : ℕ) (s : State) (h : List Entry) → IsAbove n s → is_legal_history w s h ≡ true → state_after w (fewer n s) (map (lessen n) h) ≡ fewer n (state_after w s h)
state-less n w s [] above legal = refl
state-less n w s (e ∷ h) above legal =
    let may = first_so (is_possible w s e && is_free s e) (cond (is_fail e) (are_fails h) (is_legal_history w (step w s e) h)) legal in
    ap (λ (t : State). state_after w t (map (lessen n) h)) (sym (step-less n w s above e may))
    ∙ state-less n w (step w s e) h (above-step n w s above e may) (legal-rest w s e h legal)

-- The own history of a log that has replaced another one leaves the state of the whole history.
module _ {D : Type 0} (drive : D → Drive) (w : ℕ) (s : State) (h : List Entry) (e : Earlier D) (log : KeptView D) (kept : KeepsMoved drive w s h e log) (legal : IsLegal w s h) where
  above : IsAbove e.skipped (state_after w s e.entries)
  above = record { begun = kept.begun; splits = subst (λ (l : List OpenSplit). AllByRecursion (λ (o : OpenSplit). e.skipped < o.number) l) (sym kept.rests) tt }

  legal-after : is_legal_history w (state_after w s e.entries) kept.after ≡ true
  legal-after = legal-tail w s e.entries kept.after (subst (IsLegal w s) kept.parts legal)

  own-legal-after : IsLegal w (own_state w s e) (own_entries e kept.after)
  own-legal-after = legal-less e.skipped w (state_after w s e.entries) kept.after above legal-after

  own-sound : failed_cell (own_entries e kept.after) ≡ failed_cell h
  own-sound =
      failed_cell-less e.skipped kept.after ∙ sym (failed_cell-append e.entries kept.after (has_failed-none e.entries kept.sound))
      ∙ ap failed_cell (sym kept.parts)

  own-leaves : state_after w (own_state w s e) (own_entries e kept.after) ≡ fewer e.skipped (state_after w s h)
  own-leaves =
      state-less e.skipped w (state_after w s e.entries) kept.after above legal-after
      ∙ ap (fewer e.skipped) (sym (state_after-append w s e.entries kept.after) ∙ ap (state_after w s) (sym kept.parts))

module _ {D : Type 0} (drive : D → Drive) (w : ℕ) where
  cells-own : (s : State) (h : List Entry) (log : KeptView D) (skipped : ℕ) (last : State) → at_rest (state_after w s h) ≡ at_rest (fewer skipped last) → KeepsWaiting drive w s h log → IsLegal w s h
      → log.waiting ≡ [] → failed_cell h ≡ None → is_some (drive log.disk).bytes ≡ true → HasCellsOf w last (drive log.disk)
  cells-own s h log skipped last same kept legal none good told =
      let keeps = keeps-synced drive w s h log kept none (kept.failed ∙ good) in
      record {
        cells = cells-kept drive w s h log keeps legal told good;
        text = text-kept drive w s h log keeps legal told good;
        legal = legal-kept drive w s h log keeps legal told good;
        skipped = skipped;
        leave = state-kept drive w s h log keeps legal told good ∙ same;
      }

  module _ (s : State) (h : List Entry) (log : KeptView D) (legal : IsLegal w s h) (none : log.waiting ≡ []) (good : failed_cell h ≡ None) (told : is_some (drive log.disk).bytes ≡ true) where
    cells-from : (earlier : Option (Earlier D)) → KeepsFrom drive w s h log earlier → HasCellsOf w (state_after w s h) (drive log.disk)
    cells-from None kept = cells-own s h log 0 (state_after w s h) (none-skipped (state_after w s h)) kept legal none good told
    cells-from (Some e) kept =
        cells-own (own_state w s e) (own_entries e kept.after) (own_view e log) e.skipped (state_after w s h) (ap at_rest (own-leaves drive w s h e log kept legal)) kept.keeps
        (own-legal-after drive w s h e log kept legal) none (own-sound drive w s h e log kept legal ∙ good) told

    -- A log of whose cells none waits has on its drive what the history left, whether it has replaced another log or not.
    pub cells-in : KeepsIn drive w s h (Some log) → HasCellsOf w (state_after w s h) (drive log.disk)
    cells-in kept = cells-from log.earlier kept

    pub world-in : (kept : KeepsIn drive w s h (Some log)) → (state_of w (cells-in kept).cells).world ≡ world_after s.world h
    world-in kept = ap (λ (t : State). t.world) (cells-in kept).leave ∙ state_after-world w s h

-- A store that was closed, whatever it began from, and however many fresh logs have replaced its log.
module _ {D : Type 0} (drive : D → Drive) (w : ℕ) (last : Known) (disk : D) (closed : ClosesMoved drive w last disk) (told : is_some (drive disk).bytes ≡ true) where
  pub cells-moved : HasCellsOf w (state_after w (start_of last.origin) last.seen) (drive disk)
  cells-moved =
      subst (λ (d : D). HasCellsOf w (state_after w (start_of last.origin) last.seen) (drive d)) closed.disk_is
      (cells-in drive w (start_of last.origin) last.seen closed.log closed.legal closed.none_wait closed.good (ap (λ (d : D). is_some (drive d).bytes) closed.disk_is ∙ told) closed.keeps)

  -- Any drive over the file whose bytes are a crash image of this drive.
  module _ {E : Type 0} (other : E → Drive) (size : ℕ) (also : List ℕ) (key : TableId) (next : Known) (number : ℕ) (newer : Option ℕ) (more : ℕ)
      (image : List ℕ) (left : (drive disk).images image) (new : Drive) (holds : new.bytes ≡ Some image) (again : OpensStore other w size also new key next number newer more) where
    pub finds-cells-moved : again.cells ≡ cells-moved.cells
    finds-cells-moved = finds-image w cells-moved.cells again.cells (drive disk) cells-moved.text image left (again.found.finds image holds)

    -- The next opening begins with the objects and the leaves that the history left, and a number of splits that may be
    -- less.
    pub finds-state-moved : start_of next.origin ≡ at_rest (fewer cells-moved.skipped (state_after w (start_of last.origin) last.seen))
    finds-state-moved = ap (λ (k : Known). start_of k.origin) again.pass_is ∙ ap (λ (l : List Cell). at_rest (state_of w l)) finds-cells-moved ∙ cells-moved.leave

    pub finds-leaves-moved : next.origin.leaves ≡ (state_after w (start_of last.origin) last.seen).leaves
    finds-leaves-moved = ap (λ (s : State). s.leaves) finds-state-moved

    pub finds-moved : GoesOnFrom last.origin last.seen next.origin
    finds-moved = ap (λ (s : State). s.world) finds-state-moved ∙ state_after-world w (start_of last.origin) last.seen
