-- What an append of many cells does to each history that a log's file keeps.
use Rattle.std.proofs.Common.{◌≡◌, ◌⊎◌, inl, inr, ⊎_elim, ℕ, ◌≤◌, true, false, List, [], ◌++◌, length, Option, Some, None, refl, sym, ◌∙◌, ap, subst, arith, append_assoc, length-append}
use Rattle.std.proofs.lemmas.List.{append-nil}
use Rattle.cell_format.specs.declared.cell.Cell.{Cell}
use Rattle.cell_format.specs.Spelling.{newest}
use Rattle.plain_list.specs.declared.entries.Entry.{Entry}
use Rattle.plain_list.specs.History.{failed_cell}
use Rattle.plain_list.specs.State.{State, IsLegal, empty_state, are_fails, is_legal_history}
use Rattle.plain_list.proofs.Histories.{has_failed, has_failed-none}
use Rattle.disk_trait.specs.Drive.{Drive}
use Rattle.disk_trait.specs.Moments.{LeavesOnly, LeavesNow, LeavesSince}
use Rattle.split_log.specs.LogText.{IsLog, HoldsCells, HoldsAllOrNone}
use Rattle.split_log.specs.Append.{AddsAll}
use Rattle.log_state.specs.Recovers.{Recovers, IsLegalCells, is_legal_cells}
use Rattle.log_state.specs.Changes.{cells_of, failed_cells}
use Rattle.log_state.specs.Keeps.{RecoversAllOrNone}
use Rattle.log_state.proofs.Keeping.{either_since, kept_added, kept_failed, recovers}
use Rattle.log_state.proofs.LegalCells.{legal-front}
use Rattle.log_state.proofs.LegalBehind.{legal_behind}
use Rattle.log_state.proofs.PlacedChanges.{failed_cells-append, failed_cells-none}
use Rattle.log_state.proofs.BatchCells.{cells_of-with_fails}
use Rattle.recovery.specs.Found.{IsNewest}
use Rattle.recovery.proofs.HeadLemmas.{index_version}
use Rattle.kept_log.specs.KeptView.{KeptView}
use Rattle.kept_log.specs.Kept.{StartsWith, KeepsSince, Keeps}
use Rattle.kept_log.specs.Steps.{IsSince}
use Rattle.kept_log.specs.Journal.{RecoversWith}
use Rattle.kept_log.proofs.Starting.{leaves-log}

-- A log's bytes name the newest version, and so does what an append leaves.
newest-all : (w : ℕ) (cells more : List Cell) (c : List ℕ) → HoldsAllOrNone w cells more c → IsNewest c
newest-all w cells more c (inl alone) = index_version newest w cells c alone
newest-all w cells more c (inr both) = index_version newest w (cells ++ more) c both

newest-then : (w : ℕ) (cells more : List Cell) (t : ℕ) (d0 d1 : Drive) → t ≤ d0.clock → LeavesOnly d0 d1 (HoldsAllOrNone w cells more) → LeavesSince d0 t IsNewest
    → LeavesSince d1 t IsNewest
newest-then w cells more t d0 d1 le any_moment so_far c left = ⊎_elim (so_far c) (newest-all w cells more c) (any_moment.before t c le left)

-- The file keeps `h`, and `g` is a legal history with these cells after those of `h`.
module _ (w : ℕ) (s : State) (h g : List Entry) (more : List Cell) (sound : has_failed h ≡ false) (next : IsLegal w s g) (cells : cells_of s.world g ≡ cells_of s.world h ++ more) where
  none_lost : failed_cells h ≡ []
  none_lost = failed_cells-none h sound

  module _ (first : List Cell) (start d0 d1 : Drive) (legal : IsLegalCells w first) (kept : KeepsSince w first s h start d0 None) where
    legal_with : IsLegalCells w (first ++ (cells_of s.world h ++ more))
    legal_with =
        subst (λ l. IsLegalCells w (first ++ l)) cells
        (subst (λ (t : State). IsLegalCells w (first ++ cells_of t.world g)) kept.opening
        (legal_behind w first g legal (subst (λ (t : State). is_legal_history w t g ≡ true) (sym kept.opening) next)))

    pub legal_alone : IsLegalCells w (first ++ cells_of s.world h)
    legal_alone =
        legal-front w empty_state (first ++ cells_of s.world h) more
        (ap (is_legal_cells w empty_state) (append_assoc first (cells_of s.world h) more) ∙ legal_with)

    module _ (any_moment : LeavesOnly d0 d1 (HoldsAllOrNone w (first ++ cells_of s.world h) more)) where
      pub all-kept : LeavesOnly d0 d1 (RecoversAllOrNone w (first ++ cells_of s.world h) more)
      all-kept = either_since w first s.world h more start.clock d0 d1 kept.later none_lost legal_with kept.history any_moment

      pub recovers-all : (c : List ℕ) → HoldsAllOrNone w (first ++ cells_of s.world h) more c → RecoversAllOrNone w (first ++ cells_of s.world h) more c
      recovers-all = recovers w first s.world h more start.clock d0 d1 kept.later none_lost legal_with kept.history any_moment

      pub since-all : failed_cell g ≡ None → IsLog w ((first ++ cells_of s.world h) ++ more) d1 → KeepsSince w first s g start d1 None
      since-all unfailed log = record {
        opening = kept.opening;
        later = omega (arith, kept.later, any_moment.later);
        history = kept_added w first s.world h more start.clock d0 d1 kept.later none_lost legal_with kept.history any_moment g
            (ap (λ l. cells_of s.world g ++ l) (failed_cells-none g (has_failed-none g unfailed))
            ∙ append-nil (cells_of s.world g) ∙ cells)
            cells
            (λ c left. subst (λ l. HoldsCells newest w l c) (append_assoc first (cells_of s.world h) more)
            (leaves-log w ((first ++ cells_of s.world h) ++ more) d1 log c left))
            None log;
        newest = λ here. newest-then w (first ++ cells_of s.world h) more start.clock d0 d1 kept.later any_moment (kept.newest here);
      }

      -- The cells were not added, and the failed appends at the history's end have lost them.
      pub since-lost : (number : ℕ) (lost : List Entry) → are_fails lost ≡ true → failed_cells lost ≡ more → LeavesNow d1 (HoldsAllOrNone w (first ++ cells_of s.world h) more)
          → KeepsSince w first s (h ++ lost) start d1 (Some number)
      since-lost number lost all are now =
          let same : cells_of s.world (h ++ lost) ≡ cells_of s.world h = cells_of-with_fails s.world h lost all in
          record {
            opening = kept.opening;
            later = omega (arith, kept.later, any_moment.later);
            history = kept_failed w first s.world h more start.clock d0 d1 kept.later none_lost legal_with kept.history any_moment (h ++ lost)
                (λ i. same i ++ (failed_cells-append h lost sound ∙ are) i)
                same number now;
            newest = λ here. newest-then w (first ++ cells_of s.world h) more start.clock d0 d1 kept.later any_moment (kept.newest here);
          }

module _ {D : Type 0} (drive : D → Drive) (more : List Cell) (old new : KeptView D) (whole : old.failed ≡ None) (opened : IsSince old new)
    (any_moment : (w : ℕ) (cells : List Cell) → IsLog w cells (drive old.disk) → LeavesOnly (drive old.disk) (drive new.disk) (HoldsAllOrNone w cells more)) where
  module _ (w : ℕ) (s : State) (h : List Entry) (kept : Keeps drive w s h old) (first : List Cell) (starts : StartsWith w first (drive old.start)) where
    still : KeepsSince w first s h (drive old.start) (drive old.disk) None
    still = subst (λ failed. KeepsSince w first s h (drive old.start) (drive old.disk) failed) whole (kept.since first starts)

    log_of : IsLog w (first ++ cells_of s.world h) (drive old.disk)
    log_of = still.history.log refl

    during : LeavesOnly (drive old.disk) (drive new.disk) (HoldsAllOrNone w (first ++ cells_of s.world h) more)
    during = any_moment w (first ++ cells_of s.world h) log_of

  module _ (w : ℕ) (s : State) (h g : List Entry) (unfailed : has_failed h ≡ false) (next : IsLegal w s g) (with_more : cells_of s.world g ≡ cells_of s.world h ++ more) (kept : Keeps drive w s h old) where
    same : (first : List Cell) → (first ++ cells_of s.world h) ++ more ≡ first ++ cells_of s.world g
    same first = append_assoc first (cells_of s.world h) more ∙ ap (λ l. first ++ l) (sym with_more)

    -- At each moment a crash leaves the cells from the start, with all of the new ones or without.
    pub leaves-all : (first : List Cell) → StartsWith w first (drive old.start) → LeavesOnly (drive old.disk) (drive new.disk) (RecoversWith w first (cells_of s.world h) s.world g)
    leaves-all first starts =
        subst (λ (l : List Cell). LeavesOnly (drive old.disk) (drive new.disk) (λ c. Recovers w (first ++ cells_of s.world h) c ⊎ Recovers w l c)) (same first)
        (all-kept w s h g more unfailed next with_more first (drive old.start) (drive old.disk) (drive new.disk) starts.recovers.legal
        (still w s h kept first starts) (during w s h kept first starts))

    -- A crash now does so too, if it does for the cells of any log.
    pub leaves-all-now : ((cells : List Cell) → IsLog w cells (drive old.disk) → LeavesNow (drive new.disk) (HoldsAllOrNone w cells more))
        → (first : List Cell) → StartsWith w first (drive old.start) → LeavesNow (drive new.disk) (RecoversWith w first (cells_of s.world h) s.world g)
    leaves-all-now now first starts c left =
        subst (λ (l : List Cell). Recovers w (first ++ cells_of s.world h) c ⊎ Recovers w l c) (same first)
        (recovers-all w s h g more unfailed next with_more first (drive old.start) (drive old.disk) (drive new.disk) starts.recovers.legal
        (still w s h kept first starts) (during w s h kept first starts) c (now (first ++ cells_of s.world h) (log_of w s h kept first starts) c left))

    -- If no image has a new cell, a crash leaves the cells from the start.
    pub leaves-none : ((cells : List Cell) → IsLog w cells (drive old.disk) → LeavesOnly (drive old.disk) (drive new.disk) (HoldsCells newest w cells))
        → (first : List Cell) → StartsWith w first (drive old.start) → LeavesOnly (drive old.disk) (drive new.disk) (Recovers w (first ++ cells_of s.world h))
    leaves-none alone first starts =
        let only = alone (first ++ cells_of s.world h) (log_of w s h kept first starts) in
        let legal = legal_alone w s h g more unfailed next with_more first (drive old.start) (drive old.disk) (drive new.disk) starts.recovers.legal (still w s h kept first starts) in
        record {
          later = only.later;
          each = λ c left. record { version = newest; known = inr refl; holds = only.each c left; legal = legal };
          before = λ t c le left. ⊎_elim (λ was. inl was) (λ holds. inr (record { version = newest; known = inr refl; holds = holds; legal = legal })) (only.before t c le left);
        }

    -- The history with all these cells is kept.
    pub keeps-all : failed_cell g ≡ None → AddsAll more old.cells new.cells new.failed (drive old.disk) (drive new.disk) → Keeps drive w s g new
    keeps-all sound adds = record {
      count = omega (arith, adds.count, kept.count, opened.first, ap length with_more, length-append (cells_of s.world h) more);
      since = λ first starts.
          subst (λ f. KeepsSince w first s g (drive new.start) (drive new.disk) f) (sym adds.whole)
          (subst (λ (d : D). KeepsSince w first s g (drive d) (drive new.disk) None) (sym opened.start)
          (let before : StartsWith w first (drive old.start) = subst (λ (d : D). StartsWith w first (drive d)) opened.start starts in
          since-all w s h g more unfailed next with_more first (drive old.start) (drive old.disk) (drive new.disk) before.recovers.legal
          (still w s h kept first before) (during w s h kept first before) sound
          (adds.log w (first ++ cells_of s.world h) (log_of w s h kept first before))));
      text = λ first bytes told recovers none.
          subst (λ (l : List Cell). IsLog w l (drive new.disk)) (same first)
          (adds.log w (first ++ cells_of s.world h) (kept.text first bytes (sym (ap (λ (d : D). (drive d).bytes) opened.start) ∙ told) recovers whole));
    }

    -- The history that ends with failed appends which have lost these cells is kept.
    pub keeps-lost : (number : ℕ) → new.failed ≡ Some number → new.cells ≡ old.cells → ((cells : List Cell) → IsLog w cells (drive old.disk) → LeavesNow (drive new.disk) (HoldsAllOrNone w cells more))
        → (lost : List Entry) → are_fails lost ≡ true → failed_cells lost ≡ more → Keeps drive w s (h ++ lost) new
    keeps-lost number closed count now lost all cells = record {
      count = omega (arith, count, kept.count, opened.first, ap length (cells_of-with_fails s.world h lost all));
      since = λ first starts.
          subst (λ f. KeepsSince w first s (h ++ lost) (drive new.start) (drive new.disk) f) (sym closed)
          (subst (λ (d : D). KeepsSince w first s (h ++ lost) (drive d) (drive new.disk) (Some number)) (sym opened.start)
          (let before : StartsWith w first (drive old.start) = subst (λ (d : D). StartsWith w first (drive d)) opened.start starts in
          since-lost w s h g more unfailed next with_more first (drive old.start) (drive old.disk) (drive new.disk) before.recovers.legal
          (still w s h kept first before) (during w s h kept first before)
          number lost all cells (now (first ++ cells_of s.world h) (log_of w s h kept first before))));
      text = λ first bytes told recovers none. absurd (closed_not none closed);
    }
      where
        closed_not : {failed : Option ℕ} {n : ℕ} → failed ≡ None → failed ≡ Some n → ⊥
        closed_not none some = cc (none, some)
