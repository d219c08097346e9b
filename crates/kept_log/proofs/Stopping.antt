-- What a log keeps that takes no more cells, though no device call failed.
use Rattle.std.proofs.Common.{◌≡◌, inl, inr, ℕ, true, List, [], ◌∷◌, ◌++◌, Some, None, refl, sym, ◌∙◌, ap, arith}
use Rattle.std.proofs.lemmas.Bool.{true≢false}
use Rattle.std.proofs.lemmas.List.{append-nil}
use Rattle.cell_format.specs.declared.cell.Cell.{Cell}
use Rattle.plain_list.specs.declared.entries.Entry.{Entry}
use Rattle.plain_list.specs.declared.entries.Entry.TheVariants.{Fail}
use Rattle.plain_list.specs.declared.entries.Lost.{Lost}
use Rattle.plain_list.specs.State.{State, IsLegal}
use Rattle.plain_list.specs.History.{failed_cell}
use Rattle.plain_list.proofs.Histories.{has_failed-none, failed_cell-last}
use Rattle.plain_list.specs.Batch.{AreFailsOf}
use Rattle.plain_list.proofs.Batches.{fails-of, fails-cell}
use Rattle.disk_trait.specs.Drive.{Drive, KeepsLaws}
use Rattle.disk_trait.specs.Moments.{LeavesOnly, LeavesNow}
use Rattle.split_log.specs.LogText.{IsLog, HoldsAllOrNone}
use Rattle.log_state.specs.Changes.{failed_cells, lost_cells}
use Rattle.log_state.proofs.PlacedChanges.{failed_cells-append}
use Rattle.log_state.proofs.BatchCells.{cells_of-with_fails}
use Rattle.kept_log.specs.KeptView.{KeptView}
use Rattle.kept_log.specs.Moved.{alone}
use Rattle.kept_log.specs.Steps.{IsSince}
use Rattle.kept_log.specs.Journal.{KeepsWaiting, Stops}
use Rattle.kept_log.proofs.Batches.{keeps-lost}
use Rattle.kept_log.proofs.BatchLemmas.{failed_behind}
use Rattle.kept_log.proofs.InJournal.{no_number, same_number}
use Rattle.kept_log.proofs.LostCells.{no_step, fails_for, fails_for-are, fails_for-cells, fails_for-some}
use Rattle.kept_log.proofs.Starting.{leaves-log}

-- A log by itself is stopped.
module _ {D : Type 0} (drive : D → Drive) (old : KeptView D) (whole : old.failed ≡ None) (may : old.moves ≡ true) where
  abbrev new : KeptView D
  new = record (alone old) { failed = Some old.cells }

  opened : IsSince (alone old) new
  opened = record { start = refl; first = refl; at_sync = refl; moves = refl; earlier = refl }

  still : (w : ℕ) (cells more : List Cell) → IsLog w cells (drive old.disk) → LeavesNow (drive old.disk) (HoldsAllOrNone w cells more)
  still w cells more log c left = inl (leaves-log w cells (drive old.disk) log c left)

  module _ (laws : (d : D) → KeepsLaws (drive d)) (w : ℕ) (s : State) (h : List Entry) (lost : Lost) (legal : IsLegal w s h) (none : lost_cells lost ≡ []) (kept : KeepsWaiting drive w s h (alone old)) where
    during : (w : ℕ) (cells : List Cell) → IsLog w cells (drive old.disk) → LeavesOnly (drive old.disk) (drive old.disk) (HoldsAllOrNone w cells old.waiting)
    during w cells log = record {
      later = omega arith;
      each = λ c left. still w cells old.waiting log c ((laws old.disk).only_now c left);
      before = λ t c early left. inl left;
    }

    unfailed : failed_cell h ≡ None
    unfailed = sym kept.failed ∙ whole

    written_unfailed : failed_cell kept.written ≡ None
    written_unfailed = sym kept.keeps.failed ∙ whole

    abbrev last : List Entry
    last = fails_for old.cells old.waiting ++ Fail old.cells no_step ∷ []

    last_cells : failed_cells last ≡ old.waiting
    last_cells = fails_for-cells old.cells old.waiting (Fail old.cells no_step ∷ []) ∙ append-nil old.waiting

    written_named : failed_cell (kept.written ++ last) ≡ Some old.cells
    written_named =
        failed_behind kept.written last written_unfailed
        ∙ fails-cell old.cells last (fails_for-are old.cells old.waiting (Fail old.cells no_step ∷ []) (refl, tt)) (fails_for-some old.cells old.waiting (Fail old.cells no_step ∷ []) (λ none. cc none))

    named : failed_cell (h ++ Fail old.cells lost ∷ []) ≡ Some old.cells
    named = failed_cell-last h old.cells lost (has_failed-none h unfailed)

    are : failed_cells (kept.written ++ last) ≡ old.waiting
    are = failed_cells-append kept.written last (has_failed-none kept.written written_unfailed) ∙ last_cells

    lost_none : failed_cells (h ++ Fail old.cells lost ∷ []) ≡ []
    lost_none = failed_cells-append h (Fail old.cells lost ∷ []) (has_failed-none h unfailed) ∙ append-nil (lost_cells lost) ∙ none

    all : AreFailsOf old.cells last
    all = fails_for-are old.cells old.waiting (Fail old.cells no_step ∷ []) (refl, tt)

    pub own-stopped : KeepsWaiting drive w s (h ++ Fail old.cells lost ∷ []) new
    own-stopped = record {
      written = kept.written ++ last;
      keeps = record {
        keeps = keeps-lost drive old.waiting (alone old) new whole opened during w s kept.written h (has_failed-none kept.written written_unfailed) legal kept.cells
            kept.keeps.keeps old.cells refl refl (λ cells log. still w cells old.waiting log) last (fails-of old.cells last all) last_cells;
        failed = sym written_named;
        named = λ n is. same_number n old.cells (sym is ∙ written_named);
        most = kept.keeps.most;
        later = kept.keeps.later;
        rose = λ fixed. absurd (true≢false (sym may ∙ fixed));
        calm = λ none. no_number (failed_cell (kept.written ++ last)) old.cells none written_named;
        well = λ none. no_number (failed_cell (kept.written ++ last)) old.cells none written_named;
        stopped = λ fixed. absurd (true≢false (sym may ∙ fixed));
        file = kept.keeps.file;
        told = kept.keeps.told;
        from = kept.keeps.from;
      };
      cells = cells_of-with_fails s.world h (Fail old.cells lost ∷ []) refl ∙ kept.cells
          ∙ ap (λ l. l ++ old.waiting) (sym (cells_of-with_fails s.world kept.written last (fails-of old.cells last all)));
      failed = sym named;
      lost = λ told. inr are;
      at_once = λ once.
          let (no_cell, alike) = kept.at_once once in
          (no_cell, are ∙ no_cell ∙ sym lost_none);
      most = kept.most;
    }

  pub own-stops : ((d : D) → KeepsLaws (drive d)) → Stops drive old.cells (Some (alone old)) (Some new)
  own-stops laws = record {
    named = refl;
    count = refl;
    written = refl;
    closed = refl;
    disk = refl;
    keeps = λ w s h lost legal none kept. own-stopped laws w s h lost legal none kept;
  }
