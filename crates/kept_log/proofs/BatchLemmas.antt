-- What an append to a log's file does to each history that a journal keeps. It writes the cells that waited, and more.
use Rattle.std.proofs.Common.{◌≡◌, ◌≢◌, inl, inr, ℕ, ◌+◌, ◌≤◌, true, false, List, [], ◌∷◌, ◌++◌, length, replicate, Option, Some, None, is_some, refl, sym, ◌∙◌, ap, subst, arith, append_assoc, length-append}
use Rattle.std.proofs.lemmas.Bool.{true≢false}
use Rattle.std.proofs.lemmas.List.{append-nil}
use Rattle.cell_format.specs.declared.cell.Cell.{Cell}
use Rattle.plain_list.specs.declared.entries.Entry.{Entry}
use Rattle.plain_list.specs.declared.entries.Entry.TheVariants.{Fail}
use Rattle.plain_list.specs.History.{failed_cell, world_after}
use Rattle.plain_list.specs.State.{State, IsLegal}
use Rattle.plain_list.specs.Batch.{AreFailsOf}
use Rattle.plain_list.proofs.Histories.{has_failed, has_failed-none, failed_cell-append}
use Rattle.plain_list.proofs.Batches.{fails-of, fails-cell}
use Rattle.disk_trait.specs.Drive.{Drive, KeepsLaws}
use Rattle.disk_trait.proofs.Calls.{made-none}
use Rattle.disk_trait.specs.Moments.{LeavesOnly, LeavesNow}
use Rattle.split_log.specs.LogText.{IsLog, HoldsCells, HoldsAllOrNone}
use Rattle.cell_format.specs.Spelling.{newest}
use Rattle.split_log.specs.Append.{AddsAll, AllFail, calls_to_add}
use Rattle.split_log.specs.LogView.{most_cells}
use Rattle.log_state.specs.Recovers.{Recovers}
use Rattle.log_state.specs.Changes.{cells_of, failed_cells, lost_cells}
use Rattle.log_state.proofs.PlacedChanges.{cells_of-append, failed_cells-append}
use Rattle.log_state.proofs.BatchCells.{cells_of-with_fails}
use Rattle.recovery.specs.Calls.{AllWentWell, EndsAtFault}
use Rattle.recovery.proofs.CallLemmas.{well-then, ends-then}
use Rattle.kept_log.specs.KeptView.{KeptView, kept_view}
use Rattle.kept_log.specs.Moved.{alone}
use Rattle.kept_log.specs.declared.faults.AppendAllLost.{AppendAllLost}
use Rattle.kept_log.specs.declared.faults.AppendAllLost.TheVariants.{Disk, Memory}
use Rattle.kept_log.specs.Holding.{AllFailed, HeldOrAdded}
use Rattle.kept_log.specs.Kept.{StartsWith}
use Rattle.kept_log.specs.Steps.{IsNext, AreNext, IsSince}
use Rattle.kept_log.specs.Journal.{KeepsIn, KeepsWaiting, AddedAll, AllMissed, NotAdded, Added, Missed, Synced, NotSynced, AreLost, AreWritten, RecoversWith, LeavesAlone, LeavesNext, LeavesNextAll, LeavesSynced, MadeIn}
use Rattle.kept_log.proofs.Batches.{leaves-all, leaves-all-now, leaves-none, keeps-all, keeps-lost}
use Rattle.kept_log.proofs.InJournal.{unnamed, no_number, same_number, rose_since, with_cell, own-still}
use Rattle.kept_log.proofs.LostCells.{no_step, fails_for, fails_for-are, fails_for-cells, fails_for-some}
use Rattle.kept_log.proofs.Waiting.{at-once-keeps, are-written}

-- Two logs of one opening with the same file and these waiting cells are the same.
pub same_kept : {D : Type 0} (old new : KeptView D) (cells : List Cell) → IsSince (alone old) (alone new) → kept_view new ≡ kept_view old → new.waiting ≡ cells
    → alone new ≡ record (alone old) { waiting = cells }
same_kept old new cells opened same held = λ i. record {
  disk = (same i).disk;
  cells = (same i).cells;
  failed = (same i).failed;
  start = opened.start i;
  first = opened.first i;
  waiting = held i;
  at_sync = opened.at_sync i;
  moves = opened.moves i;
  earlier = None;
}

-- If the first part names no cell, the history names the cell that the second part names.
pub failed_behind : (h es : List Entry) → failed_cell h ≡ None → failed_cell (h ++ es) ≡ failed_cell es
failed_behind h es none = failed_cell-append h es (has_failed-none h none)

module _ {D : Type 0} (drive : D → Drive) (more : List Cell) (old new : KeptView D) (whole : old.failed ≡ None) (room : old.cells + length (old.waiting ++ more) ≤ most_cells)
    (opened : IsSince (alone old) (alone new)) (later : (drive old.disk).faults ≤ (drive new.disk).faults)
    (any_moment : (w : ℕ) (cells : List Cell) → IsLog w cells (drive old.disk) → LeavesOnly (drive old.disk) (drive new.disk) (HoldsAllOrNone w cells (old.waiting ++ more))) where
  module _ (w : ℕ) (s : State) (h g : List Entry) (kept : KeepsWaiting drive w s h (alone old)) where
    none_named : failed_cell h ≡ None
    none_named = sym kept.failed ∙ whole

    none_written : failed_cell kept.written ≡ None
    none_written = sym kept.keeps.failed ∙ whole

    none_failed : has_failed kept.written ≡ false
    none_failed = has_failed-none kept.written none_written

    -- The history's cells with these are those in the file with all that the append writes.
    with_all : cells_of s.world g ≡ cells_of s.world h ++ more → cells_of s.world g ≡ cells_of s.world kept.written ++ (old.waiting ++ more)
    with_all is = is ∙ ap (λ l. l ++ more) kept.cells ∙ append_assoc (cells_of s.world kept.written) old.waiting more

    module _ (legal : IsLegal w s g) (cells : cells_of s.world g ≡ cells_of s.world h ++ more) where
      pub leaves-more : (first written : List Cell) → StartsWith w first (drive old.start) → AreWritten s h (alone old) written
          → LeavesOnly (drive old.disk) (drive new.disk) (RecoversWith w first written s.world g)
      leaves-more first written starts are =
          subst (λ l. LeavesOnly (drive old.disk) (drive new.disk) (RecoversWith w first l s.world g)) (sym (are-written drive w s h (alone old) kept written are))
          (leaves-all drive (old.waiting ++ more) (alone old) (alone new) whole opened any_moment w s kept.written g none_failed legal (with_all cells) kept.keeps.keeps first starts)

      pub leaves-more-now : ((cells : List Cell) → IsLog w cells (drive old.disk) → LeavesNow (drive new.disk) (HoldsAllOrNone w cells (old.waiting ++ more)))
          → (first written : List Cell) → StartsWith w first (drive old.start) → AreWritten s h (alone old) written → LeavesNow (drive new.disk) (RecoversWith w first written s.world g)
      leaves-more-now now first written starts are =
          subst (λ l. LeavesNow (drive new.disk) (RecoversWith w first l s.world g)) (sym (are-written drive w s h (alone old) kept written are))
          (leaves-all-now drive (old.waiting ++ more) (alone old) (alone new) whole opened any_moment w s kept.written g none_failed legal (with_all cells) kept.keeps.keeps now first starts)

      pub leaves-alone : ((cells : List Cell) → IsLog w cells (drive old.disk) → LeavesOnly (drive old.disk) (drive new.disk) (HoldsCells newest w cells))
          → (first written : List Cell) → StartsWith w first (drive old.start) → AreWritten s h (alone old) written → LeavesOnly (drive old.disk) (drive new.disk) (Recovers w (first ++ written))
      leaves-alone none_new first written starts are =
          subst (λ l. LeavesOnly (drive old.disk) (drive new.disk) (Recovers w (first ++ l))) (sym (are-written drive w s h (alone old) kept written are))
          (leaves-none drive (old.waiting ++ more) (alone old) (alone new) whole opened any_moment w s kept.written g none_failed legal (with_all cells) kept.keeps.keeps none_new first starts)

      -- The history with these cells is kept, and no cell waits any more.
      pub keeps-more : AddsAll (old.waiting ++ more) old.cells new.cells new.failed (drive old.disk) (drive new.disk) → new.waiting ≡ [] → failed_cell g ≡ None
          → KeepsIn drive w s g (Some (alone new))
      keeps-more adds none unfailed = at-once-keeps drive w s g (alone new) (record {
        keeps = keeps-all drive (old.waiting ++ more) (alone old) (alone new) whole opened any_moment w s kept.written g none_failed legal (with_all cells) kept.keeps.keeps unfailed adds;
        failed = adds.whole ∙ sym unfailed;
        named = λ n. no_number (failed_cell g) n unfailed;
        most = omega (arith, room, adds.count);
        later = omega (arith, kept.keeps.later, later, ap (λ (d : D). (drive d).faults) opened.start);
        rose = λ still. unnamed (failed_cell g) unfailed;
        calm = λ none. adds.same ∙ kept.keeps.calm none_written ∙ ap (λ (d : D). (drive d).faults) (sym opened.start);
        well = λ none. subst (λ (d : D). AllWentWell (drive d) (drive new.disk)) (sym opened.start)
            (well-then (drive old.start) (drive old.disk) (drive new.disk) (kept.keeps.well none_written) (record { count = calls_to_add (old.waiting ++ more); calls = adds.calls }));
        stopped = λ still. unnamed (failed_cell g) unfailed;
        file = λ all told. ap (λ (d : D). (drive d).attaches) opened.start ∙ kept.keeps.file all (adds.file all told);
        told = adds.told ∙ kept.keeps.told ∙ ap (λ (d : D). is_some (drive d).bytes) (sym opened.start);
        from = λ bytes told. kept.keeps.from bytes (sym (ap (λ (d : D). (drive d).bytes) opened.start) ∙ told);
      }) none

      -- An append of these cells failed. The history that ends with `last` is kept. In the file it ends with failed
      -- appends that have lost the waiting cells too.
      pub keeps-less : (number : ℕ) → AllFail (old.waiting ++ more) number old.cells new.cells new.failed (drive old.disk) (drive new.disk) → new.waiting ≡ old.waiting
          → (last lost : List Entry) → AreFailsOf number last → last ≢ [] → AreFailsOf number lost → lost ≢ [] → failed_cells lost ≡ old.waiting ++ more
          → AreLost old.waiting (failed_cells last) (failed_cells lost) → (old.at_sync ≡ false → (old.waiting ≡ []) × (failed_cells lost ≡ failed_cells last))
          → KeepsIn drive w s (h ++ last) (Some (alone new))
      keeps-less number fails same last lost all some are any lost_all how once =
          let closed : new.failed ≡ Some number = fails.kept ∙ ap Some (sym fails.named) in
          let named : failed_cell (h ++ last) ≡ Some number = failed_behind h last none_named ∙ fails-cell number last all some in
          let named_lost : failed_cell (kept.written ++ lost) ≡ Some number = failed_behind kept.written lost none_written ∙ fails-cell number lost are any in
          let h_last : failed_cells (h ++ last) ≡ failed_cells last = failed_cells-append h last (has_failed-none h none_named) in
          let w_lost : failed_cells (kept.written ++ lost) ≡ failed_cells lost = failed_cells-append kept.written lost none_failed in
          record {
            written = kept.written ++ lost;
            keeps = record {
              keeps = keeps-lost drive (old.waiting ++ more) (alone old) (alone new) whole opened any_moment w s kept.written g none_failed legal (with_all cells) kept.keeps.keeps number closed fails.count
                  (λ cells log. fails.either w cells log) lost (fails-of number lost are) lost_all;
              failed = closed ∙ sym named_lost;
              named = λ n is. same_number n number (sym is ∙ named_lost) ∙ fails.named ∙ sym fails.count;
              most = omega (arith, room, fails.count);
              later = omega (arith, kept.keeps.later, later, ap (λ (d : D). (drive d).faults) opened.start);
              rose = λ still told. rose_since (drive new.start).faults (drive old.disk).faults (drive new.disk).faults
                  (omega (arith, kept.keeps.later, ap (λ (d : D). (drive d).faults) opened.start)) fails.rose;
              calm = λ none. no_number (failed_cell (kept.written ++ lost)) number none named_lost;
              well = λ none. no_number (failed_cell (kept.written ++ lost)) number none named_lost;
              stopped = λ still told. subst (λ (d : D). EndsAtFault (drive d) (drive new.disk)) (sym opened.start)
                  (ends-then (drive old.start) (drive old.disk) (drive new.disk) (kept.keeps.well none_written)
                  (record { went_well = fails.broken.went_well; calls = fails.broken.stops.calls }));
              file = λ all told. ap (λ (d : D). (drive d).attaches) opened.start ∙ kept.keeps.file all (fails.file all told);
              told = fails.told ∙ kept.keeps.told ∙ ap (λ (d : D). is_some (drive d).bytes) (sym opened.start);
              from = λ bytes told. kept.keeps.from bytes (sym (ap (λ (d : D). (drive d).bytes) opened.start) ∙ told);
            };
            cells = cells_of-with_fails s.world h last (fails-of number last all) ∙ kept.cells
                ∙ (λ i. sym (cells_of-with_fails s.world kept.written lost (fails-of number lost are)) i ++ sym same i);
            failed = closed ∙ sym named;
            lost = λ told. subst (λ l. AreLost l (failed_cells (h ++ last)) (failed_cells (kept.written ++ lost))) (sym same)
                (subst (λ l. AreLost old.waiting l (failed_cells (kept.written ++ lost))) (sym h_last) (subst (λ l. AreLost old.waiting (failed_cells last) l) (sym w_lost) how));
            at_once = λ now.
                let (none, alike) = once (sym opened.at_sync ∙ now) in
                (same ∙ none, w_lost ∙ alike ∙ sym h_last);
            most = omega (arith, kept.most, fails.count, ap length same);
          }

  -- The entries come next, and these are their cells.
  next-cells : (w : ℕ) (s : State) (h es : List Entry) → AreNext w s h es more → cells_of s.world (h ++ es) ≡ cells_of s.world h ++ more
  next-cells w s h es next = cells_of-append s.world h es ∙ ap (λ l. cells_of s.world h ++ l) next.cells

  pub leaves-next-all : LeavesNextAll drive more (Some (alone old)) (Some (alone new))
  leaves-next-all w s h es next kept = leaves-more w s h (h ++ es) kept next.legal (next-cells w s h es next)

  pub leaves-alone-all : (w : ℕ) (s : State) (h es : List Entry) → AreNext w s h es more → KeepsIn drive w s h (Some (alone old))
      → ((cells : List Cell) → IsLog w cells (drive old.disk) → LeavesOnly (drive old.disk) (drive new.disk) (HoldsCells newest w cells)) → LeavesAlone drive w s h (Some (alone old)) (Some (alone new))
  leaves-alone-all w s h es next kept = leaves-alone w s h (h ++ es) kept next.legal (next-cells w s h es next)

  module _ (quiet : old.at_sync ≡ false → old.waiting ≡ []) where
    pub added-all : AddsAll (old.waiting ++ more) old.cells new.cells new.failed (drive old.disk) (drive new.disk) → new.waiting ≡ [] → AddedAll drive more (Some (alone old)) (Some (alone new))
    added-all adds none = record {
      count = omega (arith, adds.count, ap length none, length-append old.waiting more);
      calls = λ once. subst (λ l. MadeIn drive (replicate (calls_to_add (l ++ more)) true) (Some (alone old)) (Some (alone new))) (quiet once) adds.calls;
      keeps = λ w s h es next kept.
          keeps-more w s h (h ++ es) kept next.legal (next-cells w s h es next) adds none (failed_behind h es (none_named w s h (h ++ es) kept) ∙ next.sound);
    }

    pub all-missed : (number : ℕ) → AllFail (old.waiting ++ more) number old.cells new.cells new.failed (drive old.disk) (drive new.disk) → new.waiting ≡ old.waiting
        → AllMissed drive more number (Some (alone old)) (Some (alone new))
    all-missed number fails same = record {
      named = fails.named;
      count = omega (arith, fails.count, ap length same);
      written = fails.count;
      closed = fails.kept ∙ ap Some (sym fails.named);
      rose = fails.rose;
      breaks = record {
        went_well = fails.broken.went_well;
        few = fails.broken.stops.few;
        calls = fails.broken.stops.calls;
        unstaged = λ early w s h es next kept. leaves-alone-all w s h es next kept (λ cells log. (fails.broken.leaves w cells log).unstaged early);
      };
      leaves = λ w s h es next kept. leaves-more-now w s h (h ++ es) kept next.legal (next-cells w s h es next) (λ cells log. fails.either w cells log);
      keeps = λ w s h es lost next all some cells kept.
          let both : failed_cells (fails_for number old.waiting ++ lost) ≡ old.waiting ++ failed_cells lost = fails_for-cells number old.waiting lost in
          keeps-less w s h (h ++ es) kept next.legal (next-cells w s h es next) number fails same lost (fails_for number old.waiting ++ lost) all some
          (fails_for-are number old.waiting lost all) (fails_for-some number old.waiting lost some) (both ∙ ap (λ l. old.waiting ++ l) cells) (inl both)
          (λ once. (quiet once, both ∙ ap (λ l. l ++ failed_cells lost) (quiet once)));
    }

next-one : (w : ℕ) (s : State) (h : List Entry) (e : Entry) (cell : Cell) → IsNext w s h e cell → AreNext w s h (e ∷ []) (cell ∷ [])
next-one w s h e cell next = record { legal = next.legal; sound = with_cell (world_after s.world h) e cell next.cells; cells = next.cells }

module _ {D : Type 0} (drive : D → Drive) (cell : Cell) (old new : KeptView D) where
  -- One cell is a batch of one.
  pub added-one : AddedAll drive (cell ∷ []) (Some (alone old)) (Some (alone new)) → Added drive cell (Some (alone old)) (Some (alone new))
  added-one all = record {
    count = omega (arith, all.count);
    calls = all.calls;
    keeps = λ w s h e next. all.keeps w s h (e ∷ []) (next-one w s h e cell next);
  }

  pub missed-one : (number : ℕ) → AllMissed drive (cell ∷ []) number (Some (alone old)) (Some (alone new)) → Missed drive cell number (Some (alone old)) (Some (alone new))
  missed-one number all = record {
    named = all.named;
    count = all.count;
    written = all.written;
    rose = all.rose;
    breaks = record {
      went_well = all.breaks.went_well;
      few = all.breaks.few;
      calls = all.breaks.calls;
      unstaged = λ early w s h e next. all.breaks.unstaged early w s h (e ∷ []) (next-one w s h e cell next);
    };
    keeps = λ w s h e lost next one. all.keeps w s h (e ∷ []) (Fail number lost ∷ []) (next-one w s h e cell next) (refl, tt) (λ none. cc none) (append-nil (lost_cells lost) ∙ one);
  }

  pub leaves-one : LeavesNextAll drive (cell ∷ []) (Some (alone old)) (Some (alone new)) → LeavesNext drive cell (Some (alone old)) (Some (alone new))
  leaves-one all w s h e next = all w s h (e ∷ []) (next-one w s h e cell next)

module _ {D : Type 0} (drive : D → Drive) (more : List Cell) (old : KeptView D) (whole : old.failed ≡ None) (waits : old.at_sync ≡ true) (room : old.cells + length (old.waiting ++ more) ≤ most_cells) where
  -- The cells wait.
  held-all : AddedAll drive more (Some (alone old)) (Some (record (alone old) { waiting = old.waiting ++ more }))
  held-all = record {
    count = omega (arith, length-append old.waiting more);
    calls = λ once. absurd (true≢false (sym waits ∙ once));
    keeps = λ w s h es next kept. record {
      written = kept.written;
      keeps = record {
        keeps = record { count = kept.keeps.keeps.count; since = kept.keeps.keeps.since; text = kept.keeps.keeps.text };
        failed = kept.keeps.failed;
        named = kept.keeps.named;
        most = kept.keeps.most;
        later = kept.keeps.later;
        rose = kept.keeps.rose;
        calm = kept.keeps.calm;
        well = kept.keeps.well;
        stopped = kept.keeps.stopped;
        file = kept.keeps.file;
        told = kept.keeps.told;
        from = kept.keeps.from;
      };
      cells = cells_of-append s.world h es ∙ (λ i. kept.cells i ++ next.cells i) ∙ append_assoc (cells_of s.world kept.written) old.waiting more;
      failed = whole ∙ sym (failed_behind h es (sym kept.failed ∙ whole) ∙ next.sound);
      lost = unnamed old.failed whole;
      at_once = λ once. absurd (true≢false (sym waits ∙ once));
      most = room;
    };
  }

  -- They wait, or they and all that waited were added.
  pub held-or-added : (new : KeptView D) (opened : IsSince (alone old) (alone new)) → (drive old.disk).faults ≤ (drive new.disk).faults
      → ((w : ℕ) (cells : List Cell) → IsLog w cells (drive old.disk) → LeavesOnly (drive old.disk) (drive new.disk) (HoldsAllOrNone w cells (old.waiting ++ more)))
      → HeldOrAdded drive (old.waiting ++ more) new.waiting (kept_view old) (kept_view new) → AddedAll drive more (Some (alone old)) (Some (alone new))
  held-or-added new opened later any_moment (inr (none, adds)) =
      added-all drive more old new whole room opened later any_moment (λ once. absurd (true≢false (sym waits ∙ once))) adds none
  held-or-added new opened later any_moment (inl (held, same)) =
      let is : alone new ≡ record (alone old) { waiting = old.waiting ++ more } = same_kept old new (old.waiting ++ more) opened same held in
      subst (λ (n : KeptView D). AddedAll drive more (Some (alone old)) (Some n)) (sym is) (held-all)

module _ {D : Type 0} (drive : D → Drive) (old new : KeptView D) (whole : old.failed ≡ None) (room : old.cells + length old.waiting ≤ most_cells)
    (opened : IsSince (alone old) (alone new)) (later : (drive old.disk).faults ≤ (drive new.disk).faults)
    (any_moment : (w : ℕ) (cells : List Cell) → IsLog w cells (drive old.disk) → LeavesOnly (drive old.disk) (drive new.disk) (HoldsAllOrNone w cells old.waiting)) where
  none_more : old.waiting ++ [] ≡ old.waiting
  none_more = append-nil old.waiting

  room_too : old.cells + length (old.waiting ++ []) ≤ most_cells
  room_too = subst (λ l. old.cells + length l ≤ most_cells) (sym none_more) room

  any_too : (w : ℕ) (cells : List Cell) → IsLog w cells (drive old.disk) → LeavesOnly (drive old.disk) (drive new.disk) (HoldsAllOrNone w cells (old.waiting ++ []))
  any_too w cells log = subst (λ l. LeavesOnly (drive old.disk) (drive new.disk) (HoldsAllOrNone w cells l)) (sym none_more) (any_moment w cells log)

  pub leaves-synced : LeavesSynced drive (Some (alone old)) (Some (alone new))
  leaves-synced w s h legal kept =
      leaves-more drive [] old new whole room_too opened later any_too w s h (h ++ []) kept (subst (IsLegal w s) (sym (append-nil h)) legal)
      (ap (cells_of s.world) (append-nil h) ∙ sym (append-nil (cells_of s.world h)))

  pub synced : AddsAll old.waiting old.cells new.cells new.failed (drive old.disk) (drive new.disk) → new.waiting ≡ [] → Synced drive (Some (alone old)) (Some (alone new))
  synced adds none = record {
    none_wait = none;
    count = omega (arith, adds.count, ap length none);
    calls = adds.calls;
    keeps = λ w s h legal kept.
        keeps-more drive [] old new whole room_too opened later any_too w s h h kept legal (sym (append-nil (cells_of s.world h)))
        (subst (λ l. AddsAll l old.cells new.cells new.failed (drive old.disk) (drive new.disk)) (sym none_more) adds) none (sym kept.failed ∙ whole);
  }

  pub not-synced : (number : ℕ) → old.at_sync ≡ true → AllFail old.waiting number old.cells new.cells new.failed (drive old.disk) (drive new.disk) → new.waiting ≡ old.waiting
      → NotSynced drive number (Some (alone old)) (Some (alone new))
  not-synced number waits fails same = record {
    named = fails.named;
    count = omega (arith, fails.count, ap length same);
    written = fails.count;
    closed = fails.kept ∙ ap Some (sym fails.named);
    rose = fails.rose;
    keeps = λ w s h lost legal kept.
        let both : failed_cells (fails_for number old.waiting ++ Fail number no_step ∷ []) ≡ old.waiting ++ [] = fails_for-cells number old.waiting (Fail number no_step ∷ []) in
        keeps-less drive [] old new whole room_too opened later any_too w s h h kept legal (sym (append-nil (cells_of s.world h))) number
        (subst (λ l. AllFail l number old.cells new.cells new.failed (drive old.disk) (drive new.disk)) (sym none_more) fails) same
        (Fail number lost ∷ []) (fails_for number old.waiting ++ Fail number no_step ∷ []) (refl, tt) (λ none. cc none)
        (fails_for-are number old.waiting (Fail number no_step ∷ []) (refl, tt)) (fails_for-some number old.waiting (Fail number no_step ∷ []) (λ none. cc none))
        both (inr (both ∙ none_more)) (λ once. absurd (true≢false (sym waits ∙ once)));
  }

-- A sync of the cells that wait.
module _ {D : Type 0} (drive : D → Drive) (old new : KeptView D) (whole : old.failed ≡ None) (ws : List Cell) (held : old.waiting ≡ ws) (room : old.cells + length ws ≤ most_cells)
    (opened : IsSince (alone old) (alone new)) (later : (drive old.disk).faults ≤ (drive new.disk).faults)
    (any_moment : (w : ℕ) (cells : List Cell) → IsLog w cells (drive old.disk) → LeavesOnly (drive old.disk) (drive new.disk) (HoldsAllOrNone w cells ws)) where
  room_held : old.cells + length old.waiting ≤ most_cells
  room_held = subst (λ l. old.cells + length l ≤ most_cells) (sym held) room

  any_held : (w : ℕ) (cells : List Cell) → IsLog w cells (drive old.disk) → LeavesOnly (drive old.disk) (drive new.disk) (HoldsAllOrNone w cells old.waiting)
  any_held w cells log = subst (λ l. LeavesOnly (drive old.disk) (drive new.disk) (HoldsAllOrNone w cells l)) (sym held) (any_moment w cells log)

  pub leaves-released : LeavesSynced drive (Some (alone old)) (Some (alone new))
  leaves-released = leaves-synced drive old new whole room_held opened later any_held

  pub released : AddsAll ws old.cells new.cells new.failed (drive old.disk) (drive new.disk) → new.waiting ≡ [] → Synced drive (Some (alone old)) (Some (alone new))
  released adds none = synced drive old new whole room_held opened later any_held (subst (λ l. AddsAll l old.cells new.cells new.failed (drive old.disk) (drive new.disk)) (sym held) adds) none

  pub not-released : (number : ℕ) → old.at_sync ≡ true → AllFail ws number old.cells new.cells new.failed (drive old.disk) (drive new.disk) → new.waiting ≡ ws
      → NotSynced drive number (Some (alone old)) (Some (alone new))
  not-released number waits fails same =
      not-synced drive old new whole room_held opened later any_held number waits
      (subst (λ l. AllFail l number old.cells new.cells new.failed (drive old.disk) (drive new.disk)) (sym held) fails) (same ∙ sym held)

-- If no cell waits, a sync does nothing.
pub synced-none : {D : Type 0} (drive : D → Drive) (log : KeptView D) → log.waiting ≡ [] → Synced drive (Some (alone log)) (Some (alone log))
synced-none drive log none = record {
  none_wait = none;
  count = refl;
  calls = subst (λ l. MadeIn drive (replicate (calls_to_add l) true) (Some (alone log)) (Some (alone log))) (sym none) (made-none (drive log.disk));
  keeps = λ w s h legal kept. kept;
}

pub leaves-unsynced : {D : Type 0} (drive : D → Drive) (log : KeptView D) → ((d : D) → KeepsLaws (drive d)) → log.failed ≡ None → LeavesSynced drive (Some (alone log)) (Some (alone log))
leaves-unsynced drive log laws whole w s h legal kept = own-still drive w s h [] (alone log) (alone log) refl laws kept whole

-- Without cells that wait, the append writes these alone.
module _ {D : Type 0} (drive : D → Drive) (more : List Cell) (old new : KeptView D) (whole : old.failed ≡ None) (none : old.waiting ≡ []) (same : new.waiting ≡ old.waiting)
    (room : old.cells + length more ≤ most_cells) (opened : IsSince (alone old) (alone new)) (later : (drive old.disk).faults ≤ (drive new.disk).faults)
    (any_moment : (w : ℕ) (cells : List Cell) → IsLog w cells (drive old.disk) → LeavesOnly (drive old.disk) (drive new.disk) (HoldsAllOrNone w cells more)) where
  these : more ≡ old.waiting ++ more
  these = ap (λ l. l ++ more) (sym none)

  room_for : old.cells + length (old.waiting ++ more) ≤ most_cells
  room_for = subst (λ l. old.cells + length l ≤ most_cells) these room

  any_for : (w : ℕ) (cells : List Cell) → IsLog w cells (drive old.disk) → LeavesOnly (drive old.disk) (drive new.disk) (HoldsAllOrNone w cells (old.waiting ++ more))
  any_for w cells log = subst (λ l. LeavesOnly (drive old.disk) (drive new.disk) (HoldsAllOrNone w cells l)) these (any_moment w cells log)

  pub leaves-now : LeavesNextAll drive more (Some (alone old)) (Some (alone new))
  leaves-now = leaves-next-all drive more old new whole room_for opened later any_for

  pub added-now : AddsAll more old.cells new.cells new.failed (drive old.disk) (drive new.disk) → AddedAll drive more (Some (alone old)) (Some (alone new))
  added-now adds =
      added-all drive more old new whole room_for opened later any_for (λ once. none)
      (subst (λ l. AddsAll l old.cells new.cells new.failed (drive old.disk) (drive new.disk)) these adds) (same ∙ none)

  pub missed-now : (number : ℕ) → AllFail more number old.cells new.cells new.failed (drive old.disk) (drive new.disk) → AllMissed drive more number (Some (alone old)) (Some (alone new))
  missed-now number fails =
      all-missed drive more old new whole room_for opened later any_for (λ once. none) number
      (subst (λ l. AllFail l number old.cells new.cells new.failed (drive old.disk) (drive new.disk)) these fails) same

-- The cells that wait, and these after them.
module _ {D : Type 0} (drive : D → Drive) (more : List Cell) (old new : KeptView D) (whole : old.failed ≡ None) (ws : List Cell) (held : old.waiting ≡ ws) (waits : old.at_sync ≡ true)
    (room : old.cells + length (ws ++ more) ≤ most_cells) (opened : IsSince (alone old) (alone new)) (later : (drive old.disk).faults ≤ (drive new.disk).faults)
    (any_moment : (w : ℕ) (cells : List Cell) → IsLog w cells (drive old.disk) → LeavesOnly (drive old.disk) (drive new.disk) (HoldsAllOrNone w cells (ws ++ more))) where
  behind : ws ++ more ≡ old.waiting ++ more
  behind = ap (λ l. l ++ more) (sym held)

  room_behind : old.cells + length (old.waiting ++ more) ≤ most_cells
  room_behind = subst (λ l. old.cells + length l ≤ most_cells) behind room

  any_behind : (w : ℕ) (cells : List Cell) → IsLog w cells (drive old.disk) → LeavesOnly (drive old.disk) (drive new.disk) (HoldsAllOrNone w cells (old.waiting ++ more))
  any_behind w cells log = subst (λ l. LeavesOnly (drive old.disk) (drive new.disk) (HoldsAllOrNone w cells l)) behind (any_moment w cells log)

  pub leaves-held : LeavesNextAll drive more (Some (alone old)) (Some (alone new))
  leaves-held = leaves-next-all drive more old new whole room_behind opened later any_behind

  pub added-held : HeldOrAdded drive (ws ++ more) new.waiting (kept_view old) (kept_view new) → AddedAll drive more (Some (alone old)) (Some (alone new))
  added-held is =
      held-or-added drive more old whole waits room_behind new opened later any_behind
      (subst (λ l. HeldOrAdded drive l new.waiting (kept_view old) (kept_view new)) behind is)

  pub missed-held : (number : ℕ) → AllFail (ws ++ more) number old.cells new.cells new.failed (drive old.disk) (drive new.disk) → new.waiting ≡ ws
      → AllMissed drive more number (Some (alone old)) (Some (alone new))
  missed-held number fails same =
      all-missed drive more old new whole room_behind opened later any_behind (λ once. absurd (true≢false (sym waits ∙ once))) number
      (subst (λ l. AllFail l number old.cells new.cells new.failed (drive old.disk) (drive new.disk)) behind fails) (same ∙ sym held)

-- Without memory nothing changed.
pub unchanged : {D : Type 0} (old new : KeptView D) → IsSince (alone old) (alone new) → kept_view new ≡ kept_view old → new.waiting ≡ old.waiting → ◌≡◌ {A = Option (KeptView D)} (Some (alone new)) (Some (alone old))
unchanged old new opened same held = ap Some (same_kept old new old.waiting opened same held)

pub not-added-now : {D : Type 0} (drive : D → Drive) (more : List Cell) (old new : KeptView D) → ((number : ℕ) → AllFail more number old.cells new.cells new.failed (drive old.disk) (drive new.disk) → AllMissed drive more number (Some (alone old)) (Some (alone new)))
    → IsSince (alone old) (alone new) → new.waiting ≡ old.waiting → (e : AppendAllLost) → AllFailed drive more e (kept_view old) (kept_view new) → NotAdded drive more e (Some (alone old)) (Some (alone new))
not-added-now drive more old new missed opened held (Disk number) fails = missed number fails
not-added-now drive more old new missed opened held Memory same = unchanged old new opened same held

pub not-added-held : {D : Type 0} (drive : D → Drive) (more ws : List Cell) (old new : KeptView D)
    → ((number : ℕ) → AllFail (ws ++ more) number old.cells new.cells new.failed (drive old.disk) (drive new.disk) → new.waiting ≡ ws → AllMissed drive more number (Some (alone old)) (Some (alone new)))
    → IsSince (alone old) (alone new) → old.waiting ≡ ws → (e : AppendAllLost) → AllFailed drive (ws ++ more) e (kept_view old) (kept_view new) × (new.waiting ≡ ws) → NotAdded drive more e (Some (alone old)) (Some (alone new))
not-added-held drive more ws old new missed opened held (Disk number) (fails, same) = missed number fails same
not-added-held drive more ws old new missed opened held Memory (same, waiting) = unchanged old new opened same (waiting ∙ sym held)
