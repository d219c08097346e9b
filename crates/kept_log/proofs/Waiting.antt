-- What a log keeps when cells wait, and what its file keeps.
use Rattle.std.proofs.Common.{◌≡◌, inl, ℕ, ◌+◌, ◌≤◌, Bool, true, false, List, [], ◌++◌, length, Option, Some, None, is_some, refl, sym, ◌∙◌, ap, subst, arith, length-append}
use Rattle.std.proofs.lemmas.List.{append-nil, append_cancel_right}
use Rattle.std.specs.Option.{option_map}
use Rattle.cell_format.specs.declared.cell.Cell.{Cell}
use Rattle.plain_list.specs.declared.entries.Entry.{Entry}
use Rattle.plain_list.specs.History.{failed_cell}
use Rattle.plain_list.specs.State.{State}
use Rattle.plain_list.proofs.Histories.{has_failed-none, failed_cell-append}
use Rattle.disk_trait.specs.Drive.{Drive}
use Rattle.split_log.specs.LogText.{IsLog}
use Rattle.split_log.specs.LogView.{most_cells}
use Rattle.log_state.specs.Changes.{cells_of, failed_cells}
use Rattle.log_state.proofs.Keeping.{kept_quiet}
use Rattle.log_state.proofs.PlacedChanges.{failed_cells-none}
use Rattle.kept_log.specs.KeptView.{KeptView, Earlier}
use Rattle.kept_log.specs.Moved.{own_state, own_entries, own_view}
use Rattle.kept_log.specs.Journal.{KeepsLog, KeepsWaiting, KeepsFrom, KeepsIn, AreWritten, cells_in, written_in, failed_in, waits_from, moves_from}
use Rattle.kept_log.proofs.LesserNumbers.{failed_cell-less}

-- A file that keeps a history keeps each one with the same cells and the same failed appends.
pub keeps-alike : {D : Type 0} (drive : D → Drive) (w : ℕ) (s : State) (g h : List Entry) (log : KeptView D) → cells_of s.world h ≡ cells_of s.world g
    → failed_cells h ≡ failed_cells g → failed_cell h ≡ failed_cell g → KeepsLog drive w s g log → KeepsLog drive w s h log
keeps-alike drive w s g h log cells lost named kept = record {
  keeps = record {
    count = kept.keeps.count ∙ ap (λ l. log.first + length l) (sym cells);
    since = λ first starts.
        let was = kept.keeps.since first starts in
        record {
          opening = was.opening;
          later = was.later;
          history = kept_quiet w first s.world g h (drive log.start).clock (drive log.disk) log.failed cells lost was.history;
          newest = was.newest;
        };
    text = λ first bytes told recovers none. subst (λ (l : List Cell). IsLog w (first ++ l) (drive log.disk)) (sym cells) (kept.keeps.text first bytes told recovers none);
  };
  failed = kept.failed ∙ sym named;
  named = λ n is. kept.named n (sym named ∙ is);
  most = kept.most;
  later = kept.later;
  rose = λ still some. kept.rose still (ap is_some (sym named) ∙ some);
  calm = λ none. kept.calm (sym named ∙ none);
  well = λ none. kept.well (sym named ∙ none);
  stopped = λ still some. kept.stopped still (ap is_some (sym named) ∙ some);
  file = kept.file;
  told = kept.told;
  from = kept.from;
}

-- Where no cell waits for a sync, the file keeps the history.
pub keeps-at-once : {D : Type 0} (drive : D → Drive) (w : ℕ) (s : State) (h : List Entry) (log : KeptView D) → KeepsWaiting drive w s h log → log.at_sync ≡ false
    → KeepsLog drive w s h log
keeps-at-once drive w s h log kept once =
    let (none, lost) = kept.at_once once in
    keeps-alike drive w s kept.written h log (kept.cells ∙ ap (λ l. cells_of s.world kept.written ++ l) none ∙ append-nil (cells_of s.world kept.written)) (sym lost)
    (sym kept.failed ∙ kept.keeps.failed) kept.keeps

-- If no cell waits, what the file keeps is kept.
pub at-once-keeps : {D : Type 0} (drive : D → Drive) (w : ℕ) (s : State) (h : List Entry) (log : KeptView D) → KeepsLog drive w s h log → log.waiting ≡ []
    → KeepsWaiting drive w s h log
at-once-keeps drive w s h log kept none = record {
  written = h;
  keeps = kept;
  cells = sym (ap (λ l. cells_of s.world h ++ l) none ∙ append-nil (cells_of s.world h));
  failed = kept.failed;
  lost = λ some. inl (sym (ap (λ l. l ++ failed_cells h) none));
  at_once = λ once. (none, refl);
  most = omega (arith, kept.most, ap length none);
}

-- After a sync the file keeps the history.
pub keeps-synced : {D : Type 0} (drive : D → Drive) (w : ℕ) (s : State) (h : List Entry) (log : KeptView D) → KeepsWaiting drive w s h log → log.waiting ≡ [] → log.failed ≡ None
    → KeepsLog drive w s h log
keeps-synced drive w s h log kept none sound =
    let named : failed_cell h ≡ failed_cell kept.written = sym kept.failed ∙ kept.keeps.failed in
    let unfailed : failed_cell h ≡ None = sym kept.failed ∙ sound in
    keeps-alike drive w s kept.written h log (kept.cells ∙ ap (λ l. cells_of s.world kept.written ++ l) none ∙ append-nil (cells_of s.world kept.written))
    (failed_cells-none h (has_failed-none h unfailed) ∙ sym (failed_cells-none kept.written (has_failed-none kept.written (sym named ∙ unfailed))))
    named kept.keeps

-- The failed append of a history that a log keeps is the log's.
failed-from : {D : Type 0} (drive : D → Drive) (w : ℕ) (s : State) (h : List Entry) (log : KeptView D) (earlier : Option (Earlier D)) → KeepsFrom drive w s h log earlier
    → log.failed ≡ failed_cell h
failed-from drive w s h log None kept = kept.failed
failed-from drive w s h log (Some e) kept =
    kept.keeps.failed ∙ failed_cell-less e.skipped kept.after
    ∙ sym (failed_cell-append e.entries kept.after (has_failed-none e.entries kept.sound)) ∙ ap failed_cell (sym kept.parts)

pub in-failed : {D : Type 0} (drive : D → Drive) (w : ℕ) (s : State) (h : List Entry) (log : Option (KeptView D)) → KeepsIn drive w s h log → failed_in log ≡ failed_cell h
in-failed drive w s h None kept = sym kept
in-failed drive w s h (Some log) kept = failed-from drive w s h log log.earlier kept

-- It names the first cell that the file may lack.
own-named : {D : Type 0} (drive : D → Drive) (w : ℕ) (s : State) (h : List Entry) (log : KeptView D) (n : ℕ) → KeepsWaiting drive w s h log → log.failed ≡ Some n → n ≡ log.cells
own-named drive w s h log n kept is = kept.keeps.named n (sym kept.keeps.failed ∙ is)

named-from : {D : Type 0} (drive : D → Drive) (w : ℕ) (s : State) (h : List Entry) (log : KeptView D) (n : ℕ) (earlier : Option (Earlier D)) → KeepsFrom drive w s h log earlier
    → log.failed ≡ Some n → n ≡ log.cells
named-from drive w s h log n None kept is = own-named drive w s h log n kept is
named-from drive w s h log n (Some e) kept is = own-named drive w (own_state w s e) (own_entries e kept.after) (own_view e log) n kept.keeps is

pub in-named : {D : Type 0} (drive : D → Drive) (w : ℕ) (s : State) (h : List Entry) (log : Option (KeptView D)) (n : ℕ) → KeepsIn drive w s h log → failed_cell h ≡ Some n
    → n ≡ written_in log
in-named drive w s h None n kept is = absurd (cc (kept, is))
in-named drive w s h (Some log) n kept is = named-from drive w s h log n log.earlier kept (failed-from drive w s h log log.earlier kept ∙ is)

-- A log that has replaced no other one has its first cells and those of the history.
pub own-count : {D : Type 0} (drive : D → Drive) (w : ℕ) (s : State) (h : List Entry) (log : KeptView D) → KeepsWaiting drive w s h log
    → log.cells + length log.waiting ≡ log.first + length (cells_of s.world h)
own-count drive w s h log kept = omega (arith, kept.keeps.keeps.count, ap length kept.cells ∙ length-append (cells_of s.world kept.written) log.waiting)

-- What is kept of a log alike, with cells that wait from now on or not, and with a fresh log in its place from now on or not.
own-alike : {D : Type 0} (drive : D → Drive) (w : ℕ) (s : State) (h : List Entry) (log : KeptView D) (at_sync moves : Bool) → (at_sync ≡ false → log.at_sync ≡ false) → (moves ≡ false → log.moves ≡ false) → KeepsWaiting drive w s h log
    → KeepsWaiting drive w s h (record log { at_sync = at_sync; moves = moves })
own-alike drive w s h log at_sync moves less moved kept = record {
  written = kept.written;
  keeps = record {
    keeps = record { count = kept.keeps.keeps.count; since = kept.keeps.keeps.since; text = kept.keeps.keeps.text };
    failed = kept.keeps.failed;
    named = kept.keeps.named;
    most = kept.keeps.most;
    later = kept.keeps.later;
    rose = λ still. kept.keeps.rose (moved still);
    calm = kept.keeps.calm;
    well = kept.keeps.well;
    stopped = λ still. kept.keeps.stopped (moved still);
    file = kept.keeps.file;
    told = kept.keeps.told;
    from = kept.keeps.from;
  };
  cells = kept.cells;
  failed = kept.failed;
  lost = kept.lost;
  at_once = λ once. kept.at_once (less once);
  most = kept.most;
}

alike-from : {D : Type 0} (drive : D → Drive) (w : ℕ) (s : State) (h : List Entry) (log : KeptView D) (at_sync moves : Bool) → (at_sync ≡ false → log.at_sync ≡ false) → (moves ≡ false → log.moves ≡ false) → (log.moves ≡ true → moves ≡ true)
    → (earlier : Option (Earlier D)) → KeepsFrom drive w s h log earlier → KeepsFrom drive w s h (record log { at_sync = at_sync; moves = moves }) earlier
alike-from drive w s h log at_sync moves less moved still None kept = own-alike drive w s h log at_sync moves less moved kept
alike-from drive w s h log at_sync moves less moved still (Some e) kept = record {
  moves = still kept.moves;
  after = kept.after;
  parts = kept.parts;
  rests = kept.rests;
  begun = kept.begun;
  sound = kept.sound;
  keeps = own-alike drive w (own_state w s e) (own_entries e kept.after) (own_view e log) at_sync moves less moved kept.keeps;
}

-- Nothing that is kept changes when cells wait from now on.
pub in-at-sync : {D : Type 0} (drive : D → Drive) (w : ℕ) (s : State) (h : List Entry) (log : Option (KeptView D)) → KeepsIn drive w s h log
    → KeepsIn drive w s h (option_map waits_from log)
in-at-sync drive w s h None kept = kept
in-at-sync drive w s h (Some log) kept = alike-from drive w s h log true log.moves (λ once. absurd (cc once)) (λ is. is) (λ is. is) log.earlier kept

-- Nor when a fresh log may replace the log from now on.
pub in-moves : {D : Type 0} (drive : D → Drive) (w : ℕ) (s : State) (h : List Entry) (log : Option (KeptView D)) → KeepsIn drive w s h log
    → KeepsIn drive w s h (option_map moves_from log)
in-moves drive w s h None kept = kept
in-moves drive w s h (Some log) kept = alike-from drive w s h log log.at_sync true (λ is. is) (λ still. absurd (cc still)) (λ is. refl) log.earlier kept

-- The written cells are those that the file keeps.
pub are-written : {D : Type 0} (drive : D → Drive) (w : ℕ) (s : State) (h : List Entry) (log : KeptView D) (kept : KeepsWaiting drive w s h log) (written : List Cell)
    → AreWritten s h log written → written ≡ cells_of s.world kept.written
are-written drive w s h log kept written are = append_cancel_right written (cells_of s.world kept.written) log.waiting (sym are ∙ kept.cells)

-- It has at most `most_cells`.
most-from : {D : Type 0} (drive : D → Drive) (w : ℕ) (s : State) (h : List Entry) (log : KeptView D) (earlier : Option (Earlier D)) → KeepsFrom drive w s h log earlier
    → log.cells + length log.waiting ≤ most_cells
most-from drive w s h log None kept = kept.most
most-from drive w s h log (Some e) kept = kept.keeps.most

pub in-most : {D : Type 0} (drive : D → Drive) (w : ℕ) (s : State) (h : List Entry) (log : Option (KeptView D)) → KeepsIn drive w s h log → cells_in log ≤ most_cells
in-most drive w s h None kept = omega arith
in-most drive w s h (Some log) kept = most-from drive w s h log log.earlier kept
