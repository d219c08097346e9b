-- What a crash leaves during a call of a book.
use Rattle.std.specs.Prelude.{◌≡◌, ℕ, None}
use Rattle.plain_list.specs.declared.entries.Entry.{Entry}
use Rattle.plain_list.specs.History.{failed_cell}
use Rattle.disk_trait.specs.Drive.{Drive}
use Rattle.kept_log.specs.Journal.{LeavesEither}
use Rattle.commit_book.specs.BookView.{BookView}

-- At every moment of a call a crash leaves the records of the entries before it that were written, or those of all entries
-- before it and the record of its own. If no record waits, all were written. This holds if no append had failed and the
-- log's content at its opening is known.
abbrev pub LeavesCells : {D : Type 0} → (D → Drive) → ℕ → Entry → BookView D → BookView D → Type 0
LeavesCells drive w own old new = failed_cell old.entries ≡ None → LeavesEither drive w old.opening old.entries own old.log new.log
