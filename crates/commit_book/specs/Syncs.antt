-- What a sync of a book returns and leaves.
use Rattle.std.specs.Prelude.{◌≡◌, ℕ, []}
use Rattle.plain_list.specs.declared.entries.Lost.{Lost}
use Rattle.plain_list.specs.declared.entries.Lost.TheVariants.{Abandon}
use Rattle.plain_list.specs.History.{call_count}
use Rattle.kept_log.specs.Journal.{cells_in, waiting_in}
use Rattle.commit_book.specs.BookView.{BookView}

-- The step that a failed sync loses. No split has the number 0, so it is no step of the book: the changes whose records
-- waited were made before.
abbrev pub lost_sync : Lost
lost_sync = Abandon 0

-- No record waits, and the log has as many as before. The history and the leaves are unchanged. The place is that of the
-- last call.
pub record Syncs {D : Type 0} (old new : BookView D) (place : ℕ) : Type 0 where
  pub entries : new.entries ≡ old.entries
  pub leaves : new.leaves ≡ old.leaves
  pub waiting : waiting_in new.log ≡ []
  pub cells : cells_in new.log ≡ cells_in old.log
  pub place_is : place ≡ call_count new.entries
