-- A store over a file that was closed.
use Rattle.std.specs.Prelude.{◌≡◌, ℕ, length, false, Some}
use Rattle.disk_trait.specs.Drive.{Drive}
use Rattle.plain_list.specs.State.{IsLegal}
use Rattle.kept_log.specs.KeptView.{KeptView}
use Rattle.kept_log.specs.Journal.{KeepsLog}
use Rattle.book_lock.specs.Own.{times, once_below}
use Rattle.book_lock.specs.Pass.{Known}
use Rattle.sessions.specs.Shared.{start_in, start_of}

-- The history is what the last pass has seen. All of it is the pass's own, and it is legal from the origin. The log has
-- kept it since the opening, and the fact held of the drive at that moment. If no append has failed, the file is the
-- text of the first cells and of the history's. A crash leaves that text.
pub record ClosesStore {D : Type 0} (drive : D → Drive) (w : ℕ) (Is : Drive → Type 0) (pass : Known) (disk : D) : Type 0 where
  pub own : (p : ℕ) → times p pass.own ≡ once_below p (length pass.seen)
  pub legal : IsLegal w (start_of pass.origin) pass.seen
  pub log : KeptView D
  pub disk_is : log.disk ≡ disk
  pub began : pass.origin.log ≡ Some (start_in drive log)
  -- No fresh log may replace it.
  pub still : log.moves ≡ false
  pub starts : Is (drive log.start)
  pub keeps : KeepsLog drive w (start_of pass.origin) pass.seen log
