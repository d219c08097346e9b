-- An opened log on which a book begins.
use Rattle.std.specs.Prelude.{◌≡◌, ℕ, None}
use Rattle.cell_format.specs.Spelling.{newest}
use Rattle.disk_trait.specs.Drive.{Drive}
use Rattle.split_log.specs.LogView.{LogView, most_cells}
use Rattle.recovery.specs.Found.{IsFound}
use Rattle.recovery.specs.declared.seen.Seen.{Seen}
use Rattle.kept_log.specs.Kept.{IsOpened, found_state}

-- A log as it was opened on the drive `start`. It has as many records as were found, and no append has failed. It was
-- opened at the state that was found, with no split open.
pub record IsOpenedLog {D : Type 0} (drive : D → Drive) (w : ℕ) (seen : Seen) (start : D) (log : LogView D) : Type 0 where
  pub counts : log.cells ≡ seen.cells
  pub good : log.failed ≡ None
  pub found : IsFound newest w most_cells (drive start) seen
  pub ready : IsOpened w (found_state seen) (drive start) (drive log.disk)
