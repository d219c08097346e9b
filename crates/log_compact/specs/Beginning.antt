-- A log that begins with a world and its leaves, as an opening finds it.
use Rattle.std.specs.Prelude.{◌≡◌, ℕ, ◌≤◌, List, length, Some}
use Rattle.cell_format.specs.declared.cell.Cell.{Cell}
use Rattle.cell_format.specs.Spelling.{newest}
use Rattle.disk_trait.specs.Drive.{Drive}
use Rattle.plain_list.specs.State.{ComesBySplits}
use Rattle.split_log.specs.LogText.{IsLog}
use Rattle.split_log.specs.LogView.{most_cells}
use Rattle.log_state.specs.Recovers.{Recovers}
use Rattle.recovery.specs.Found.{Finds, IsFound}
use Rattle.recovery.specs.declared.seen.Seen.{Seen}
use Rattle.log_compact.specs.Fresh.{fresh_cells}

-- What is found in the log that is written of this world and these leaves. The log isn't too long.
pub record IsFresh (w : ℕ) (seen : Seen) : Type 0 where
  pub splits : ComesBySplits w seen.leaves
  pub few : length (fresh_cells w seen.world seen.leaves) ≤ most_cells
  pub finds : Finds w (fresh_cells w seen.world seen.leaves) seen
  pub version : seen.version ≡ newest

-- An opening would find it on the drive, but no call is made. If the bytes are known, they are the text of these cells
-- alone, and a crash leaves them so.
pub record StandsFound (w : ℕ) (seen : Seen) (drive : Drive) : Type 0 where
  pub found : IsFound newest w most_cells drive seen
  pub log : (bytes : List ℕ) → drive.bytes ≡ Some bytes → (cells : List Cell) × (length cells ≡ seen.cells) × Recovers w cells bytes × IsLog w cells drive
