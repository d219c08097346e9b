-- A log on which a run may continue.
use Rattle.std.specs.Prelude.{◌≡◌, ℕ, List, slice_index, Some}
use Rattle.cell_format.specs.declared.cell.Cell.{Cell}
use Rattle.cell_format.specs.Spelling.{newest}
use Rattle.disk_trait.specs.Drive.{Drive, Only}
use Rattle.log_state.specs.Recovers.{Recovers}
use Rattle.zorder.specs.Width.{IsWidth}

-- Bytes that every command takes for the log of these records: they recover to them, with a width that logs have and
-- the newest version.
pub record IsStanding (w : ℕ) (cells : List Cell) (bytes : List ℕ) : Type 0 where
  pub known : IsWidth w
  pub recovers : Recovers w cells bytes
  pub version : slice_index bytes 8 ≡ newest

-- A drive on which that log stands: its content is known to be such bytes, and nothing is pending. A drive that begins
-- with such bytes after a crash is one too.
pub record HoldsLog (w : ℕ) (cells : List Cell) (drive : Drive) : Type 0 where
  pub bytes : List ℕ
  pub told : drive.bytes ≡ Some bytes
  pub standing : IsStanding w cells bytes
  pub durable : Only bytes drive.images
