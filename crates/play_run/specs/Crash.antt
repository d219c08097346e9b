-- What a crash leaves of the log of a run.
use Rattle.std.specs.Prelude.{◌≡◌, ◌≢◌, ℕ, List, ◌++◌, slice_index, take, Some}
use Rattle.zorder.specs.Tile.{Tile}
use Rattle.cell_format.specs.declared.cell.Cell.{Cell}
use Rattle.cell_format.specs.Spelling.{newest}
use Rattle.plain_list.specs.World.{World}
use Rattle.plain_list.specs.declared.entries.Entry.{Entry}
use Rattle.disk_trait.specs.Drive.{Drive, IsSynced}
use Rattle.disk_trait.specs.Moments.{LeavesNow, LeavesSince}
use Rattle.recovery.specs.LogText.{IsLog}
use Rattle.log_state.specs.Recovers.{Recovers, state_of}
use Rattle.log_state.specs.Changes.{cells_of, failed_cells, IsWhollyRecovered}
use Rattle.play_run.specs.Origin.{Origin}

-- an image of the newest version that recovers to these records, whose leaves tile the key space
pub record RecoversTo (w : ℕ) (cells : List Cell) (image : List ℕ) : Type 0 where
  pub recovers : Recovers w cells image
  pub tile : Tile (state_of w cells).leaves
  pub version : slice_index image 8 ≡ newest

-- An image that recovers to the first records and some of the history's, in order and without gaps. The record of a
-- failed append may follow them.
abbrev pub RecoversToPrefix : ℕ → List Cell → World → List Entry → List ℕ → Type 0
RecoversToPrefix w first world h image = (m : ℕ) × RecoversTo w (first ++ take m (cells_of world h ++ failed_cells h)) image

-- What a crash leaves of a log to which a run appended the records of its history. `first` are the records at the
-- start.
pub record KeepsAll (w : ℕ) (first : List Cell) (world : World) (h : List Entry) (old new : Drive) (status : ℕ) : Type 0 where
  -- a crash at any moment of the run leaves the first records and a prefix of the history's
  pub any_moment : LeavesSince new old.clock (RecoversToPrefix w first world h)
  -- a crash after the run leaves all of them, and maybe the record of a failed append
  pub at_end : LeavesNow new (IsWhollyRecovered w first world h)
  -- if the drive didn't fail, a crash after the run leaves exactly the first records and the history's
  pub all : status ≢ 7 → LeavesNow new (Recovers w (first ++ cells_of world h))

-- the same from an origin on a log, if the drive's content was known and nothing was pending
abbrev pub KeepsPlayed : Origin → Drive → Drive → ℕ → List Entry → Type 0
KeepsPlayed from old new status h = (bytes : List ℕ) (first : List Cell) → old.bytes ≡ Some bytes → from.first ≡ Some first → IsSynced old
    → KeepsAll from.width first from.state.world h old new status

-- If the drive did not stop the run, the file has exactly the first records and the history's, and a crash leaves it.
-- This holds whatever was pending before.
abbrev pub KeepsText : Origin → Drive → Drive → ℕ → List Entry → Type 0
KeepsText from old new status h = (bytes : List ℕ) (first : List Cell) → old.bytes ≡ Some bytes → from.first ≡ Some first → status ≢ 7
    → IsLog from.width (first ++ cells_of from.state.world h) new
