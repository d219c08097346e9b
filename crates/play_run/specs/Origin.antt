-- Where a play begins.
use Rattle.std.specs.Prelude.{◌≡◌, ℕ, ◌≤◌, List, length, slice_index, Option, Some, None}
use Rattle.cell_format.specs.declared.cell.Cell.{Cell}
use Rattle.cell_format.specs.Spelling.{newest}
use Rattle.plain_list.specs.State.{State, empty_state, at_rest}
use Rattle.disk_trait.specs.Drive.{Drive}
use Rattle.log_state.specs.Recovers.{IsLegalCells, Recovers, state_of}
use Rattle.zorder.specs.Width.{IsWidth}
use Rattle.run_ends.specs.Limits.{most_played}

-- the width of splits, the state at the beginning, and the records of the log at the beginning, if there is a log
pub record Origin : Type 0 where
  pub width : ℕ
  pub state : State
  pub first : Option (List Cell)

-- without a log a play begins with no objects, and each split makes two children
abbrev pub new_origin : Origin
new_origin = record { width = 1; state = empty_state; first = None }

-- on a log a play begins with the state after its records, with no split open
abbrev pub origin_of : ℕ → List Cell → Origin
origin_of w first = record { width = w; state = at_rest (state_of w first); first = Some first }

-- The origin is the state after legal records of the log's width, at most 16,000,000 of them. If the drive's content is
-- known, its bytes recover to them and are of the newest version.
pub record IsFoundOrigin (drive : Drive) (o : Origin) : Type 0 where
  pub width : ℕ
  pub known : IsWidth width
  pub first : List Cell
  pub legal : IsLegalCells width first
  pub few : length first ≤ most_played
  pub origin_is : o ≡ origin_of width first
  pub recovers : (bytes : List ℕ) → drive.bytes ≡ Some bytes → Recovers width first bytes
  pub version : (bytes : List ℕ) → drive.bytes ≡ Some bytes → slice_index bytes 8 ≡ newest

-- the origin of a play without a log, or on the log in a file
abbrev pub IsOrigin : Option (List ℕ) → Drive → Origin → Type 0
IsOrigin None drive o = o ≡ new_origin
IsOrigin (Some file) drive o = IsFoundOrigin drive o
