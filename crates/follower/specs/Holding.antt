-- A log that holds the first of the leader's cells.
use Rattle.std.specs.Prelude.{◌≡◌, ◌⊎◌, ℕ, ◌≤◌, List, length, take, Some}
use Rattle.zorder.specs.Width.{IsWidth}
use Rattle.cell_format.specs.declared.cell.Cell.{Cell}
use Rattle.disk_trait.specs.Drive.{Drive}
use Rattle.disk_trait.specs.Moments.{LeavesOnly}
use Rattle.split_log.specs.LogText.{IsLog}
use Rattle.log_state.specs.Recovers.{Recovers, IsLegalCells}
use Rattle.recovery.specs.Found.{IsNewest}
use Rattle.follower.specs.Follow.{Following, IsSound}

-- The most cells that a log may have to be followed.
abbrev pub most_followed : ℕ
most_followed = 1048576

-- What contracts see of a follower.
pub record FollowerView (D : Type 0) : Type 0 where
  pub disk : D
  pub width : ℕ
  pub state : Following

-- A follower with another state, over the same drive.
abbrev pub with_state : {D : Type 0} → Following → FollowerView D → FollowerView D
with_state {D = D} s f = record { disk = f.disk; width = f.width; state = s }

-- An image of the newest version that recovers to the first of these cells: at least `least`, and at most `most`.
pub record RecoversFirst (w : ℕ) (cells : List Cell) (least most : ℕ) (image : List ℕ) : Type 0 where
  pub count : ℕ
  pub least_is : least ≤ count
  pub most_is : count ≤ most
  pub recovers : Recovers w (take count cells) image
  pub version : IsNewest image

-- A leader's cells: legal, and not too many.
pub record AreLeading (w : ℕ) (cells : List Cell) : Type 0 where
  pub known : IsWidth w
  pub legal : IsLegalCells w cells
  pub few : length cells ≤ most_followed

-- The follower holds the first of these cells, and the leader knows of no more. If its bytes are known, they are the
-- text of these cells, and a crash leaves them so.
pub record HoldsFirst {D : Type 0} (drive : D → Drive) (cells : List Cell) (f : FollowerView D) : Type 0 where
  pub leading : AreLeading f.width cells
  pub few : f.state.held ≤ length cells
  pub sound : IsSound f.state
  pub log : (bytes : List ℕ) → (drive f.disk).bytes ≡ Some bytes → IsLog f.width (take f.state.held cells) (drive f.disk)

-- At each moment a crash leaves the first of these cells: at least `least`, and at most `most`.
abbrev pub LeavesFirst : ℕ → List Cell → ℕ → ℕ → Drive → Drive → Type 0
LeavesFirst w cells least most old new = (bytes : List ℕ) → old.bytes ≡ Some bytes → LeavesOnly old new (RecoversFirst w cells least most)

-- The drive's bytes are unknown.
abbrev pub IsUntold : Drive → Type 0
IsUntold drive = (bytes : List ℕ) → drive.bytes ≡ Some bytes → ⊥
