-- The head of a log, and the width that it names.
use Rattle.std.specs.Prelude.{◌≡◌, ◌≢◌, ◌⊎◌, ℕ, ◌<◌, List, length, take, drop, replicate, slice_index, Some}
use Rattle.cell_format.specs.Spelling.{newest, header_text}
use Rattle.disk_trait.specs.Drive.{Drive}
use Rattle.recovery.specs.Found.{IsWanted}
use Rattle.zorder.specs.Width.{IsWidth}

-- The bytes don't begin with the eight letters, or one of bytes 10 to 15 isn't 0.
abbrev pub HasOtherHead : List ℕ → Type 0
HasOtherHead bytes = (take 8 bytes ≢ take 8 (header_text newest 1)) ⊎ (take 6 (drop 10 bytes) ≢ replicate 6 0)

-- The bytes are fewer than 17, or have another head.
abbrev pub IsNotLog : List ℕ → Type 0
IsNotLog bytes = (length bytes < 17) ⊎ HasOtherHead bytes

-- The bytes are a log of version 1 or 2, and of this width.
pub record HasWidth (w : ℕ) (bytes : List ℕ) : Type 0 where
  pub is_log : IsNotLog bytes → ⊥
  pub version : IsWanted 1 (slice_index bytes 8)
  pub named : w ≡ slice_index bytes 9
  pub known : IsWidth w

-- A width that logs have. If the drive's bytes are known, they are a log of this width.
pub record IsWidthOf (drive : Drive) (w : ℕ) : Type 0 where
  pub known : IsWidth w
  pub named : (bytes : List ℕ) → drive.bytes ≡ Some bytes → HasWidth w bytes
