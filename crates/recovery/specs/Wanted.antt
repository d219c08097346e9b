-- Which logs are wanted: those of a width that is named, or of either width. Also what may be returned of a log that
-- isn't read, whether its bytes are known or not.
use Rattle.std.specs.Prelude.{◌≡◌, ◌≢◌, ◌⊎◌, ℕ, ◌<◌, Option, Some, None, ⊤}
use Rattle.recovery.specs.declared.seen.OpenFault.{OpenFault}
use Rattle.recovery.specs.declared.seen.OpenFault.TheVariants.{NotLog, OldLog, Damaged, Disk, Memory, TooLong}
use Rattle.recovery.specs.Found.{IsWanted}
use Rattle.zorder.specs.Width.{IsWidth}

-- A log of this width is wanted.
abbrev pub IsWidthFor : Option ℕ → ℕ → Type 0
IsWidthFor (Some w) width = w ≡ width
IsWidthFor None width = IsWidth width

abbrev pub IsNoWidthFor : Option ℕ → ℕ → Type 0
IsNoWidthFor (Some w) width = width ≢ w
IsNoWidthFor None width = (width ≢ 1) × (width ≢ 2)

-- A log of this version and width isn't wanted. `oldest` is the oldest version that is wanted.
abbrev pub IsOtherFor : ℕ → Option ℕ → ℕ → ℕ → Type 0
IsOtherFor oldest wanted version width = (IsWanted oldest version → ⊥) ⊎ IsNoWidthFor wanted width

-- What a call may return. It never rejects a version and width that are wanted, never names a cell at or above `most`,
-- and never names another limit.
abbrev pub MayTell : ℕ → Option ℕ → ℕ → OpenFault → Type 0
MayTell oldest wanted most NotLog = ⊤
MayTell oldest wanted most (OldLog version width) = IsOtherFor oldest wanted version width
MayTell oldest wanted most (Damaged number why) = number < most
MayTell oldest wanted most (TooLong limit) = limit ≡ most
MayTell oldest wanted most Disk = ⊤
MayTell oldest wanted most Memory = ⊤
