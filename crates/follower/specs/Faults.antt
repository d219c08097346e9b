-- What the faults of a follower say about its drive.
use Rattle.std.specs.Prelude.{◌≡◌, ◌⊎◌, ℕ, ◌+◌, Bool, true, false}
use Rattle.causes.specs.Causes.{Rose}
use Rattle.disk_trait.specs.Drive.{Drive}
use Rattle.recovery.specs.declared.seen.OpenFault.TheVariants as open_fault
use Rattle.follower.specs.declared.faults.FollowFault.{FollowFault}
use Rattle.follower.specs.declared.faults.FollowFault.TheVariants.{Log, Append, Disk, Memory}

-- Whether the fault says that the drive failed.
abbrev pub is_drives : FollowFault → Bool
is_drives (Log open_fault.Disk) = true
is_drives (Append cell) = true
is_drives Disk = true
is_drives _ = false

-- A result that the bytes don't decide: memory ran out, or the fault count rose.
abbrev pub IsFree : Drive → Drive → FollowFault → Type 0
IsFree old new fault = (fault ≡ Memory) ⊎ (fault ≡ Log open_fault.Memory) ⊎ Rose old.faults new.faults

-- The most cells that a crash leaves, if `held` cells were held: one more after an append that failed.
abbrev pub most_left : FollowFault → ℕ → ℕ
most_left (Append cell) held = held + 1
most_left _ held = held
