-- Which file a command attaches, and what a refused attach leaves.
use Rattle.std.specs.Prelude.{◌≡◌, ◌≢◌, ◌⊎◌, ◌≤◌, ℕ, Bool, List, None}
use Rattle.causes.specs.Causes.{Rose}
use Rattle.disk_trait.specs.Drive.{Drive, AttachedOne, AttachedAtMost, Stays}
use Rattle.run_ends.specs.declared.refusals.Refusal.{Refusal}
use Rattle.run_ends.specs.declared.refusals.Refusal.TheVariants as refusal
use Rattle.run_ends.specs.Status.{status_of}

-- The command attached this file once and no other file. If the drive failed or memory ran out, it may have attached
-- none.
pub record AttachesOnce (file : List ℕ) (make : Bool) (old new : Drive) (status : ℕ) : Type 0 where
  pub most : AttachedAtMost file make old new
  pub one : status ≢ 7 → status ≢ 9 → AttachedOne file make old new

-- the file was attached, and the drive's fault count is unchanged
pub record Attaches (file : List ℕ) (make : Bool) (old new : Drive) : Type 0 where
  pub named : AttachedOne file make old new
  pub stays : Stays old new
  pub calm : new.faults ≡ old.faults

-- The file was not attached, since the drive failed or memory ran out. The file that was attached before still is.
pub record RefusesAttach (file : List ℕ) (make : Bool) (old new : Drive) (why : Refusal) : Type 0 where
  pub cause : ((why ≡ refusal.Disk None) × Rose old.faults new.faults) ⊎ (why ≡ refusal.Memory)
  pub attached : AttachesOnce file make old new (status_of why)
  pub stays : Stays old new
  pub later : old.faults ≤ new.faults
  pub calm : status_of why ≢ 7 → new.faults ≡ old.faults
