-- Which file was attached, by the answer of the attach, and what that says of a log.
use Rattle.std.proofs.Common.{◌≡◌, inl, inr, ℕ, Bool, List, Err, refl, sym, subst}
use Rattle.causes.specs.Causes.{Rose}
use Rattle.disk_trait.specs.declared.disk.AttachFault.{AttachFault}
use Rattle.disk_trait.specs.declared.disk.AttachFault.TheVariants as attach_fault
use Rattle.disk_trait.specs.Drive.{Drive, AttachedOne, CountsAttach, Stays}
use Rattle.run_ends.specs.declared.refusals.Refusal.{Refusal}
use Rattle.run_ends.specs.declared.refusals.Refusal.TheVariants as refusal
use Rattle.run_ends.specs.Attaching.{AttachesOnce, RefusesAttach}
use Rattle.run_ends.specs.LogFaults.{attach_refusal, IsReadingCause}
use Rattle.run_ends.specs.Status.{status_of}

module _ (file : List ℕ) (make : Bool) (a b : Drive) where
  pub attaches-one : (status : ℕ) → AttachedOne file make a b → AttachesOnce file make a b status
  attaches-one status one = record { most = inl one; one = λ drive memory. one }

  pub attaches-as : (status n : ℕ) → status ≡ n → AttachesOnce file make a b n → AttachesOnce file make a b status
  attaches-as status n is attaches = subst (AttachesOnce file make a b) (sym is) attaches

  pub attaches-none : {T : Type 0} (fault : AttachFault) → CountsAttach {T = T} file make a b (Err fault) → AttachesOnce file make a b (status_of (attach_refusal fault))
  attaches-none attach_fault.Disk counts = record { most = inr counts.kept; one = λ drive memory. absurd (drive refl) }
  attaches-none attach_fault.Memory counts = record { most = inr counts.kept; one = λ drive memory. absurd (memory refl) }

  -- an attach that was refused
  pub refuses-attach : {T : Type 0} (fault : AttachFault) → Stays a b → CountsAttach {T = T} file make a b (Err fault) → RefusesAttach file make a b (attach_refusal fault)
  refuses-attach attach_fault.Disk stays counts = record {
    cause = inl (refl, counts.failed refl);
    attached = attaches-none attach_fault.Disk counts;
    stays = stays;
    later = counts.later;
    calm = λ other. absurd (other refl);
  }
  refuses-attach attach_fault.Memory stays counts = record {
    cause = inr refl;
    attached = attaches-none attach_fault.Memory counts;
    stays = stays;
    later = counts.later;
    calm = λ other. counts.memory refl;
  }

  -- why a log isn't read whose file isn't attached
  pub reading-unattached : (oldest most : ℕ) (why : Refusal) → RefusesAttach file make a b why → IsReadingCause oldest most a b why
  reading-unattached oldest most why refuses = elim refuses.cause [
    | inl disk ↦ subst (IsReadingCause oldest most a b) (sym disk.0) disk.1
    | inr memory ↦ subst (IsReadingCause oldest most a b) (sym memory) tt
  ]

  -- where the drive didn't fail, memory ran out
  pub only-memory : (why : Refusal) → RefusesAttach file make a b why → (Rose a.faults b.faults → ⊥) → why ≡ refusal.Memory
  only-memory why refuses calm = elim refuses.cause [ inl disk ↦ absurd (calm disk.1) | inr memory ↦ memory ]
