-- Why a log isn't read that was attached first.
use Rattle.std.proofs.Common.{◌≡◌, ◌⊎◌, inl, inr, ◌∙◌, ℕ, ◌≤◌, List, Some, refl, ap, subst, None}
use Rattle.causes.specs.Causes.{Rose}
use Rattle.disk_trait.specs.Drive.{Drive, Stays}
use Rattle.recovery.specs.Faults.{IsFault}
use Rattle.recovery.specs.Found.{IsFree}
use Rattle.recovery.specs.declared.seen.OpenFault.{OpenFault}
use Rattle.recovery.specs.declared.seen.OpenFault.TheVariants as open_fault
use Rattle.recovery.proofs.OnlyReading.{rose-earlier}
use Rattle.run_ends.specs.declared.refusals.Refusal.TheVariants as refusal
use Rattle.run_ends.specs.LogFaults.{HasFault, IsReadingCause, MayTell, log_refusal}

-- why a log isn't read
pub reading-after : (oldest most : ℕ) (a b c : Drive) (cause : OpenFault) → Stays a b → a.faults ≤ b.faults → ((bytes : List ℕ) → b.bytes ≡ Some bytes → IsFault oldest None most bytes cause)
    → MayTell oldest None most cause → (cause ≡ open_fault.Disk → Rose b.faults c.faults) → IsReadingCause oldest most a c (log_refusal cause)
reading-after oldest most a b c open_fault.NotLog stays later wrong may rose = ((λ bytes told. wrong bytes (stays.bytes ∙ told)), may)
reading-after oldest most a b c (open_fault.OldLog version width) stays later wrong may rose = ((λ bytes told. wrong bytes (stays.bytes ∙ told)), may)
reading-after oldest most a b c (open_fault.Damaged cell cause) stays later wrong may rose = ((λ bytes told. wrong bytes (stays.bytes ∙ told)), may)
reading-after oldest most a b c open_fault.Disk stays later wrong may rose = rose-earlier a.faults b.faults c.faults later (rose refl)
reading-after oldest most a b c open_fault.Memory stays later wrong may rose = tt
reading-after oldest most a b c (open_fault.TooLong limit) stays later wrong may rose =
    subst (λ n. HasFault oldest most a (open_fault.TooLong n)) may ((λ bytes told. wrong bytes (stays.bytes ∙ told)), may)

-- an answer that the bytes don't decide is want of memory where the count didn't rise
pub calm-free : (a b c : Drive) (fault : OpenFault) → a.faults ≤ b.faults → (Rose a.faults c.faults → ⊥) → IsFree b c fault → log_refusal fault ≡ refusal.Memory
calm-free a b c fault later calm (inl e) = ap log_refusal e
calm-free a b c fault later calm (inr rose) = absurd (calm (rose-earlier a.faults b.faults c.faults later rose))

pub calm-named : (a b c : Drive) (why fault : OpenFault) → a.faults ≤ b.faults → (Rose a.faults c.faults → ⊥) → (why ≡ fault) ⊎ IsFree b c why → (log_refusal why ≡ log_refusal fault) ⊎ (log_refusal why ≡ refusal.Memory)
calm-named a b c why fault later calm (inl e) = inl (ap log_refusal e)
calm-named a b c why fault later calm (inr free) = inr (calm-free a b c why later calm free)
