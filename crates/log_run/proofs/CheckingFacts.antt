-- How `check` ends.
use Rattle.std.proofs.Common.{◌≡◌, ◌⊎◌, inl, inr, ◌∙◌, ℕ, false, List, Err, ap, subst}
use Rattle.disk_trait.specs.Drive.{Drive, Stays}
use Rattle.cell_format.specs.declared.cell.Cell.{Cell}
use Rattle.recovery.specs.declared.seen.SeenLog.{SeenLog}
use Rattle.recovery.specs.declared.seen.OpenFault.{OpenFault}
use Rattle.run_ends.specs.declared.refusals.Refusal.{Refusal}
use Rattle.run_ends.specs.declared.refusals.Refusal.TheVariants as refusal
use Rattle.run_ends.specs.Limits.{most_inspected}
use Rattle.io_edge.specs.Streams.{Output}
use Rattle.run_ends.specs.Status.{status_of}
use Rattle.run_ends.specs.Taking.{Refuses}
use Rattle.run_ends.proofs.AttachFacts.{attaches-as}
use Rattle.run_ends.specs.LogFaults.{log_refusal}
use Rattle.log_run.specs.Checking.{IsDecided, IsDecidedBy, IsCheckingCause, HasReadUnless, TellsLog}

-- the line of a refusal is put
pub decided-refused : (old new : Drive) (why : Refusal) (status : ℕ) (before after : Output) → IsDecidedBy {T = SeenLog} most_inspected old new (Err why) → Refuses why status before after → IsDecided old new status before after
decided-refused old new why status before after by refuses = record {
  exact = λ bytes fault told shown wrong calm. named fault (by.exact bytes fault told shown wrong calm);
  whole = λ bytes w cells told known text few calm quiet. inr (refuses.status_is ∙ ap status_of (by.whole bytes w cells told known text few calm));
}
  where
    named : (fault : OpenFault) → (why ≡ log_refusal fault) ⊎ (why ≡ refusal.Memory) → Refuses (log_refusal fault) status before after ⊎ (status ≡ 9)
    named fault (inl e) = inl (subst (λ (r : Refusal). Refuses r status before after) e refuses)
    named fault (inr e) = inr (refuses.status_is ∙ ap status_of e)

-- a log that isn't told
pub told-refused : (text : ℕ → List Cell → List ℕ) (file : List ℕ) (old new : Drive) (why : Refusal) (status : ℕ) (before after : Output) → IsCheckingCause old new why → IsDecidedBy {T = SeenLog} most_inspected old new (Err why)
    → HasReadUnless file old new why → Stays old new → Refuses why status before after → TellsLog text file old new status before after
told-refused text file old new why status before after cause decided read stays refused = record {
  ends = inr (why, cause, refused);
  decided = decided-refused old new why status before after decided refused;
  stays = stays;
  calm = λ seven. read.calm (λ e. seven (refused.status_is ∙ e));
  attached = attaches-as file false old new status (status_of why) refused.status_is read.attached;
}
