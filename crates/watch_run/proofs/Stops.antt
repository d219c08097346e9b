-- Why a watch stops before the end of a log.
use Rattle.std.proofs.Common.{◌≡◌, ◌⊎◌, inl, inr, ⊎_elim, ℕ, ◌≤◌, List, length, Some, None, Err, refl, ◌∙◌, ap, subst, arith}
use Rattle.causes.specs.Causes.{Rose}
use Rattle.disk_trait.specs.Drive.{Drive, Stays}
use Rattle.cell_format.specs.declared.cell.Cell.{Cell}
use Rattle.log_state.specs.Recovers.{Recovers}
use Rattle.recovery.specs.declared.seen.OpenFault.{OpenFault}
use Rattle.recovery.specs.declared.seen.OpenFault.TheVariants as fault
use Rattle.recovery.specs.Faults.{IsInBytes, IsFault}
use Rattle.recovery.specs.Found.{IsFree}
use Rattle.recovery.specs.Reading.{OnlyReads}
use Rattle.recovery.specs.Walks.{RefusesWalk}
use Rattle.zorder.specs.Width.{IsWidth}
use Rattle.recovery.specs.Widths.{HasWidth}
use Rattle.recovery.proofs.OnlyReading.{stays-trans}
use Rattle.recovery.proofs.WidthLemmas.{recovers_width}
use Rattle.run_ends.specs.declared.refusals.Refusal.{Refusal}
use Rattle.run_ends.specs.declared.refusals.Refusal.TheVariants as refusal
use Rattle.run_ends.specs.Limits.{most_inspected, oldest_read}
use Rattle.run_ends.specs.LogFaults.{HasFault, MayTell, ShowsFault, log_refusal}
use Rattle.run_ends.proofs.LogFaults.{reading-after, calm-free, calm-named}
use Rattle.log_run.specs.Checking.{IsCheckingCause}
use Rattle.log_run.proofs.DriveSteps.{calm-read}
use Rattle.fence_watch.specs.declared.fences.Fence.{Fence}
use Rattle.watch_run.specs.Watching.{IsCrowded, ShowsCrowd}
use Rattle.watch_run.specs.inside.Along.{IsCalm, RefusesAlong}
use Rattle.watch_run.proofs.Crowds.{crowd-recovers, crowd-width}

pub stays-still : (a : Drive) → Stays a a
stays-still a = record { bytes = refl; images = λ c left. left; clock = refl; since = λ t c left. left; keeps = λ t c left. left; calls = λ all told. told }

pub calm-trans : (a b c : Drive) → IsCalm a b → IsCalm b c → IsCalm a c
calm-trans a b c first second = record { stays = stays-trans a b c first.stays second.stays; same = second.same ∙ first.same; file = λ all told. first.file all (second.file all told) }

-- A fault of a call that only reads, and what the bytes say about it.
pub record FailsAlong (fences : List Fence) (old new : Drive) (e : OpenFault) : Type 0 where
  pub wrong : ShowsFault oldest_read None most_inspected old e
  pub may : MayTell oldest_read None most_inspected e
  pub crowd : (bytes : List ℕ) → old.bytes ≡ Some bytes → IsCrowded fences bytes → IsFree old new e
  pub exact : (bytes : List ℕ) (f : OpenFault) → old.bytes ≡ Some bytes → IsInBytes f → IsFault oldest_read None most_inspected bytes f → (e ≡ f) ⊎ IsFree old new e
  pub whole : (bytes : List ℕ) (w : ℕ) (cells : List Cell) → old.bytes ≡ Some bytes → IsWidth w → Recovers w cells bytes → length cells ≤ most_inspected → IsFree old new e
  pub reads : OnlyReads {T = Unit {0}} old new (Err e)

-- The refusal for a fault.
pub refuses-fault : (fences : List Fence) (old new : Drive) (e : OpenFault) → FailsAlong fences old new e → RefusesAlong fences old new (log_refusal e)
refuses-fault fences old new e fails =
    let rose : e ≡ fault.Disk → Rose old.faults new.faults = λ disk. fails.reads.failed (ap (λ (f : OpenFault). Err f) disk) in
    record {
      cause = inl (reading-after oldest_read most_inspected old old new e (stays-still old) (omega arith) fails.wrong fails.may rose);
      over = λ bytes told crowd calm. inr (calm-free old old new e (omega arith) calm (fails.crowd bytes told crowd));
      exact = λ bytes f told shown is none calm. calm-named old old new e f (omega arith) calm (fails.exact bytes f told shown is);
      whole = λ bytes w cells told known recovers few under calm. calm-free old old new e (omega arith) calm (fails.whole bytes w cells told known recovers few);
      stays = fails.reads.stays;
      calm = calm-read old.faults old.faults new.faults e refl fails.reads.same;
    }

-- A lack of memory.
pub refuses-memory : (fences : List Fence) (old new : Drive) → Stays old new → new.faults ≡ old.faults → RefusesAlong fences old new refusal.Memory
refuses-memory fences old new stays same = record {
  cause = inl tt;
  over = λ bytes told crowd calm. inr refl;
  exact = λ bytes f told shown is none calm. inr refl;
  whole = λ bytes w cells told known recovers few under calm. refl;
  stays = stays;
  calm = λ other. same;
}

-- Too many crossings.
pub refuses-crowd : (fences : List Fence) (old new : Drive) → IsCalm old new → ShowsCrowd fences old → RefusesAlong fences old new refusal.LongEvents
refuses-crowd fences old new calm crowd = record {
  cause = inr (refl, crowd);
  over = λ bytes told is steady. inl refl;
  exact = λ bytes f told shown is none steady. absurd (none (crowd bytes told));
  whole = λ bytes w cells told known recovers few under steady. absurd (omega (arith, under, crowd-recovers fences bytes (crowd bytes told) w cells recovers few));
  stays = calm.stays;
  calm = λ other. calm.same;
}

-- What holds of a drive that was only read before.
module _ (a b c : Drive) (stays : Stays a b) (same : b.faults ≡ a.faults) where
  rose-first : Rose b.faults c.faults → Rose a.faults c.faults
  rose-first rose = subst (λ n. Rose n c.faults) same rose

  fault-later : (e : OpenFault) → HasFault oldest_read most_inspected b e → HasFault oldest_read most_inspected a e
  fault-later e has = ((λ bytes told. has.0 bytes (stays.bytes ∙ told)), has.1)

  cause-later : (why : Refusal) → IsCheckingCause b c why → IsCheckingCause a c why
  cause-later refusal.NotLog cause = fault-later fault.NotLog cause
  cause-later (refusal.OldLog version width) cause = fault-later (fault.OldLog version width) cause
  cause-later (refusal.Damaged cell what) cause = fault-later (fault.Damaged cell what) cause
  cause-later (refusal.Disk None) cause = rose-first cause
  cause-later refusal.LongLog cause = fault-later (fault.TooLong most_inspected) cause
  cause-later refusal.Memory cause = tt
  cause-later (refusal.Disk (Some cell)) cause = absurd cause
  cause-later refusal.Usage cause = absurd cause
  cause-later refusal.Header cause = absurd cause
  cause-later (refusal.Csv row) cause = absurd cause
  cause-later (refusal.Field row column) cause = absurd cause
  cause-later refusal.Source cause = absurd cause
  cause-later refusal.LongInput cause = absurd cause
  cause-later refusal.ManyRows cause = absurd cause
  cause-later refusal.LongEvents cause = absurd cause
  cause-later (refusal.Strange cell) cause = absurd cause
  cause-later (refusal.InUse len) cause = absurd cause

  pub refuses-later : (fences : List Fence) (why : Refusal) → RefusesAlong fences b c why → RefusesAlong fences a c why
  refuses-later fences why refuses = record {
    cause = ⊎_elim (λ cause. inl (cause-later why cause)) (λ crowd. inr (crowd.0, λ bytes told. crowd.1 bytes (stays.bytes ∙ told))) refuses.cause;
    over = λ bytes told crowd calm. refuses.over bytes (stays.bytes ∙ told) crowd (λ rose. calm (rose-first rose));
    exact = λ bytes f told shown is none calm. refuses.exact bytes f (stays.bytes ∙ told) shown is none (λ rose. calm (rose-first rose));
    whole = λ bytes w cells told known recovers few under calm. refuses.whole bytes w cells (stays.bytes ∙ told) known recovers few under (λ rose. calm (rose-first rose));
    stays = stays-trans a b c stays refuses.stays;
    calm = λ other. refuses.calm other ∙ same;
  }

-- A head that isn't read.
pub fails-head : (fences : List Fence) (old new : Drive) (e : OpenFault) → OnlyReads {T = Unit {0}} old new (Err e) → RefusesWalk None most_inspected old new e → FailsAlong fences old new e
fails-head fences old new e reads refused = record {
  wrong = refused.fault.shows;
  may = refused.fault.may;
  crowd = λ bytes told crowd. let has = crowd-width fences bytes crowd in refused.named bytes crowd.width told has.known has;
  exact = refused.fault.exact;
  whole = λ bytes w cells told known recovers few. refused.named bytes w told known (recovers_width w cells bytes known recovers);
  reads = reads;
}
